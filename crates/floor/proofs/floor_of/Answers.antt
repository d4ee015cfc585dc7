-- `floor::floor_of` meets its contract: the instance check decides, or the loop over the agents does. Assumes nothing.
use mathlib.Core.Path.{◌∙◌}
use Rattle.answers.proofs.Returned.{passed_on}
use Rattle.floor.proofs.Laws.{refuses, answers}
use Rattle.floor.proofs.floor_of.Goals as goal

pub returns-in_err-problem : goal.returns-in_err-problem
returns-in_err-problem c =
    passed_on _ _ c.from_residual.result c.from_residual.ensures.1 (refuses c.args.b.now _ c.in_err-problem.ensures.answer)

pub returns : goal.returns
returns c = c.measure.ensures ∙ answers c.args.b.now c.in_ok-problem.problem c.in_ok-problem.ensures.answer c.in_ok-problem.ensures.problem _ c.table_of-table.ensures.1
