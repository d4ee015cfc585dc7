-- `formula_size::formula_size` meets its contract: the instance check decides, or the counts are those of the formula. Assumes nothing.
use mathlib.Core.Path.{refl, sym, ◌∙◌}
use Rattle.instance.specs.Problem.{ProblemOf}
use Rattle.instance.proofs.Call.{passed}
use Rattle.answers.proofs.Returned.{size_passed_on}
use Rattle.formula.specs.Formula.{formula}
use Rattle.formula.proofs.Held.{word_count_held, clause_count_held}
use Rattle.formula_size.proofs.Laws.{refuses, accepts}
use Rattle.formula_size.proofs.formula_size.Goals as goal

pub returns-in_err-problem : goal.returns-in_err-problem
returns-in_err-problem c =
    size_passed_on _ _ c.from_residual.ensures.1 (refuses formula c.args.b.now c.args.m c.args.rule _ c.in_err-problem.ensures.answer)

pub returns : goal.returns
returns c =
    let a = c.in_ok-problem.ensures.answer in
    let e = c.in_ok-problem.ensures.problem in
    let w : ProblemOf c.args.b.now c.in_ok-problem.problem = passed c.args.b.now c.args.m c.args.rule _ _ a e refl in
    accepts formula c.args.b.now c.args.m c.args.rule c.in_ok-problem.problem a e _ _
    (word_count_held _ _ w ∙ sym c.word_count-words.ensures) (clause_count_held _ _ w ∙ sym c.clause_count-clauses.ensures)
