-- `ceiling_size::check_ceiling` meets its contract: a refusal of either kind is passed on. Assumes nothing.
use Rattle.answers.proofs.Returned.{passed_on}
use Rattle.ceiling_size.proofs.check_ceiling.Goals as goal

pub returns-in_err-problem-clause-answer : goal.returns-in_err-problem-clause-answer
returns-in_err-problem-clause-answer c = passed_on _ _ c.from_residual.result c.from_residual.ensures.1 c.in_err-problem.ensures.answer
