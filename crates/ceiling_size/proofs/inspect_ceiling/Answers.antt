-- `ceiling_size::inspect_ceiling` meets its contract: 32 is asked where the instance check accepts. Assumes nothing.
use mathlib.Core.Path.{refl, ◌∙◌, ap}
use native.Mathlib.Omega.{arith}
use Rattle.answers.specs.Returned.{refused}
use Rattle.calls.proofs.Ceiling.{check_high, check_passes}
use Rattle.ceiling_size.proofs.Laws.{check_refused, inspected_passed, unchecked_passed}
use Rattle.ceiling_size.proofs.inspect_ceiling.Goals as goal

pub returns-in_err-problem-clause-answer : goal.returns-in_err-problem-clause-answer
returns-in_err-problem-clause-answer c =
    inspected_passed _ c.from_residual.result c.from_residual.ensures.1 (check_refused c.args.b.now c.args.m c.args.rule c.args.c _ c.in_err-problem.ensures.answer)

pub returns-in_err-problem-clause-checked : goal.returns-in_err-problem-clause-checked
returns-in_err-problem-clause-checked c = unchecked_passed _ c.from_residual.result c.from_residual.ensures.1 c.in_err-problem.ensures.checked

pub returns-then-c-gt128-clause-answer : goal.returns-then-c-gt128-clause-answer
returns-then-c-gt128-clause-answer c =
    ap refused c.at.ensures ∙ check_high c.args.b.now c.args.m c.args.rule c.args.c _ c.in_ok-problem.ensures.answer refl c.if-c-gt128.true

pub returns-clause-answer : goal.returns-clause-answer
returns-clause-answer c = check_passes c.args.b.now c.args.m c.args.rule c.args.c _ c.in_ok-problem.ensures.answer refl (omega arith)
