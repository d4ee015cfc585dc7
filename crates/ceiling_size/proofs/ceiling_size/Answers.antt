-- `ceiling_size::ceiling_size` meets its contract: the check decides, or the counts are those of the formula with the ceiling. Assumes nothing.
use native.Mathlib.Omega.{arith}
use Rattle.answers.proofs.Returned.{size_passed_on}
use Rattle.formula.proofs.Limits.{clauses_most, words_top}
use Rattle.ceiling.specs.Ceiling.{ceiling_count, ceiling_words}
use Rattle.ceiling_size.proofs.Laws.{size_refused_by, size_found}
use Rattle.ceiling_size.proofs.ceiling_size.Goals as goal

pub returns-in_err-problem : goal.returns-in_err-problem
returns-in_err-problem c =
    size_passed_on _ _ c.from_residual.ensures.1 (size_refused_by c.args.b.now c.args.m c.args.rule c.args.c _ c.in_err-problem.ensures.answer)

pub overflow_add-result : goal.overflow_add-result
overflow_add-result c = omega (arith, words_top _ c.in_ok-problem.problem.shape.limits)

pub overflow_add-result-2 : goal.overflow_add-result-2
overflow_add-result-2 c = omega (arith, clauses_most _ c.in_ok-problem.problem.shape.limits)

pub returns : goal.returns
unfolding ceiling_count ceiling_words
returns c =
    let found = c.in_ok-problem.ensures.found in
    let more = rw found.1 at c.added-more.ensures.variables_value in
    size_found c.args.b.now c.args.m c.args.rule c.args.c c.in_ok-problem.problem c.in_ok-problem.ensures.answer found.0 _ _ (omega arith) (omega arith)
