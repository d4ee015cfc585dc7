-- `formula_size::pruned_size` meets its contract: the instance check decides, or the counts are those of the pruned formula. Assumes nothing.
use mathlib.Core.Path.{refl}
use native.Mathlib.Omega.{arith}
use Rattle.instance.specs.Problem.{ProblemOf}
use Rattle.instance.proofs.Call.{passed}
use Rattle.answers.proofs.Returned.{size_passed_on}
use Rattle.formula.specs.Pruned.{pruned}
use Rattle.formula.proofs.Limits.{clauses_most}
use Rattle.formula_size.proofs.Laws.{refuses, accepts, pruned_word_count_held, pruned_clause_count_held}
use Rattle.formula_size.proofs.pruned_size.Goals as goal

pub returns-in_err-problem : goal.returns-in_err-problem
returns-in_err-problem c =
    size_passed_on _ _ c.from_residual.ensures.1 (refuses pruned c.args.b.now c.args.m c.args.rule _ c.in_err-problem.ensures.answer)

pub overflow_add-clauses : goal.overflow_add-clauses
overflow_add-clauses c =
    omega (arith, c.count_h-more.ensures.1, c.clause_count.ensures, clauses_most _ c.in_ok-problem.problem.shape.limits)

pub returns : goal.returns
returns c =
    let a = c.in_ok-problem.ensures.answer in
    let e = c.in_ok-problem.ensures.problem in
    let w : ProblemOf c.args.b.now c.in_ok-problem.problem = passed c.args.b.now c.args.m c.args.rule _ _ a e refl in
    let t = c.table_of-table.ensures.1 in
    let h = c.count_h-more.ensures.0 in
    accepts pruned c.args.b.now c.args.m c.args.rule c.in_ok-problem.problem a e _ _
    (omega (arith, c.pruned_words-words.ensures, pruned_word_count_held _ _ w c.table_of-table.result t c.count_h-more.result h))
    (omega (arith, c.clause_count.ensures, pruned_clause_count_held _ _ w c.table_of-table.result t c.count_h-more.result h))
