-- `reader::read_valuation` meets its contract. Assumes nothing.
use mathlib.Core.Path.{refl, ◌∙◌, ap, ap₂}
use mathlib.Core.List.{List}
use Prim.Native.Nat.{ℕ}
use native.Mathlib.Omega.{arith}
use lib.ListN.{length}
use Rattle.answers.specs.declared.Answer.{Answer}
use Rattle.answers.specs.Answers.{Question, accept, decide, lent}
use Rattle.instance.specs.Instance.{Instance}
use Rattle.answers.proofs.Returned.{passed_on, refused_lent}
use Rattle.instance.specs.Problem.{ProblemOf}
use Rattle.instance.proofs.Accepted.{sizes_same}
use Rattle.instance.proofs.Call.{passed, horizon, call_refused, call_answers}
use Rattle.formula.specs.Variables.{variable_count}
use Rattle.formula.specs.Formula.{formula}
use Rattle.solver_text.specs.Form.{given, in_order}
use Rattle.calls.specs.Calls.{read_rest, read_answer, read_slice}
use Rattle.reader.proofs.read_valuation.Goals as goal

abbrev count : Instance → ℕ
count I = (formula I).variables

pub returns-in_err-problem : goal.returns-in_err-problem
unfolding read_answer read_slice
returns-in_err-problem c =
    let asks : Instance → List Question = λ I. read_rest (formula I).variables c.args.text.now (length c.args.z.now) in
    let e = call_refused c.args.b.now c.args.m c.args.rule _ c.in_err-problem.ensures.answer asks count in
    record { value = passed_on _ _ c.from_residual.result c.from_residual.ensures.1 e; z_after = refused_lent _ _ c.args.z.now e }

pub read_entries-requires : goal.read_entries-requires
read_entries-requires c = omega (arith, c.variable_count.ensures.1)

pub returns : goal.returns
unfolding read_answer read_slice
returns c =
    let asks : Instance → List Question = λ I. read_rest (formula I).variables c.args.text.now (length c.args.z.now) in
    let ok = c.in_ok-problem in
    let known : ProblemOf c.args.b.now ok.problem = passed c.args.b.now c.args.m c.args.rule (accept 0) _ ok.ensures.answer ok.ensures.problem refl in
    let n = c.variable_count.ensures.0 ∙ ap variable_count (sizes_same _ _ known) in
    let same = horizon c.args.b.now c.args.m c.args.rule (accept 0) _ ok.ensures.answer ok.ensures.problem refl in
    let e = call_answers c.args.b.now c.args.m c.args.rule (accept 0) _ ok.ensures.answer ok.ensures.problem asks count refl _ (c.read_entries.ensures.value ∙ ap (λ (N : ℕ). decide (read_rest N c.args.text.now (length c.args.z.now)) N) n) in
    record { value = e; z_after = c.read_entries.ensures.z_after ∙ ap₂ (λ (a : Answer) (N : ℕ). lent a (in_order N (given c.args.text.now)) c.args.z.now) e (n ∙ ap (λ (J : Instance). (formula J).variables) same) }
