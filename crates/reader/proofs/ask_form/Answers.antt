-- `reader::ask_form` meets its contract. Assumes nothing.
use Rattle.std.proofs.Common.{sym, ◌∙◌, ap, arith, unwrap_or, option_map, false, Option}
use borrow.Author.Tests.{not-true, not-false}
use Rattle.solver_text.specs.declared.Verdict.{Verdict}
use Rattle.answers.specs.Answers.{refuse}
use Rattle.reader.proofs.Questions.{form_long, form_wrong, form_missing, form_unsatisfied, form_right}
use Rattle.reader.proofs.ask_form.Goals as goal

pub returns-then-text-gt524288-clause-value : goal.returns-then-text-gt524288-clause-value
returns-then-text-gt524288-clause-value c = rw c.at.ensures (form_long c.args.n c.args.text.now c.if-text-gt524288.true)

pub returns-in-Err-clause-value : goal.returns-in-Err-clause-value
returns-in-Err-clause-value c = rw c.at-in-Err.ensures (form_wrong c.args.n c.args.text.now (omega arith) c.in-Err.place c.in-Err.ensures.value)

pub returns-then-not-is_whole-clause-value : goal.returns-then-not-is_whole-clause-value
returns-then-not-is_whole-clause-value c =
    rw c.at-then-not-is_whole.ensures
    (form_missing c.args.n c.args.text.now (omega arith) c.in-Ok.said c.in-Ok.ensures.value (sym c.is_whole.ensures ∙ c.if-not-is_whole.true))

pub returns-in-Some-clause-value : goal.returns-in-Some-clause-value
returns-in-Some-clause-value c =
    rw c.at-in-Some.ensures
    (ap (refuse 28) (ap (λ (v : Option Verdict). unwrap_or (option_map (λ u. u.place) v) 0) (sym c.in-Some.is))
    ∙ form_unsatisfied c.args.n c.args.text.now (omega arith) c.in-Ok.said c.in-Ok.ensures.value (sym c.is_whole.ensures ∙ c.if-not-is_whole.false)
    (ap (λ (v : Option Verdict). unwrap_or (option_map (λ u. u.satisfiable) v) false) c.in-Some.is ∙ not-true _ c.if-not-verdict.true))

pub returns-in_default-clause-value : goal.returns-in_default-clause-value
returns-in_default-clause-value c =
    form_right c.args.n c.args.text.now (omega arith) c.in-Ok.said c.in-Ok.ensures.value (sym c.is_whole.ensures ∙ c.if-not-is_whole.false)
    (ap (λ (v : Option Verdict). unwrap_or (option_map (λ u. u.satisfiable) v) false) c.in-Some.is ∙ not-false _ c.if-not-verdict.false)
