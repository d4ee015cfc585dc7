-- `plan_check::check_plan` meets its contract: the instance check decides, or the length, or the plan's questions, or the cost is counted. Assumes nothing.
use mathlib.Core.Path.{refl, sym, ◌∙◌, ap}
use mathlib.Core.List.{List}
use Prim.Native.Nat.{ℕ}
use Rattle.answers.specs.Answers.{Question, accept}
use Rattle.answers.specs.Returned.{refused}
use Rattle.answers.proofs.Returned.{passed_on}
use Rattle.instance.specs.Instance.{Instance}
use Rattle.instance.specs.Accepted.{Accepted}
use Rattle.instance.specs.Problem.{checked_of}
use Rattle.instance.proofs.Accepted.{shown}
use Rattle.instance.proofs.Call.{passed, call_refused, call_answers}
use Rattle.plan.specs.Plan.{cost}
use Rattle.calls.specs.Calls.{check_rest, check_answer}
use Rattle.plan_check.proofs.Laws.{stop_13, stop_plan, pass_plan}
use Rattle.plan_check.proofs.check_plan.Goals as goal

pub returns-in_err-problem : goal.returns-in_err-problem
unfolding check_answer
returns-in_err-problem c =
    let asks : Instance → List Question = λ I. check_rest I c.args.p.now in
    let count : Instance → ℕ = λ I. cost I.sizes c.args.p.now in
    passed_on _ _ c.from_residual.result c.from_residual.ensures.1 (call_refused c.args.b.now c.args.m c.args.rule _ c.in_err-problem.ensures.answer asks count)

pub returns-then-p-plan_bytes : goal.returns-then-p-plan_bytes
unfolding check_answer
returns-then-p-plan_bytes c =
    let b = c.args.b.now in
    let p = c.args.p.now in
    let asks : Instance → List Question = λ I. check_rest I p in
    let count : Instance → ℕ = λ I. cost I.sizes p in
    let ok = c.in_ok-problem in
    let w : Accepted b (checked_of ok.problem) = passed b c.args.m c.args.rule (accept 0) _ ok.ensures.answer ok.ensures.problem refl in
    ap refused c.at.ensures
    ∙ call_answers b c.args.m c.args.rule (accept 0) _ ok.ensures.answer ok.ensures.problem asks count refl _ (stop_13 b _ w p (λ e. c.if-p-plan_bytes.true (e ∙ sym c.plan_bytes.ensures.0)))

pub returns-in_err-ask_plan : goal.returns-in_err-ask_plan
unfolding check_answer
returns-in_err-ask_plan c =
    let b = c.args.b.now in
    let p = c.args.p.now in
    let asks : Instance → List Question = λ I. check_rest I p in
    let count : Instance → ℕ = λ I. cost I.sizes p in
    let ok = c.in_ok-problem in
    let w : Accepted b (checked_of ok.problem) = passed b c.args.m c.args.rule (accept 0) _ ok.ensures.answer ok.ensures.problem refl in
    passed_on _ _ c.from_residual-in_err-ask_plan.result c.from_residual-in_err-ask_plan.ensures.1
    (call_answers b c.args.m c.args.rule (accept 0) _ ok.ensures.answer ok.ensures.problem asks count refl _ (stop_plan b _ w p (c.if-p-plan_bytes.false ∙ c.plan_bytes.ensures.0) _ (c.in_err-ask_plan.ensures _ (shown b _ w))))

pub returns : goal.returns
unfolding check_answer
returns c =
    let b = c.args.b.now in
    let p = c.args.p.now in
    let asks : Instance → List Question = λ I. check_rest I p in
    let count : Instance → ℕ = λ I. cost I.sizes p in
    let ok = c.in_ok-problem in
    let w : Accepted b (checked_of ok.problem) = passed b c.args.m c.args.rule (accept 0) _ ok.ensures.answer ok.ensures.problem refl in
    call_answers b c.args.m c.args.rule (accept 0) _ ok.ensures.answer ok.ensures.problem asks count refl _ (pass_plan b _ w p (c.if-p-plan_bytes.false ∙ c.plan_bytes.ensures.0) (c.in_ok-ask_plan.ensures _ (shown b _ w)) _ c.plan_cost.ensures)
