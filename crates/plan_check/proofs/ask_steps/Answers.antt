-- `plan_check::ask_steps` meets its contract. The loop keeps that the questions of every step passed are answered yes. Assumes nothing.
use mathlib.Core.Path.{◌≡◌, refl, sym, ◌∙◌, ap}
use Prim.Native.Nat.{ℕ}
use native.Mathlib.Omega.{arith}
use Rattle.lists.specs.Loop.{for}
use Rattle.answers.specs.Answers.{accept, decide}
use Rattle.answers.proofs.Laws.{decide_count, step_stop, step_more}
use Rattle.answers.proofs.Returned.{refusal_numbered, passed_on}
use Rattle.calls.specs.Calls.{step_questions}
use Rattle.calls.proofs.Plan.{numbered_step}
use Rattle.plan_check.proofs.ask_steps.Goals as goal

pub loop-t-init : goal.loop-t-init
loop-t-init c = (omega arith, λ I g. tt)

pub returns-in_err-ask_step : goal.returns-in_err-ask_step
returns-in_err-ask_step c =
    λ I g.
    let e = c.in_err-ask_step.ensures I g in
    passed_on _ _ c.from_residual.result c.from_residual.ensures.1
    (step_stop (step_questions I c.args.p.now) c.loop-t.t _ e (c.loop-t.invariant.1 I g) c.args.s.m (omega arith) (refusal_numbered c.in_err-ask_step.field-0.0))

pub loop-t-preserved : goal.loop-t-preserved
loop-t-preserved c = (omega arith, λ I g. step_more (step_questions I c.args.p.now) c.loop-t.t (accept 0) (c.in_ok-ask_step.ensures I g) (c.loop-t.invariant.1 I g) (numbered_step I c.args.p.now c.loop-t.t) refl)

pub returns : goal.returns
returns c =
    λ I g.
    let e : c.loop-t.t ≡ c.args.s.m = omega arith in
    sym (decide_count (for c.loop-t.t (step_questions I c.args.p.now)) 0 (c.loop-t.invariant.1 I g)) ∙ ap (λ (j : ℕ). decide (for j (step_questions I c.args.p.now)) 0) e
