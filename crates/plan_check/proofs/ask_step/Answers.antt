-- `plan_check::ask_step` meets its contract. The first agents that fail decide in the order of the questions. Assumes nothing.
use mathlib.Core.Path.{◌∙◌, ap}
use Rattle.answers.specs.Returned.{refused}
use Rattle.plan_check.proofs.Laws.{stop_19, stop_20, stop_21, pass_21}
use Rattle.plan_check.proofs.ask_step.Goals as goal

pub returns-in-Some : goal.returns-in-Some
returns-in-Some c =
    λ I g. ap refused c.at.ensures ∙ stop_19 I c.args.s c.args.near.now g c.args.p.now c.args.t c.in-Some.a c.in-Some.ensures

pub returns-in-Some-step_fault : goal.returns-in-Some-step_fault
returns-in-Some-step_fault c =
    λ I g.
    ap refused c.at-in-Some-step_fault.ensures
    ∙ stop_20 I c.args.s c.args.near.now g c.args.p.now c.args.t c.in_default.ensures c.in-Some-step_fault.a c.in-Some-step_fault.ensures _ c.second_reason.ensures

pub returns-in-Some-step_fault-2 : goal.returns-in-Some-step_fault-2
returns-in-Some-step_fault-2 c =
    λ I g.
    ap refused c.at-in-Some-step_fault-2.ensures
    ∙ stop_21 I c.args.s c.args.near.now g c.args.p.now c.args.t c.in_default.ensures c.in_default-step_fault.ensures c.in-Some-step_fault-2.a c.in-Some-step_fault-2.ensures

pub returns : goal.returns
returns c =
    λ I g. pass_21 I c.args.s c.args.near.now g c.args.p.now c.args.t c.in_default.ensures c.in_default-step_fault.ensures c.in_default-step_fault-2.ensures
