-- `plan_check::ask_plan` meets its contract. Each return adds what was passed before it, question by question, to the one that decides. Assumes nothing.
use mathlib.Core.Path.{◌∙◌, ap}
use Rattle.answers.specs.Returned.{refused}
use Rattle.answers.proofs.Returned.{passed_on}
use Rattle.plan_check.proofs.Laws.{inside, stop_17, stop_18, stop_steps, stop_22, pass_22}
use Rattle.plan_check.proofs.ask_plan.Goals as goal

pub returns-in-Some : goal.returns-in-Some
returns-in-Some c = λ I g. ap refused c.at.ensures ∙ stop_17 I (record { sizes = c.args.s.sizes; starts = c.args.starts.now; goals = c.args.goals.now; near = c.args.near.now }) g c.args.p.now c.requires _ c.in-Some.ensures

pub returns-in-Some-start_fault : goal.returns-in-Some-start_fault
returns-in-Some-start_fault c =
    λ I g.
    ap refused c.at-in-Some-start_fault.ensures
    ∙ stop_18 I (record { sizes = c.args.s.sizes; starts = c.args.starts.now; goals = c.args.goals.now; near = c.args.near.now }) g c.args.p.now c.requires c.in_default.ensures _ c.in-Some-start_fault.ensures

pub ask_steps-requires : goal.ask_steps-requires
ask_steps-requires c = (c.requires, inside _ c.args.s.limits c.args.p.now c.in_default.ensures)

pub returns-in_err-ask_steps : goal.returns-in_err-ask_steps
returns-in_err-ask_steps c =
    λ I g.
    passed_on _ _ c.from_residual.result c.from_residual.ensures.1
    (stop_steps I (record { sizes = c.args.s.sizes; starts = c.args.starts.now; goals = c.args.goals.now; near = c.args.near.now }) g c.args.p.now c.requires c.in_default.ensures c.in_default-start_fault.ensures c.in_err-ask_steps.field-0.0 (c.in_err-ask_steps.ensures I g.graph))

pub returns-in-Some-goal_fault : goal.returns-in-Some-goal_fault
returns-in-Some-goal_fault c =
    λ I g.
    ap refused c.at-in-Some-goal_fault.ensures
    ∙ stop_22 I (record { sizes = c.args.s.sizes; starts = c.args.starts.now; goals = c.args.goals.now; near = c.args.near.now }) g c.args.p.now c.requires c.in_default.ensures c.in_default-start_fault.ensures (c.in_ok-ask_steps.ensures I g.graph) _ c.in-Some-goal_fault.ensures

pub returns : goal.returns
returns c =
    λ I g.
    pass_22 I (record { sizes = c.args.s.sizes; starts = c.args.starts.now; goals = c.args.goals.now; near = c.args.near.now }) g c.args.p.now c.requires c.in_default.ensures c.in_default-start_fault.ensures (c.in_ok-ask_steps.ensures I g.graph) c.in_default-goal_fault.ensures
