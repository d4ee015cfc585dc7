-- `plan_tally::tally_plan` meets its contract: 34 decides, or the plan check does, and its answer is counted. Assumes nothing.
use mathlib.Core.Path.{refl, sym, ◌∙◌, ap, subst}
use Prim.Native.Nat.{◌≤◌}
use native.Mathlib.Omega.{arith}
use Rattle.answers.specs.declared.Answer.{Answer}
use Rattle.answers.specs.Answers.{accept}
use Rattle.answers.specs.Returned.{refused}
use Rattle.answers.proofs.Faults.{holds, fails}
use Rattle.answers.proofs.Returned.{reason_bounds, refusal_numbered}
use Rattle.calls.proofs.Plan.{check_counts}
use Rattle.calls.proofs.Tally.{tally_stops, record_stays, tally_asks, record_pass, record_refusal}
use Rattle.plan_tally.proofs.Laws.{under_room, pass_room}
use Rattle.plan_tally.proofs.tally_plan.Goals as goal

pub returns-then-not-takes_more : goal.returns-then-not-takes_more
returns-then-not-takes_more c =
    let a = c.args in
    let full = fails c.takes_more.ensures c.if-not-takes_more.true in
    (ap refused c.at.ensures ∙ sym (tally_stops a.b.now a.m a.rule a.p.now a.t full), sym (record_stays a.b.now a.m a.rule a.p.now a.t full))

pub count_pass-requires : goal.count_pass-requires
count_pass-requires c =
    let a = c.args in
    let h = holds c.takes_more.ensures c.if-not-takes_more.false in
    let z = sym (ap (λ (x : Answer). x.number) c.in-Ok.ensures) in
    pass_room a.t h _ (subst (λ (x : Answer). x.second ≤ 512) (sym c.in-Ok.ensures) (check_counts a.b.now a.m a.rule a.p.now z).most512)

pub count_refusal-requires : goal.count_refusal-requires
count_refusal-requires c =
    let h = holds c.takes_more.ensures c.if-not-takes_more.false in
    under_room c.args.t h _ (omega (arith, (reason_bounds c.in-Err.refusal.reason).1))

pub returns-in-Ok : goal.returns-in-Ok
returns-in-Ok c =
    let a = c.args in
    let h = holds c.takes_more.ensures c.if-not-takes_more.false in
    (c.in-Ok.ensures ∙ sym (tally_asks a.b.now a.m a.rule a.p.now a.t h), c.count_pass.ensures ∙ record_pass a.b.now a.m a.rule a.p.now a.t h (accept c.in-Ok.cost) c.in-Ok.ensures refl)

pub returns-in-Err : goal.returns-in-Err
returns-in-Err c =
    let a = c.args in
    let h = holds c.takes_more.ensures c.if-not-takes_more.false in
    let e = c.in-Err.refusal in
    (c.in-Err.ensures ∙ sym (tally_asks a.b.now a.m a.rule a.p.now a.t h), c.count_refusal.ensures ∙ record_refusal a.b.now a.m a.rule a.p.now a.t h (refused e) c.in-Err.ensures (refusal_numbered e))
