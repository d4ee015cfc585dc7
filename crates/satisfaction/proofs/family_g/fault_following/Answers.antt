-- `satisfaction::family_g::fault_following` meets its contract: the first agent that fails condition 2, and the first that stood where it goes. Assumes nothing.
use Prim.Native.Nat.{ℕ, suc}
use mathlib.Core.Path.{refl, ◌∙◌, ap}
use native.Mathlib.Numerals.{add-one}
use Rattle.std.specs.Prelude.{Some}
use Rattle.instance.specs.Instance.{joined}
use Rattle.plan.specs.Plan.{plan_row}
use Rattle.satisfaction.proofs.Steps.{on_row, plain_2, entered, enters}
use Rattle.satisfaction.proofs.Truth.{none_row_g, here_row_g}
use Rattle.satisfaction.proofs.family_g.fault_following.Goals as goal

-- `fails_2`: what the call has found
pub returns-in_err-a : goal.returns-in_err-a
returns-in_err-a c =
    let s = c.args.problem.now.shape.sizes in
    let fails_2 = plain_2 s c.requires.rule (joined c.args.problem.now.near) (plan_row s c.args.p.now c.args.t) (plan_row s c.args.p.now (suc c.args.t)) s.k c.in_err-a.ensures in
    λ es w c'. rw c.from_residual.ensures (none_row_g s es w (plan_row s c.args.p.now) c' c.args.t c.requires.sound.time c.requires.sound.apart s.k fails_2 refl)

pub unwrap-stander-requires : goal.unwrap-stander-requires
unwrap-stander-requires c =
    let s = c.args.problem.now.shape.sizes in
    let P = plan_row s c.args.p.now c.args.t in
    let Q = plan_row s c.args.p.now (suc c.args.t) in
    let agent = c.in_ok-a.ensures in
    let fails_2 = plain_2 s c.requires.rule (joined c.args.problem.now.near) P Q c.in_ok-a.a agent.1 in
    let goes = c.row_at.ensures.1 c.in_ok-a.a agent.0 ∙ ap (λ (u : ℕ). plan_row s c.args.p.now u c.in_ok-a.a) (add-one c.args.t) in
    entered s.k P Q c.in_ok-a.a agent.0 fails_2 c.first_on.result
    (rw goes at (on_row s.k c.row_at-here.result.now P c.row_at-here.ensures _ c.first_on.result c.first_on.ensures))

pub returns : goal.returns
returns c =
    let s = c.args.problem.now.shape.sizes in
    let P = plan_row s c.args.p.now c.args.t in
    let Q = plan_row s c.args.p.now (suc c.args.t) in
    let agent = c.in_ok-a.ensures in
    let fails_2 = plain_2 s c.requires.rule (joined c.args.problem.now.near) P Q c.in_ok-a.a agent.1 in
    let goes = c.row_at.ensures.1 c.in_ok-a.a agent.0 ∙ ap (λ (u : ℕ). plan_row s c.args.p.now u c.in_ok-a.a) (add-one c.args.t) in
    let stander = rw c.unwrap-stander.ensures at c.first_on.ensures in
    let enter = enters s.k P Q c.in_ok-a.a agent.0 fails_2 c.unwrap-stander.result (rw goes at (on_row s.k c.row_at-here.result.now P c.row_at-here.ensures _ (Some c.unwrap-stander.result) stander)) in
    λ es w c'.
    rw (c.from.ensures, goes) (here_row_g s es w (plan_row s c.args.p.now) c' c.args.t c.requires.sound.time c.requires.sound.apart c.in_ok-a.a fails_2 c.unwrap-stander.result c.other_at.result enter c.other_at.ensures.0 c.other_at.ensures.1)
