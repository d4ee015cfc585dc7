-- `satisfaction::family_g::high_crossed` meets its contract: no two agents share a vertex, so only the first agent found on u can exchange it. Assumes nothing.
use Prim.Native.Nat.{ℕ, suc}
use mathlib.Core.Path.{refl, ◌∙◌, ap}
use native.Mathlib.Numerals.{add-one}
use Rattle.std.specs.Prelude.{None, Some}
use Rattle.plan.specs.Plan.{plan_row}
use Rattle.satisfaction.specs.Rows.{crossed}
use Rattle.satisfaction.proofs.Steps.{on_row}
use Rattle.satisfaction.proofs.Exchanges.{high_nobody, high_none, high_one}
use Rattle.satisfaction.proofs.family_g.high_crossed.Goals as goal

pub returns-in_err-a : goal.returns-in_err-a
returns-in_err-a c =
    let s = c.args.problem.now.shape.sizes in
    let P = plan_row s c.args.p.now c.args.t in
    rw c.from_residual.ensures (high_nobody s.k P (plan_row s c.args.p.now (suc c.args.t)) s.n c.args.u s.k (on_row s.k c.row_at.result.now P c.row_at.ensures c.args.u None c.in_err-a.ensures) refl)

-- `agent`: the first agent on u; `goes`: where it goes
pub returns-then-is_crossed : goal.returns-then-is_crossed
returns-then-is_crossed c =
    let s = c.args.problem.now.shape.sizes in
    let P = plan_row s c.args.p.now c.args.t in
    let Q = plan_row s c.args.p.now (suc c.args.t) in
    let agent = on_row s.k c.row_at.result.now P c.row_at.ensures c.args.u (Some c.in_ok-a.a) c.in_ok-a.ensures in
    let goes = c.row_at-2.ensures.1 c.in_ok-a.a agent.0 ∙ ap (λ (u : ℕ). plan_row s c.args.p.now u c.in_ok-a.a) (add-one c.args.t) in
    rw (c.from.ensures, goes)
    (high_one s.k P Q s.n c.args.u c.in_ok-a.a agent.1 c.requires.sound.apart agent.0 c.requires.sound.inside (c.if-is_crossed.ensures ∙ ap (crossed s.k P Q c.args.u) goes))

pub returns : goal.returns
returns c =
    let s = c.args.problem.now.shape.sizes in
    let P = plan_row s c.args.p.now c.args.t in
    let Q = plan_row s c.args.p.now (suc c.args.t) in
    let agent = on_row s.k c.row_at.result.now P c.row_at.ensures c.args.u (Some c.in_ok-a.a) c.in_ok-a.ensures in
    let goes = c.row_at-2.ensures.1 c.in_ok-a.a agent.0 ∙ ap (λ (u : ℕ). plan_row s c.args.p.now u c.in_ok-a.a) (add-one c.args.t) in
    high_none s.k P Q s.n c.args.u c.in_ok-a.a agent.1 c.requires.sound.apart agent.0 (c.if-is_crossed.ensures ∙ ap (crossed s.k P Q c.args.u) goes)
