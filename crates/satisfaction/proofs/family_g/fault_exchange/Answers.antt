-- `satisfaction::family_g::fault_exchange` meets its contract: where no agent fails condition 2 none exchange an edge, and else the lowest such edge is looked for. Assumes nothing.
use Prim.Native.Nat.{suc}
use mathlib.Core.Path.{refl}
use Rattle.std.specs.Prelude.{None}
use Rattle.instance.specs.Instance.{joined}
use Rattle.plan.specs.Plan.{plan_row}
use Rattle.satisfaction.specs.Rows.{LowestCrossed, crossed}
use Rattle.satisfaction.proofs.Exchanges.{none_exchange, uncrossed, none_lowest}
use Rattle.satisfaction.proofs.family_g.fault_exchange.Goals as goal

pub returns-in_err-step_fault : goal.returns-in_err-step_fault
returns-in_err-step_fault c =
    let s = c.args.problem.now.shape.sizes in
    let near = joined c.args.problem.now.near in
    λ es w c'.
    rw c.from_residual.ensures
    (none_exchange s es (plan_row s c.args.p.now) c' near c.args.t c.requires.sound.time (λ u v l r.
    uncrossed s c.requires.rule near (plan_row s c.args.p.now c.args.t) (plan_row s c.args.p.now (suc c.args.t)) s.k c.in_err-step_fault.ensures refl u v))

pub returns-in_err-u : goal.returns-in_err-u
returns-in_err-u c =
    let s = c.args.problem.now.shape.sizes in
    let P = plan_row s c.args.p.now c.args.t in
    let Q = plan_row s c.args.p.now (suc c.args.t) in
    let none : LowestCrossed s.n (crossed s.k P Q) None = c.in_err-u.ensures in
    λ es w c'.
    rw c.from_residual-in_err-u.ensures
    (none_exchange s es (plan_row s c.args.p.now) c' (joined c.args.problem.now.near) c.args.t c.requires.sound.time (none_lowest s.n s.k P Q none))
