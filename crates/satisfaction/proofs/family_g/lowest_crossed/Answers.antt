-- `satisfaction::family_g::lowest_crossed` meets its contract: the loop keeps that no vertex passed is exchanged with a higher one. Assumes nothing.
use Prim.Native.Nat.{suc}
use mathlib.Core.Bool.{not}
use native.Mathlib.Omega.{arith}
use borrow.Author.Count.{below_more}
use Rattle.std.specs.Prelude.{None, Some}
use Rattle.lists.proofs.Tests.{every_iff}
use Rattle.answers.specs.Fault.{FirstFailing}
use Rattle.answers.proofs.Faults.{fault_at, fault_none}
use Rattle.plan.specs.Plan.{plan_row}
use Rattle.satisfaction.specs.Rows.{crossed}
use Rattle.satisfaction.proofs.family_g.lowest_crossed.Goals as goal

pub returns-in-Some : goal.returns-in-Some
returns-in-Some c =
    let s = c.args.problem.now.shape.sizes in
    let high : FirstFailing s.n (λ v. not (crossed s.k (plan_row s c.args.p.now c.args.t) (plan_row s c.args.p.now (suc c.args.t)) c.loop-u.u v)) (Some c.in-Some.v) = c.in-Some.ensures in
    ((c.loop-u-test.true, fault_at c.loop-u-test.true c.loop-u.invariant.1 (λ o. high.1.here high.0 ((every_iff s.n _).0 o c.in-Some.v high.0))), high)

pub loop-u-preserved : goal.loop-u-preserved
loop-u-preserved c =
    let s = c.args.problem.now.shape.sizes in
    let high : FirstFailing s.n (λ v. not (crossed s.k (plan_row s c.args.p.now c.args.t) (plan_row s c.args.p.now (suc c.args.t)) c.loop-u.u v)) None = c.in_default.ensures in
    (omega (arith, c.loop-u-test.true), below_more _ _ c.loop-u.invariant.1 ((every_iff s.n _).1 high.before))

pub returns : goal.returns
returns c = fault_none (omega arith) c.loop-u.invariant.1
