-- `satisfaction::family_g::is_crossed` meets its contract: an agent that goes up, and one that goes back. Assumes nothing.
use Prim.Native.Nat.{suc}
use mathlib.Core.Path.{◌∙◌}
use Rattle.plan.specs.Plan.{plan_row}
use Rattle.satisfaction.proofs.Exchanges.{crossed_down, crossed_none, crossed_up}
use Rattle.satisfaction.proofs.family_g.is_crossed.Goals as goal

pub returns-then-v-u : goal.returns-then-v-u
returns-then-v-u c =
    let s = c.args.s.sizes in
    crossed_down s.k (plan_row s c.args.p.now c.args.t) (plan_row s c.args.p.now (suc c.args.t)) c.args.u c.args.v c.if-v-u.true

pub returns-then-is_none : goal.returns-then-is_none
returns-then-is_none c =
    let s = c.args.s.sizes in
    crossed_none s.k (plan_row s c.args.p.now c.args.t) (plan_row s c.args.p.now (suc c.args.t)) c.args.u c.args.v c.if-v-u.false c.first_from_to.result c.first_from_to.ensures c.if-is_none.ensures

pub returns : goal.returns
returns c =
    let s = c.args.s.sizes in
    c.is_some.ensures
    ∙ crossed_up s.k (plan_row s c.args.p.now c.args.t) (plan_row s c.args.p.now (suc c.args.t)) c.args.u c.args.v c.if-v-u.false c.first_from_to.result c.first_from_to.ensures c.if-is_none.ensures c.first_from_to-2.result c.first_from_to-2.ensures
