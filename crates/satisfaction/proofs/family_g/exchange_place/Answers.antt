-- `satisfaction::family_g::exchange_place` meets its contract: the clauses of lower edges and of earlier agents have a true literal. Assumes nothing.
use Prim.Native.Nat.{suc}
use Rattle.instance.specs.Instance.{joined}
use Rattle.plan.specs.Plan.{plan_row}
use Rattle.satisfaction.proofs.Exchanges.{across, low_before, high_before, goes_up, goes_back, crossed_upward, here_exchange}
use Rattle.satisfaction.proofs.family_g.exchange_place.Goals as goal

pub unwrap-a-requires : goal.unwrap-a-requires
unwrap-a-requires c =
    let s = c.args.problem.now.shape.sizes in
    goes_up s.n s.k (plan_row s c.args.p.now c.args.t) (plan_row s c.args.p.now (suc c.args.t)) c.args.u c.args.v c.requires.lowest c.first_from_to.result c.first_from_to.ensures

pub unwrap-b-requires : goal.unwrap-b-requires
unwrap-b-requires c =
    let s = c.args.problem.now.shape.sizes in
    goes_back s.n s.k (plan_row s c.args.p.now c.args.t) (plan_row s c.args.p.now (suc c.args.t)) c.args.u c.args.v c.requires.lowest c.first_from_to-2.result c.first_from_to-2.ensures

pub returns : goal.returns
returns c =
    let s = c.args.problem.now.shape.sizes in
    let near = joined c.args.problem.now.near in
    let P = plan_row s c.args.p.now c.args.t in
    let Q = plan_row s c.args.p.now (suc c.args.t) in
    let to = rw c.unwrap-a.ensures at c.first_from_to.ensures in
    let back = rw c.unwrap-b.ensures at c.first_from_to-2.ensures in
    let pair = across s.n s.k P Q c.args.u c.args.v c.requires.lowest in
    λ es w c'.
    rw c.place_of.ensures.0
    (here_exchange s es (plan_row s c.args.p.now) c' near c.args.t c.requires.sound.time c.args.u c.args.v c.requires.lowest.0.0 c.requires.lowest.1.0 pair
    c.unwrap-a.result c.unwrap-b.result c.other_at.result to.1 back.1 c.other_at.ensures.0 c.other_at.ensures.1
    (crossed_upward s.k near P Q c.requires.sound.crosses c.args.u c.args.v pair)
    (low_before s.n s.k P Q c.args.u c.args.v c.requires.lowest)
    (high_before s.n s.k P Q c.args.u c.args.v c.requires.lowest))
