-- `edges::edge_at` meets its contract. The loop keeps how many edges stand between those with a lower low end and the place. Assumes nothing.
use mathlib.Core.Path.{◌≡◌, ap, subst}
use native.Mathlib.Omega.{arith}
use native.Mathlib.Numerals.{add-one}
use lib.Dec.{T}
use Rattle.instance.specs.Instance.{edges_before}
use Rattle.edges.proofs.Laws.{lower_edges, passing_higher}
use Rattle.edges.proofs.edge_at.Goals as goal

pub loop-low-init : goal.loop-low-init
loop-low-init c = (omega arith, omega arith)

pub bit_at-requires : goal.bit_at-requires
bit_at-requires c = (c.requires.0, omega (arith, passing_higher c.args.near.now c.loop-low.low c.above.result c.above.ensures.1 c.args.n, c.count_from-count.ensures.0, c.if-rest-count.true))

pub returns-then-rest-count : goal.returns-then-rest-count
unfolding edges_before
returns-then-rest-count c =
    let high = passing_higher c.args.near.now c.loop-low.low c.above.result c.above.ensures.1 c.bit_at.result in
    (c.loop-low-test.true, c.bit_at.ensures.0, subst T (c.above.ensures.1 c.bit_at.result) c.bit_at.ensures.1, omega (arith, high, c.bit_at.ensures.2, c.loop-low.invariant.1))

pub loop-low-preserved : goal.loop-low-preserved
loop-low-preserved c = (omega arith, rw add-one (omega (arith, c.loop-low.invariant.1, c.count_from-count.ensures.0, c.if-rest-count.false)))

pub unreachable-requires : goal.unreachable-requires
unfolding edges_before
unreachable-requires c =
    let e : c.loop-low.low ≡ c.args.n = omega arith in
    absurd (let f : ⊥ = omega (arith, c.requires.2, c.loop-low.invariant.1, ap (lower_edges c.args.near.now c.args.n) e) in f)
