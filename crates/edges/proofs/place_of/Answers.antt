-- `edges::place_of` meets its contract. The loop keeps the count of the edges with a lower low end. Assumes nothing.
use mathlib.Core.Path.{◌≡◌, refl, ◌∙◌, ap, ap₂}
use Prim.Native.Nat.{◌+◌}
use native.Mathlib.Omega.{arith}
use native.Mathlib.Numerals.{add-one}
use Rattle.instance.specs.Instance.{edges_before}
use Rattle.edges.proofs.Laws.{lower_edges, passing_higher}
use Rattle.edges.proofs.place_of.Goals as goal

pub loop-x-init : goal.loop-x-init
loop-x-init c = (omega arith, refl, omega arith)

pub loop-x-preserved : goal.loop-x-preserved
loop-x-preserved c = (omega arith, rw add-one (ap₂ ◌+◌ c.loop-x.invariant.1 c.count_from-before.ensures.0), omega (arith, c.loop-x.invariant.2, c.count_from-before.ensures.1))

pub returns : goal.returns
unfolding edges_before
returns c =
    let near = c.args.near.now in
    let e : c.loop-x.x ≡ c.args.u = omega arith in (
      ap₂ ◌+◌ (c.loop-x.invariant.1 ∙ ap (lower_edges near c.args.n) e) (c.bits_below.ensures.0 ∙ passing_higher near c.args.u c.above.result c.above.ensures.1 c.args.v),
      omega (arith, c.loop-x.invariant.2, c.bits_below.ensures.1),
    )
