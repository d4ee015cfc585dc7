-- `one_clause::pair_of` meets its contract: no more than p pairs begin below `low`, and more than p below `end`. Assumes nothing.
use mathlib.Core.Path.{◌≡◌, subst}
use Prim.Native.Nat.{ℕ, suc, ◌+◌, ◌-◌, ◌<◌}
use native.Mathlib.Omega.{arith}
use Rattle.lists.specs.Pairs.{pairs_below}
use Rattle.lists.proofs.Pairs.{pairs_none, pairs_all, pairs_some, pair_high}
use Rattle.one_clause.proofs.pair_of.Goals as goal

pub loop-low-init : goal.loop-low-init
loop-low-init c = (
  pairs_some c.args.n c.args.p c.requires.1,
  omega arith,
  omega (arith, pairs_none c.args.n),
  omega (arith, pairs_all c.args.n, c.requires.1),
)

pub loop-low-preserved-then-pairs_below-p : goal.loop-low-preserved-then-pairs_below-p
loop-low-preserved-then-pairs_below-p c = (omega arith, omega arith, omega (arith, c.pairs_below.ensures.0), c.loop-low.invariant.3)

pub loop-low-preserved : goal.loop-low-preserved
loop-low-preserved c = (omega arith, omega arith, c.loop-low.invariant.2, omega (arith, c.pairs_below.ensures.0))

pub overflow_add-result-2 : goal.overflow_add-result-2
overflow_add-result-2 c =
    let high : suc c.loop-low.low + (c.args.p - pairs_below c.args.n c.loop-low.low) < c.args.n = let n : ℕ = c.args.n in
    let e : c.loop-low.end ≡ suc c.loop-low.low = omega arith in
    pair_high n c.args.p c.loop-low.low (omega arith) c.loop-low.invariant.2 (subst (λ (x : ℕ). c.args.p < pairs_below n x) e c.loop-low.invariant.3) in
    omega (arith, high, c.pairs_below-2.ensures.0)

pub returns : goal.returns
returns c =
    let high : suc c.loop-low.low + (c.args.p - pairs_below c.args.n c.loop-low.low) < c.args.n = let n : ℕ = c.args.n in
    let e : c.loop-low.end ≡ suc c.loop-low.low = omega arith in
    pair_high n c.args.p c.loop-low.low (omega arith) c.loop-low.invariant.2 (subst (λ (x : ℕ). c.args.p < pairs_below n x) e c.loop-low.invariant.3) in
    record { order = omega arith; below = omega (arith, high, c.pairs_below-2.ensures.0); at = omega (arith, c.pairs_below-2.ensures.0) }
