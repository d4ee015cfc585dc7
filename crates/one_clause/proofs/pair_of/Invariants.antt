-- `one_clause::pair_of` meets its contract: no more than p pairs begin below `low`, and more than p below `end`. Assumes nothing.
use Prim.Native.Nat.{◌-◌, ◌≤◌, ◌<◌}
use Rattle.lists.specs.Pairs.{pairs_below}
use Rattle.one_clause.proofs.pair_of.Given as goal

abbrev pub invariant-loop-low : goal.invariant-loop-low
invariant-loop-low l = (l.low < l.end) × (l.end ≤ l.n) × (pairs_below l.n l.low ≤ l.p) × (l.p < pairs_below l.n l.end)

abbrev pub decreases-loop-low : goal.decreases-loop-low
decreases-loop-low l = l.end - l.low
