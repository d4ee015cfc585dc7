-- `satisfaction::lowest_shared` meets its contract: before turn a it is the lowest of the agents below a. Assumes nothing.
use Prim.Native.Nat.{◌-◌, ◌≤◌}
use lib.ListN.{length, get_or}
use Rattle.satisfaction.specs.Rows.{LowestShared}
use Rattle.satisfaction.proofs.lowest_shared.Given as goal

abbrev pub invariant-loop-a : goal.invariant-loop-a
invariant-loop-a l = (l.a ≤ length l.here) × LowestShared l.a (λ i. get_or l.here i 0) l.n l.low

abbrev pub decreases-loop-a : goal.decreases-loop-a
decreases-loop-a l = length l.here - l.a
