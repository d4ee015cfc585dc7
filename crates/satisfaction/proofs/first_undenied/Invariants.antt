-- `satisfaction::first_undenied` meets its contract: the entries from low to i pass. Assumes nothing.
use Prim.Native.Nat.{ℕ, ◌-◌, ◌≤◌, ◌<◌}
use lib.Dec.{T}
use Rattle.satisfaction.specs.Rows.{denies}
use Rattle.satisfaction.proofs.first_undenied.Given as goal

abbrev pub invariant-loop-i : goal.invariant-loop-i
invariant-loop-i l = (l.low ≤ l.i) × (l.i ≤ l.end) × ((j : ℕ) → l.low ≤ j → j < l.i → T (denies l.entries j))

abbrev pub decreases-loop-i : goal.decreases-loop-i
decreases-loop-i l = l.end - l.i
