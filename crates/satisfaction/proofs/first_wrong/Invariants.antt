-- `satisfaction::first_wrong` meets its contract: the entries from low to i pass. Assumes nothing.
use Prim.Native.Nat.{ℕ, ◌-◌, ◌≤◌, ◌<◌}
use lib.Dec.{T}
use Rattle.valuation.specs.Valuation.{right_entry}
use Rattle.satisfaction.proofs.first_wrong.Given as goal

abbrev pub invariant-loop-i : goal.invariant-loop-i
invariant-loop-i l = (l.low ≤ l.i) × (l.i ≤ l.end) × ((j : ℕ) → l.low ≤ j → j < l.i → T (right_entry l.entries j))

abbrev pub decreases-loop-i : goal.decreases-loop-i
decreases-loop-i l = l.end - l.i
