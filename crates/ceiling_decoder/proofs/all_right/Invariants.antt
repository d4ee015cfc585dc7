-- `ceiling_decoder::all_right` meets its contract: where the loop says yes, each entry before its own passed. Assumes nothing.
use Prim.Native.Nat.{ℕ, ◌-◌, ◌≤◌, ◌<◌}
use lib.Dec.{T}
use Rattle.valuation.specs.Valuation.{right_entry}
use Rattle.ceiling_decoder.proofs.all_right.Given as goal

abbrev pub invariant-loop-i : goal.invariant-loop-i
invariant-loop-i l = (l.low ≤ l.i) × (l.i ≤ l.end) × (T l.all → (h : ℕ) → l.low ≤ h → h < l.i → T (right_entry l.entries h))

abbrev pub decreases-loop-i : goal.decreases-loop-i
decreases-loop-i l = l.end - l.i
