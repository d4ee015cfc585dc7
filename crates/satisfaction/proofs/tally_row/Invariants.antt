-- `satisfaction::tally_row` meets its contract: before turn v the entries below v are tallied. Assumes nothing.
use Prim.Native.Nat.{◌+◌, ◌-◌, ◌*◌, ◌≤◌}
use Rattle.satisfaction.specs.Rows.{Tallied, denies}
use Rattle.satisfaction.proofs.tally_row.Given as goal

abbrev pub invariant-loop-v : goal.invariant-loop-v
invariant-loop-v l = (l.v ≤ l.n) × (l.negatives ≤ l.v) × (l.sum ≤ l.v * 64) × Tallied (λ u. denies l.entries (l.base + u)) l.v (l.v - l.negatives) l.sum

abbrev pub decreases-loop-v : goal.decreases-loop-v
decreases-loop-v l = l.n - l.v
