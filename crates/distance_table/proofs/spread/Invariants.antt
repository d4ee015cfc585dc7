-- `distance_table::spread` meets its contract. The invariant: for some `from`, the frontier's bits below it are done, and `rest` has those from it on. Assumes nothing.
use Prim.Native.Nat.{ℕ}
use Rattle.distance_table.proofs.Laws.{Spreading}
use Rattle.distance_table.proofs.spread.Given as goal

abbrev pub invariant-loop-rest : goal.invariant-loop-rest
invariant-loop-rest l = (from : ℕ) × Spreading l.near l.initial.row l.frontier l.d from l.rest l.row l.reached

abbrev pub decreases-loop-rest : goal.decreases-loop-rest
decreases-loop-rest l = l.rest
