-- `edges::edge_at` meets its contract. The loop keeps how many edges stand between those with a lower low end and the place. Assumes nothing.
use mathlib.Core.Path.{◌≡◌}
use Prim.Native.Nat.{◌+◌, ◌≤◌}
use Rattle.edges.proofs.Laws.{lower_edges}
use Rattle.edges.proofs.edge_at.Given as goal

abbrev pub invariant-loop-low : goal.invariant-loop-low
invariant-loop-low l = (l.low ≤ l.n) × (l.j ≡ lower_edges l.near l.n l.low + l.rest)
