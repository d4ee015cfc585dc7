-- `edges::place_of` meets its contract. The loop keeps the count of the edges with a lower low end. Assumes nothing.
use mathlib.Core.Path.{◌≡◌}
use Prim.Native.Nat.{◌*◌, ◌≤◌}
use Rattle.edges.proofs.Laws.{lower_edges}
use Rattle.edges.proofs.place_of.Given as goal

abbrev pub invariant-loop-x : goal.invariant-loop-x
invariant-loop-x l = (l.x ≤ l.u) × (l.before ≡ lower_edges l.near l.n l.x) × (l.before ≤ 64 * l.x)
