-- `added_satisfaction::tree::Outputs::rest_of_row` meets its contract: the whole row holds, or each j from 1 to the loop's passes. Assumes nothing.
use Prim.Native.Nat.{ℕ, ◌≤◌, ◌<◌}
use lib.Dec.{T}
use Rattle.added_satisfaction.specs.Search.{follows}
use Rattle.added_satisfaction.proofs.tree.Outputs.rest_of_row.Given as goal

abbrev pub invariant-loop-j : goal.invariant-loop-j
invariant-loop-j l = (h : ℕ) → 1 ≤ h → h < l.j → T (follows l.self.of.entries.now l.self.d l.i h)
