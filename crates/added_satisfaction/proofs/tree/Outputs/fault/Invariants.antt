-- `added_satisfaction::tree::Outputs::fault` meets its contract: the rows before have a true literal in every clause. Assumes nothing.
use Prim.Native.Nat.{ℕ, ◌+◌, ◌<◌}
use lib.Dec.{T}
use Rattle.added_satisfaction.specs.Search.{cell}
use Rattle.added_satisfaction.proofs.tree.Outputs.fault.Given as goal

abbrev pub invariant-loop-i : goal.invariant-loop-i
invariant-loop-i l = (u : ℕ) → u < l.i → (v : ℕ) → v < l.self.d.b + 1 → T (cell l.self.of.entries.now l.self.d u v)
