-- `added_satisfaction::chain_fault` meets its contract: each link before has a true literal. Assumes nothing.
use mathlib.Core.List.{[], ◌∷◌}
use Prim.Native.Nat.{ℕ, ◌+◌, ◌<◌}
use lib.Dec.{T}
use Rattle.valuation.specs.Valuation.{satisfied?}
use Rattle.ceiling.specs.Tree.{on, off}
use Rattle.added_satisfaction.proofs.chain_fault.Given as goal

abbrev pub invariant-loop-i : goal.invariant-loop-i
invariant-loop-i l = (j : ℕ) → j < l.i → T (satisfied? l.of.entries.now (off (l.first + j + l.k) ∷ on (l.first + j) ∷ []))
