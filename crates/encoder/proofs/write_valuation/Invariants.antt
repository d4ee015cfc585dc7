-- `encoder::write_valuation` meets its contract: before turn t of agent a the rows before theirs stand in the slice. Assumes nothing.
use mathlib.Core.Path.{◌≡◌}
use mathlib.Core.List.{List}
use Prim.Native.Nat.{◌≤◌}
use lib.IntN.{ℤ}
use lib.ListN.{length}
use Rattle.lists.specs.Slice.{filled}
use Rattle.encoder.proofs.Laws.{before}
use Rattle.encoder.proofs.write_valuation.Given as goal

abbrev pub invariant-loop-t : goal.invariant-loop-t
invariant-loop-t l =
    (l.t ≤ l.rows) × (length l.z ≡ length l.initial.z) × ((z₀ : List ℤ) → length l.initial.z ≡ length z₀ → l.initial.z ≡ filled (before l.s.sizes l.p l.a 0) z₀ → l.z ≡ filled (before l.s.sizes l.p l.a l.t) z₀)

abbrev pub invariant-loop-a : goal.invariant-loop-a
invariant-loop-a l = (l.a ≤ l.k) × (length l.z ≡ length l.initial.z) × (l.z ≡ filled (before l.s.sizes l.p l.a 0) l.initial.z)
