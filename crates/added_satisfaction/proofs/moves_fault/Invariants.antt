-- `added_satisfaction::moves_fault` meets its contract: the agents of the bytes before keep their vertices, or their B are true. Assumes nothing.
use mathlib.Core.Bool.{◌||◌}
use Prim.Native.Nat.{ℕ, ◌+◌, ◌<◌}
use lib.ListN.{get_or}
use lib.Dec.{T, eqb}
use Rattle.valuation.specs.Valuation.{true?}
use Rattle.ceiling.specs.Tree.{on}
use Rattle.added_satisfaction.proofs.moves_fault.Given as goal

abbrev pub invariant-loop-i : goal.invariant-loop-i
invariant-loop-i l =
    (j : ℕ) → j < l.i → T (eqb (get_or l.p j 0) (get_or l.p (j + l.k) 0) || true? l.of.entries.now (on (l.first + j)))
