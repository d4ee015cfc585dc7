-- `clauses::put_few` meets its contract. The invariant: for some `from`, the literals of the bits below it are written, and `rest` has the bits from it on. Assumes nothing.
use mathlib.Core.List.{[], ◌∷◌}
use Prim.Native.Nat.{ℕ}
use Rattle.lists.specs.Loop.{when}
use Rattle.lists.proofs.Slices.{Filling}
use Rattle.bits.specs.Bits.{set?}
use Rattle.bits.proofs.Lowest.{Left}
use Rattle.formula.specs.Variables.{X}
use Rattle.clauses.proofs.put_few.Given as goal

abbrev pub invariant-loop-rest : goal.invariant-loop-rest
invariant-loop-rest l =
    (from : ℕ) × (Filling (λ w. when (set? l.word w) (X l.s.sizes l.t.0 l.a.0 w ∷ [])) l.s.sizes.n l.initial.f from l.at l.f × Left l.word l.rest from)

abbrev pub decreases-loop-rest : goal.decreases-loop-rest
decreases-loop-rest l = l.rest
