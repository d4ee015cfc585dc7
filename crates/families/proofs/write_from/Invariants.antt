-- `families::write_from` meets its contract. The invariant: for some `from`, the clauses of the high ends below it are written, and `rest` has the bits from it on. Assumes nothing.
use mathlib.Core.List.{List}
use Prim.Native.Nat.{ℕ}
use Rattle.lists.specs.Loop.{when, each}
use Rattle.lists.proofs.Slices.{Filling}
use Rattle.bits.specs.Bits.{set?}
use Rattle.bits.proofs.Lowest.{Left}
use Rattle.instance.specs.declared.Sizes.{Sizes}
use Rattle.instance.specs.Instance.{upward}
use Rattle.formula.specs.Formula.{Clause, line, no_exchange}
use Rattle.families.proofs.write_from.Given as goal

-- the clauses of a high end v, where it is one
abbrev pub turn : Sizes → ℕ → ℕ → ℕ → ℕ → List Clause
turn s word t u v = when (upward (λ _. set? word) u v) (no_exchange s t u v)

abbrev pub invariant-loop-rest : goal.invariant-loop-rest
invariant-loop-rest l =
    (from : ℕ) × (Filling (λ v. each line (turn l.s.sizes l.word l.t.0 l.u.0 v)) l.s.sizes.n l.initial.f from l.at l.f × Left l.initial.rest l.rest from)

abbrev pub decreases-loop-rest : goal.decreases-loop-rest
decreases-loop-rest l = l.rest
