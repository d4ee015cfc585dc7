-- `clauses::put_many` meets its contract. The invariants: the literals of the set bits below w are written, and `gaps` has the bits from w on that are not set. Assumes nothing.
use mathlib.Core.List.{List, [], ◌∷◌}
use Prim.Native.Nat.{ℕ, ◌-◌, ◌≤◌}
use lib.IntN.{ℤ}
use Rattle.instance.specs.declared.Sizes.{Sizes}
use Rattle.variables.specs.declared.Step.{Step}
use Rattle.variables.specs.declared.Agent.{Agent}
use Rattle.lists.specs.Loop.{when}
use Rattle.lists.proofs.Slices.{Filling}
use Rattle.bits.specs.Bits.{set?}
use Rattle.bits.proofs.Lowest.{Left}
use Rattle.formula.specs.Variables.{Literal, X}
use Rattle.clauses.proofs.put_many.Given as goal

-- what a set bit stands for
abbrev pub lit : Sizes → ℕ → Step → Agent → ℕ → List Literal
lit s word t a w = when (set? word w) (X s t.0 a.0 w ∷ [])

abbrev pub invariant-loop-w : goal.invariant-loop-w
invariant-loop-w l =
    ((k : List ℤ) → Filling (lit l.s.sizes l.word l.t l.a) l.n k l.initial.w l.initial.at l.initial.f → Filling (lit l.s.sizes l.word l.t l.a) l.n k l.w l.at l.f) × (l.w ≤ l.gap) × (l.initial.w ≤ l.w)

abbrev pub decreases-loop-w : goal.decreases-loop-w
decreases-loop-w l = l.gap - l.w

abbrev pub invariant-loop-gaps : goal.invariant-loop-gaps
invariant-loop-gaps l = Filling (lit l.s.sizes l.word l.t l.a) l.n l.initial.f l.w l.at l.f × Left l.initial.gaps l.gaps l.w

abbrev pub decreases-loop-gaps : goal.decreases-loop-gaps
decreases-loop-gaps l = l.gaps

abbrev pub invariant-loop-w-2 : goal.invariant-loop-w-2
invariant-loop-w-2 l =
    ((k : List ℤ) → Filling (lit l.s.sizes l.word l.t l.a) l.n k l.initial.w l.initial.at l.initial.f → Filling (lit l.s.sizes l.word l.t l.a) l.n k l.w l.at l.f) × (l.initial.w ≤ l.w)

abbrev pub decreases-loop-w-2 : goal.decreases-loop-w-2
decreases-loop-w-2 l = l.n - l.w
