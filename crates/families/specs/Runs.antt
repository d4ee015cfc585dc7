-- Clauses of negations, as the loops write them.
use Rattle.std.specs.Prelude.{List, [], ◌∷◌, not, ℕ, suc, ◌+◌, ◌*◌, ltb, eqb, pos, neg_ℤ}
use Rattle.lists.specs.Loop.{for, when}
use Rattle.instance.specs.declared.Sizes.{Sizes}
use Rattle.formula.specs.Variables.{Literal, ¬X}
use Rattle.formula.specs.Formula.{Clause, exchange}
use Rattle.families.specs.declared.Run.{Run}

-- the negation of variable i of a run
abbrev pub nots : Run → ℕ → Literal
nots run i = neg_ℤ (pos (run.first.0 + i * run.stride))

-- of no_two: i and j do not both hold, where j comes after i
abbrev pub above : (ℕ → Literal) → ℕ → ℕ → List Clause
above ¬x i j = when (ltb i j) ((¬x i ∷ ¬x j ∷ []) ∷ [])

-- of no_following: agent a is not at time t + 1 where another agent b was at time t
abbrev pub apart : Sizes → ℕ → ℕ → ℕ → List Clause
apart s t a b = when (not (eqb a b)) (for s.n λ v. (¬X s t b v ∷ ¬X s (suc t) a v ∷ []) ∷ [])

-- of no_exchange: agents a and b do not exchange u and v, where they are two
abbrev pub exchanging : Sizes → ℕ → ℕ → ℕ → ℕ → ℕ → List Clause
exchanging s t u v a b = when (not (eqb a b)) (exchange s t u v a b ∷ [])
