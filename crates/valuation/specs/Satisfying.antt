-- Valuations, satisfaction and the plan named, as propositions.
use Rattle.std.specs.Prelude.{◌≡◌, ◌↔◌, ◌⊎◌, ℕ, suc, ◌<◌, length, ℤ, pos, neg_ℤ}
use mathlib.Core.List.{List, Memᴰ}
use Rattle.instance.specs.declared.Sizes.{Sizes}
use Rattle.formula.specs.Variables.{Literal, X}
use Rattle.formula.specs.Formula.{Clause, Formula}
use Rattle.plan.specs.Plan.{plan_bytes, plan_row}
use Rattle.valuation.specs.Valuation.{entry}

-- a literal is true when it is one of the entries
abbrev pub True : List ℤ → Literal → Type 0
True entries literal = Memᴰ literal entries

-- a clause is satisfied when at least one of its literals is true
abbrev pub Satisfied : List ℤ → Clause → Type 0
Satisfied entries clause = (literal : Literal) × Memᴰ literal clause × True entries literal

-- the list is a valuation of so many variables: it has an entry for each, and entry i is the variable number i + 1 or its negative
pub record Valuation (variables : ℕ) (entries : List ℤ) : Type 0 where
  pub size : length entries ≡ variables
  pub each : (i : ℕ) → i < variables → (entry entries i ≡ pos (suc i)) ⊎ (entry entries i ≡ neg_ℤ (pos (suc i)))

-- a valuation satisfies a formula when it satisfies all its clauses
abbrev pub Satisfies : Formula → List ℤ → Type 0
Satisfies f entries = (clause : Clause) → Memᴰ clause f.clauses → Satisfied entries clause

module _ (s : Sizes) where
  open s use {n, k, m}

  -- the plan p is the one that the entries name: at byte t·k + a it has the one v whose X(t,a,v) is true
  pub record Names (entries : List ℤ) (p : List ℕ) : Type 0 where
    pub size : length p ≡ plan_bytes s
    pub inside : (t a : ℕ) → t < suc m → a < k → plan_row s p t a < n
    pub chosen : (t a v : ℕ) → t < suc m → a < k → v < n → True entries (X s t a v) ↔ (v ≡ plan_row s p t a)
