-- Valuations: their entries, the truth of a literal, the plan named, and the valuation of a plan.
use Rattle.std.specs.Prelude.{List, [], ◌∷◌, Bool, false, ◌||◌, cond, ℕ, suc, get_or, eqb, ℤ, pos, negsuc, neg_ℤ}
use Rattle.lists.specs.Loop.{for, any, first}
use Rattle.instance.specs.declared.Sizes.{Sizes}
use Rattle.formula.specs.Variables.{Literal, X, ¬X}
use Rattle.formula.specs.Formula.{Clause}
use Rattle.plan.specs.Plan.{plan_row}

abbrev pub same_number : ℤ → ℤ → Bool
same_number (pos a) (pos b) = eqb a b
same_number (pos a) (negsuc b) = false
same_number (negsuc a) (pos b) = false
same_number (negsuc a) (negsuc b) = eqb a b

module _ (entries : List ℤ) where
  abbrev pub entry : ℕ → ℤ
  entry i = get_or entries i (pos 0)

  -- entry i is the variable number i + 1 or its negative
  abbrev pub right_entry : ℕ → Bool
  right_entry i = same_number (entry i) (pos (suc i)) || same_number (entry i) (neg_ℤ (pos (suc i)))

  -- a literal is true when it is one of the entries
  unfoldable pub true? : Literal → Bool
  true? literal = any (same_number literal) entries

  -- a clause is satisfied when at least one of its literals is true
  abbrev pub satisfied? : Clause → Bool
  satisfied? clause = any true? clause

module _ (s : Sizes) where
  open s use {n, k, m}

  -- the v whose X(t,a,v) is true
  unfoldable pub named : List ℤ → ℕ → ℕ → ℕ
  named entries t a = first n λ v. true? entries (X s t a v)

  -- the plan named: at byte t·k + a that v
  unfoldable pub named_plan : List ℤ → List ℕ
  named_plan entries = for (suc m) λ t. for k λ a. named entries t a ∷ []

  -- X(t,a,v) is made true for the vertex v of agent a at time t, and for no other
  abbrev pub entry_for : List ℕ → ℕ → ℕ → ℕ → ℤ
  entry_for p t a v = cond (eqb (plan_row s p t a) v) (X s t a v) (¬X s t a v)

  -- the valuation of a plan: the entries stand in the order of the variables' numbers
  unfoldable pub plan_valuation : List ℕ → List ℤ
  plan_valuation p = for k λ a. for (suc m) λ t. for n λ v. entry_for p t a v ∷ []
