-- The valuation of a plan with a ceiling: the base formula's variables as without one, B and the outputs set to their meaning.
use Rattle.std.specs.Prelude.{List, [], ◌∷◌, ◌++◌, Bool, not, ℕ, suc, ◌+◌, ◌*◌, ◌-◌, ◌/◌, ◌%◌, ℤ}
use Rattle.lists.specs.Loop.{for}
use Rattle.instance.specs.declared.Sizes.{Sizes}
use Rattle.formula.specs.Variables.{variable_count}
use Rattle.plan.specs.Plan.{plan_row, rests}
use Rattle.valuation.specs.Valuation.{plan_valuation}
use Rattle.ceiling.specs.Tree.{entry_of, tree_entries}
use Rattle.ceiling.specs.Ceiling.{busy_number, root}

module _ (s : Sizes) (p : List ℕ) where
  open s use {k, m}

  -- agent a is not yet at rest at time t
  abbrev pub busy : ℕ → ℕ → Bool
  busy t a = not (rests m (plan_row s p) a t)

  -- the same by the number of B(t,a)
  unfoldable pub busy_at : ℕ → Bool
  busy_at z = let i = z - suc (variable_count s) in busy (i / k) (i % k)

  unfoldable pub busy_entries : List ℤ
  busy_entries = for m λ t. for k λ a. entry_of (busy t a) (busy_number s t a) ∷ []

  unfoldable pub counter_entries : ℕ → List ℤ
  counter_entries c = tree_entries busy_at c (root s) (variable_count s) (variable_count s + m * k)

  unfoldable pub ceiling_valuation : ℕ → List ℤ
  ceiling_valuation c = plan_valuation s p ++ busy_entries ++ counter_entries c
