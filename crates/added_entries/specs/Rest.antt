-- The entries by the agents' times until rest and marks of the inputs, as the code goes.
use Rattle.std.specs.Prelude.{List, [], ◌∷◌, Bool, false, ℕ, suc, ◌+◌, ◌-◌, ◌/◌, ◌%◌, get_or, ltb, ℤ}
use Rattle.lists.specs.Loop.{for}
use Rattle.instance.specs.declared.Sizes.{Sizes}
use Rattle.plan.specs.Plan.{plan_row, rest_time}
use Rattle.ceiling.specs.Tree.{tree_over, tree_entries, count, entry_of}

-- the agents' times until rest
abbrev pub rest_times : Sizes → List ℕ → List ℕ
rest_times s p = for s.k λ a. rest_time s.m (plan_row s p) a ∷ []

-- the entries of n variables after y, where entry j says g j
abbrev pub entries_of : (ℕ → Bool) → ℕ → ℕ → List ℤ
entries_of g n y = for n λ j. entry_of (g j) (y + suc j) ∷ []

-- the mark of input i, which is B(i / k, i % k): whether it is true; and those of l inputs
abbrev pub mark : List ℕ → ℕ → ℕ → Bool
mark rest k i = ltb (i / k) (get_or rest (i % k) 0)

abbrev pub marks_of : List ℕ → ℕ → ℕ → List Bool
marks_of rest k l = for l λ i. mark rest k i ∷ []

module _ (marks : List Bool) where
  -- input i is true
  unfoldable pub busy_in : ℕ → Bool
  busy_in i = get_or marks i false

  -- The tree over the l inputs from x on, its own variables after y: their entries, and how many inputs are true. Input i has the
  -- number i + 1 here.
  unfoldable pub entries_over : ℕ → ℕ → ℕ → ℕ → List ℤ
  entries_over c l x y = tree_entries (λ z. busy_in (z - 1)) c (tree_over l) x y

  unfoldable pub count_over : ℕ → ℕ → ℕ
  count_over l x = count (λ z. busy_in (z - 1)) x l
