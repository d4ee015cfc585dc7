-- Family H, and the pruned formula, which has it after G. H forbids each agent the vertices that it cannot come to in time, or from which
-- it cannot come to its goal in time.
use Rattle.std.specs.Prelude.{List, [], ◌∷◌, ◌++◌, Bool, ◌||◌, ℕ, suc, ◌+◌, ◌*◌, ◌-◌, min}
use Rattle.lists.specs.Loop.{for, when, sum}
use Rattle.instance.specs.declared.Sizes.{Sizes}
use Rattle.instance.specs.Instance.{Instance}
use Rattle.distances.specs.Distance.{further, to_goal, distance}
use Rattle.formula.specs.Variables.{variable_count, ¬X}
use Rattle.formula.specs.Formula.{Clause, Formula, clauses}
use Rattle.formula.specs.Counts.{clause_count, word_count}

-- a vertex at distance x from the start and y from the goal is too far at time t: further than t from the start, or further than
-- m - t from the goal
abbrev pub too_far : ℕ → ℕ → ℕ → ℕ → Bool
too_far m t x y = further t x || further (m - t) y

module _ (s : Sizes) where
  open s use {n, k, m}

  -- of agent a at time t, where x v and y v are the distances of v from its start and from its goal
  abbrev pub block_h : (ℕ → ℕ) → (ℕ → ℕ) → ℕ → ℕ → List Clause
  block_h x y t a = for n λ v. when (too_far m t (x v) (y v)) ((¬X s t a v ∷ []) ∷ [])

  -- where x a and y a are those of agent a
  unfoldable pub H : (ℕ → ℕ → ℕ) → (ℕ → ℕ → ℕ) → List Clause
  H x y = for (suc m) λ t. for k λ a. block_h (x a) (y a) t a

  -- How many clauses it has. A vertex at distance x from the start and y from the goal is too far at the first x of the m + 1 times and at
  -- the last y of them; the mark is more than all of them.
  unfoldable pub count_h : (ℕ → ℕ → ℕ) → (ℕ → ℕ → ℕ) → ℕ
  count_h x y = sum k λ a. sum n λ v. min (suc m) (x a v + y a v)

module _ (I : Instance) where
  open I use {sizes, start, goal}

  -- the distance of v from the start of agent a, and from its goal; for a free agent 0, which is not further than any time
  abbrev pub from_start : ℕ → ℕ → ℕ
  from_start a v = distance I (start a) v

  abbrev pub from_goal : ℕ → ℕ → ℕ
  from_goal a v = to_goal (goal a) (distance I (goal a) v)

  abbrev pub family_h : List Clause
  family_h = H sizes from_start from_goal

  -- the pruned formula: the clauses of the base formula, then those of H
  abbrev pub pruned : Formula
  pruned = record { variables = variable_count sizes; clauses = clauses I ++ family_h }

  -- its clauses and its words, as counts
  unfoldable pub pruned_clauses : ℕ
  pruned_clauses = clause_count sizes + count_h sizes from_start from_goal

  unfoldable pub pruned_words : ℕ
  pruned_words = word_count sizes + 2 * count_h sizes from_start from_goal
