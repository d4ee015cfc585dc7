-- Where a clause stands. These stand in the contracts of this crate's functions, and in no public one.
use Rattle.std.specs.Prelude.{◌≡◌, ◌≢◌, List, [], ◌∷◌, ℕ, suc, ◌+◌, ◌*◌, ◌-◌, ◌<◌, get_or, ℤ}
use Rattle.lists.specs.Loop.{sum, pairs}
use Rattle.lists.specs.Pairs.{pairs_below}
use Rattle.instance.specs.declared.Sizes.{Sizes}
use Rattle.instance.specs.Instance.{HasGoal, goal_count}
use Rattle.formula.specs.Formula.{Clause, line}
use Rattle.formula.specs.Counts.{clauses_by}

-- How many clauses a family has, by its number, A 0 to G 6, and how many slots each of its blocks has (below), in G under rule 1.
module _ (s : Sizes) where
  open s use {n, k}

  abbrev pub count : ℕ → ℕ
  count j =
      get_or (
      (clauses_by s).A ∷ (clauses_by s).B ∷ (clauses_by s).C ∷ (clauses_by s).D ∷ (clauses_by s).E ∷ (clauses_by s).F ∷ (clauses_by s).G ∷ []
      ) j 0

  abbrev pub count_each : ℕ → ℕ
  count_each j = get_or (1 ∷ 1 ∷ 1 ∷ pairs n ∷ pairs k ∷ n ∷ (k - 1) * n ∷ []) j 0

-- clause number c stands at this place of the family with number j, whose blocks have `each` slots
pub record Stands (s : Sizes) (c j each place : ℕ) : Type 0 where
  pub seven : j < 7
  pub blocks : each ≡ count_each s j
  pub inside : place < count s j
  pub at : c ≡ sum j (count s) + place

-- A family has `count_each` slots in each block, and each holds a clause, but for those of free agents in B. Slot r of family j holds the
-- clause at this place of the family.
pub record Slot (s : Sizes) (goal : ℕ → ℕ) (j place r : ℕ) : Type 0 where
  pub full : j ≢ 1 → r ≡ place
  pub goals : j ≡ 1 → (r < s.k) × HasGoal (goal r) × (goal_count r goal ≡ place)

-- the pair low < high is pair number p of the numbers below n, by low, then high
pub record PairAt (n p low high : ℕ) : Type 0 where
  pub order : low < high
  pub below : high < n
  pub at : p ≡ pairs_below n low + (high - suc low)

-- the line of the clause at a place
abbrev pub line_at : List Clause → ℕ → List ℤ
line_at clauses place = line (get_or clauses place [])
