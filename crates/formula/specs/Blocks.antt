-- The families by number, A 0 to G 6, and the blocks of each, as the code goes through them.
-- It states nothing about clauses: those stand in `Formula`. Under rule 2 the edges of G are taken by their low ends, which is their
-- stored order.
use Rattle.std.specs.Prelude.{List, [], ◌∷◌, Bool, ◌||◌, cond, ℕ, suc, eqb, get_or}
use Rattle.lists.specs.Loop.{for, when}
use Rattle.instance.specs.declared.Sizes.{Sizes}
use Rattle.instance.specs.declared.Checked.{Checked}
use Rattle.instance.specs.Instance.{Instance, following, adjacent, upward, joined}
use Rattle.formula.specs.Formula.{Clause, A, B, C, D, E, F, block_a, block_b, block_c, block_d, block_e, block_f, no_following, no_exchange}

-- what the families use
pub record Given : Type 0 where
  pub sizes : Sizes
  pub start : ℕ → ℕ
  pub goal : ℕ → ℕ
  pub near : ℕ → ℕ → Bool

-- of an instance
abbrev pub given : Instance → Given
given I = record { sizes = I.sizes; start = I.start; goal = I.goal; near = adjacent I }

-- as the code has it: sizes, arrays of starts and goals, words of neighbours
abbrev pub held_in : Sizes → List ℕ → List ℕ → List ℕ → Given
held_in s starts goals near = record { sizes = s; start = λ a. get_or starts a 0; goal = λ a. get_or goals a 0; near = joined near }

abbrev pub held : Checked → Given
held c = held_in c.sizes c.starts c.goals c.near

-- How many times t a family has, and how many blocks for each: of an agent a, or of a vertex v (in E, and in G under rule 2). In the order A, B, C, D, E, F, G.
module _ (s : Sizes) where
  open s use {n, k, m}

  unfoldable pub times : ℕ → ℕ
  times j = get_or (1 ∷ 1 ∷ suc m ∷ suc m ∷ suc m ∷ m ∷ m ∷ []) j 0

  unfoldable pub blocks_at : ℕ → ℕ
  blocks_at j = get_or (k ∷ k ∷ k ∷ k ∷ n ∷ k ∷ cond (following s) n k ∷ []) j 0

module _ (s : Sizes) (near : ℕ → ℕ → Bool) where
  open s use {n, k, m}

  -- of the edges with the low end u: no two agents exchange their ends
  abbrev pub no_exchange_from : ℕ → ℕ → List Clause
  no_exchange_from t u = for n λ v. when (upward near u v) (no_exchange s t u v)

  -- G's block of t and x: under rule 1 x is an agent, under rule 2 a low end
  abbrev pub block_g : ℕ → ℕ → List Clause
  block_g t x = cond (following s) (no_exchange_from t x) (no_following s t x)

  unfoldable pub by_blocks : List Clause
  by_blocks = for m λ t. for (cond (following s) n k) (block_g t)

-- the families whose clauses have two literals each: D, E and, under rule 1, G
abbrev pub paired : ℕ → Bool
paired j = eqb j 3 || eqb j 4 || eqb j 6

module _ (g : Given) where
  open g use {sizes, start, goal, near}

  unfoldable pub family : ℕ → List Clause
  family j = get_or (A sizes start ∷ B sizes goal ∷ C sizes ∷ D sizes ∷ E sizes ∷ F sizes near ∷ by_blocks sizes near ∷ []) j []

  -- the block of t and x
  unfoldable pub block : ℕ → ℕ → ℕ → List Clause
  block j t x =
      get_or (
      block_a sizes start x ∷ block_b sizes goal x ∷ block_c sizes t x ∷ block_d sizes t x ∷ block_e sizes t x ∷ block_f sizes near t x
      ∷ block_g sizes near t x ∷ []
      ) j []
