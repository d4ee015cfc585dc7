-- What is claimed of the pairs that families D and E go by: how many begin below a vertex or an agent, and where each stands.
use Rattle.std.specs.Prelude.{◌≡◌, ◌↔◌, [], ◌∷◌, ℕ, ◌+◌, ◌*◌, ◌-◌, ◌/◌, ◌≤◌, ◌<◌, length, get_or}
use Rattle.lists.specs.Loop.{each, pairs}
use Rattle.lists.specs.Pairs.{pair_list, pairs_below}
use Rattle.instance.specs.Instance.{Instance, Counted}
use Rattle.formula.specs.Variables as variables
use Rattle.formula.specs.Variables.{Literal}
use Rattle.formula.specs.Formula.{block_d, block_e, clauses}
use Rattle.formula.specs.Counts.{clauses_by}

-- the pairs of n items
pub record Items (n : ℕ) : Type 0 where
  -- how many begin with an item lower than v
  pub below : (v : ℕ) → v < n → pairs_below n v ≡ v * (2 * n - v - 1) / 2
  -- how many there are in all
  pub whole : length (pair_list n) ≡ pairs n
  -- the pair v < w stands behind those that begin lower, and behind those of v with an item between the two
  pub place : (v w : ℕ) → v < w → w < n → get_or (pair_list n) (pairs_below n v + (w - v - 1)) (0, 0) ≡ (v, w)
  -- the pair at place p begins with the greatest item whose count is not above p
  pub greatest : (p v : ℕ) → p < pairs n → v < n → (pairs_below n v ≤ p) ↔ (v ≤ (get_or (pair_list n) p (0, 0)).0)

-- vertices in family D, and agents in family E
module _ (I : Instance) where
  open I use {sizes}
  open sizes use {n, k, m}

  abbrev ¬X : ℕ → ℕ → ℕ → Literal
  ¬X = variables.¬X sizes

  pub record Families : Type 0 where
    -- a block has the clause of each pair, in their order
    pub vertices : (t a : ℕ) → block_d sizes t a ≡ each (λ p. (¬X t a p.0 ∷ ¬X t a p.1 ∷ []) ∷ []) (pair_list n)
    pub agents : (t v : ℕ) → block_e sizes t v ≡ each (λ p. (¬X t p.0 v ∷ ¬X t p.1 v ∷ []) ∷ []) (pair_list k)
    -- so a clause has its number by the families before, the blocks before and the pairs before
    pub in_d : (t a v w : ℕ) → t ≤ m → a < k → v < w → w < n
        → get_or (clauses I) ((clauses_by sizes).A + (clauses_by sizes).B + (clauses_by sizes).C + ((t * k + a) * pairs n + (pairs_below n v + (w - v - 1)))) []
        ≡ ¬X t a v ∷ ¬X t a w ∷ []
    pub in_e : (t v a b : ℕ) → t ≤ m → v < n → a < b → b < k
        → get_or (clauses I) ((clauses_by sizes).A + (clauses_by sizes).B + (clauses_by sizes).C + (clauses_by sizes).D + ((t * n + v) * pairs k + (pairs_below k a + (b - a - 1)))) []
        ≡ ¬X t a v ∷ ¬X t b v ∷ []

-- for every number of items, and every instance whose g is the number of agents that have a goal; so for every accepted instance
pub record Claim : Type 0 where
  pub items : (n : ℕ) → Items n
  pub families : (I : Instance) → Counted I → Families I
