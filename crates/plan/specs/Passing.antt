-- Valid steps and passing plans, as propositions.
use Rattle.std.specs.Prelude.{◌≡◌, ◌≢◌, ◌⊎◌, List, Bool, true, false, ℕ, suc, ◌<◌, length, get_or}
use Rattle.instance.specs.Instance.{Instance, following, HasGoal, Edge}
use Rattle.plan.specs.Plan.{Row, plan_bytes, plan_row}

module _ (I : Instance) where
  open I use {sizes, start, goal}
  open sizes use {n, k, m}

  -- agents on two vertices exchange them
  abbrev pub Exchange : Row → Row → ℕ → ℕ → Type 0
  Exchange here next a b = (here a ≢ here b) × (next a ≡ here b) × (next b ≡ here a)

  -- Condition 2. Where agents may not follow: an agent that changes vertex goes to one on which no agent stood. Where they may: no two
  -- agents exchange vertices.
  abbrev pub Second : Row → Row → Bool → Type 0
  Second here next false = (a : ℕ) → a < k → here a ≢ next a → (b : ℕ) → b < k → here b ≢ next a
  Second here next true = (a b : ℕ) → a < k → b < k → Exchange here next a b → ⊥

  -- the step from a row to the next row
  pub record ValidStep (here next : Row) : Type 0 where
    -- 1: each agent keeps its vertex or crosses an edge
    pub crosses : (a : ℕ) → a < k → (here a ≡ next a) ⊎ Edge I (here a) (next a)
    -- 2: that of the rule
    pub second : Second here next (following sizes)
    -- 3: no two agents share a vertex in the next row
    pub apart : (a b : ℕ) → a < k → b < k → a ≢ b → next a ≢ next b

  -- the row has the goals there are: each agent that has a goal is at it
  abbrev pub AtGoals : Row → Type 0
  AtGoals row = (a : ℕ) → a < k → HasGoal (goal a) → row a ≡ goal a

  -- from the starts to the goals there are by valid steps, where P t is row t
  pub record Leads (P : ℕ → Row) : Type 0 where
    pub starts : (a : ℕ) → a < k → P 0 a ≡ start a
    pub steps : (t : ℕ) → t < m → ValidStep (P t) (P (suc t))
    pub goals : AtGoals (P m)

  -- a plan passes: it has (m+1)·k bytes, each a vertex, and its rows lead from the starts to the goals there are by valid steps
  pub record Passes (p : List ℕ) : Type 0 where
    pub size : length p ≡ plan_bytes sizes
    pub inside : (i : ℕ) → i < plan_bytes sizes → get_or p i 0 < n
    pub leads : Leads (plan_row sizes p)
