-- The instance bytes.
use Rattle.std.specs.Prelude.{◌≡◌, ◌⊎◌, ◌≢◌, List, [], ◌∷◌, Bool, not, ◌&&◌, ◌||◌, ℕ, suc, ◌+◌, ◌*◌, ◌<◌, length, get_or, take, drop, replicate, ltb, eqb}
use Rattle.lists.specs.Loop.{for, when, some, sum}
use Rattle.lists.specs.Slice.{filled}
use Rattle.bits.specs.Bits.{set?, word}
use Rattle.instance.specs.declared.Sizes.{Sizes}
use Rattle.instance.specs.declared.Checked.{Checked}

-- A goal byte of 255 means no goal.
abbrev pub no_goal : ℕ
no_goal = 255

-- an agent with this goal byte is free, as a test; it has a goal, as a proposition
abbrev pub free : ℕ → Bool
free goal = eqb goal no_goal

abbrev pub HasGoal : ℕ → Type 0
HasGoal goal = goal ≢ no_goal

-- where it has one, its goal is below n
abbrev pub GoalBelow : ℕ → ℕ → Type 0
GoalBelow n goal = HasGoal goal → goal < n

-- Under movement rule 2 an agent may follow: it may go to a vertex that another agent leaves in the same step.
abbrev pub following : Sizes → Bool
following s = eqb s.rule 2

-- the agents that have a goal, of k with these goal bytes, in their order; and how many they are
abbrev pub with_goal : ℕ → (ℕ → ℕ) → List ℕ
with_goal k goal = for k λ a. when (not (free (goal a))) (a ∷ [])

unfoldable pub goal_count : ℕ → (ℕ → ℕ) → ℕ
goal_count k goal = length (with_goal k goal)

-- The sizes n, k, e, the horizon m, the movement rule, and the number g of agents that have a goal; the low and the high end of edge j;
-- the start and the goal of agent a.
pub record Instance : Type 0 where
  pub sizes : Sizes
  pub low : ℕ → ℕ
  pub high : ℕ → ℕ
  pub start : ℕ → ℕ
  pub goal : ℕ → ℕ

module _ (b : List ℕ) where
  -- Sizes come first: n, k, and e in two bytes, low byte first.
  abbrev pub vertices : ℕ
  vertices = get_or b 0 0

  abbrev pub agents : ℕ
  agents = get_or b 1 0

  abbrev pub edges : ℕ
  edges = get_or b 2 0 + 256 * get_or b 3 0

  -- Then the low ends and the high ends of the edges, then the starts and the goals: the offset of each of these arrays.
  abbrev pub lows : ℕ
  lows = 4

  abbrev pub highs : ℕ
  highs = 4 + edges

  abbrev pub starts : ℕ
  starts = 4 + 2 * edges

  abbrev pub goals : ℕ
  goals = 4 + 2 * edges + agents

  -- an element of each
  abbrev pub low_end : ℕ → ℕ
  low_end j = get_or b (lows + j) 0

  abbrev pub high_end : ℕ → ℕ
  high_end j = get_or b (highs + j) 0

  abbrev pub start_of : ℕ → ℕ
  start_of a = get_or b (starts + a) 0

  abbrev pub goal_of : ℕ → ℕ
  goal_of a = get_or b (goals + a) 0

  -- the k bytes of the array at this offset: the starts, or the goals
  abbrev pub of_agents : ℕ → List ℕ
  of_agents offset = take agents (drop offset b)

  -- each goal there is is a vertex, and unlike the earlier ones there are
  abbrev pub NewGoals : Type 0
  NewGoals =
      (a : ℕ) → a < agents → HasGoal (goal_of a) → (goal_of a < vertices) × ((c : ℕ) → c < a → HasGoal (goal_of c) → goal_of c ≢ goal_of a)

  -- the instance that the bytes hold, with the horizon m and the movement rule given beside them
  unfoldable pub instance : ℕ → ℕ → Instance
  instance m rule =
      record {
        sizes = record { n = vertices; k = agents; e = edges; m = m; rule = rule; g = goal_count agents goal_of };
        low = low_end;
        high = high_end;
        start = start_of;
        goal = goal_of;
      }

module _ (I : Instance) where
  open I use {sizes, low, high, start, goal}
  open sizes use {n, k, e, g}

  -- edge j has the ends v and w, in this order or the other
  abbrev pub joins : ℕ → ℕ → ℕ → Bool
  joins v w j = eqb (low j) v && eqb (high j) w || eqb (low j) w && eqb (high j) v

  -- v and w are the two ends of an edge: w is a neighbour of v
  unfoldable pub adjacent : ℕ → ℕ → Bool
  adjacent v w = some e (joins v w)

  -- the same as a proposition
  abbrev pub Edge : ℕ → ℕ → Type 0
  Edge v w = (j : ℕ) × (j < e) × (((low j ≡ v) × (high j ≡ w)) ⊎ ((low j ≡ w) × (high j ≡ v)))

  -- the neighbours of v, rising, and how many they are
  abbrev pub neighbours : ℕ → List ℕ
  neighbours v = for n λ w. when (adjacent v w) (w ∷ [])

  abbrev pub degree : ℕ → ℕ
  degree v = length (neighbours v)

  -- the neighbours as words, one for each of 64 vertices: bit w of word v is set where w is a neighbour of v
  unfoldable pub neighbour_words : List ℕ
  neighbour_words = for 64 λ v. word n (adjacent v) ∷ []

  -- what questions 6 and 7 say of the edges
  pub record Edges : Type 0 where
    pub ends : (j : ℕ) → j < e → (low j < high j) × (high j < n)
    pub order : (i : ℕ) → suc i < e → (low i < low (suc i)) ⊎ ((low i ≡ low (suc i)) × (high i < high (suc i)))

  -- what questions 8 and 9 say of the starts and of the goals there are, but for that the goals differ: only their exchange needs it
  pub record Endpoints : Type 0 where
    pub starts_inside : (a : ℕ) → a < k → start a < n
    pub starts_apart : (a : ℕ) → a < k → (b : ℕ) → b < a → start b ≢ start a
    pub goals_inside : (a : ℕ) → a < k → GoalBelow n (goal a)

  -- every agent has a goal; none has one
  abbrev pub AllBound : Type 0
  AllBound = (a : ℕ) → a < k → HasGoal (goal a)

  abbrev pub AllFree : Type 0
  AllFree = (a : ℕ) → a < k → goal a ≡ no_goal

  -- g is the number of the agents that have a goal
  abbrev pub Counted : Type 0
  Counted = g ≡ goal_count k goal

-- The edges by low end, then high end, where `near` is a test of neighbours.
module _ (near : ℕ → ℕ → Bool) where
  -- v is the high end of an edge with the low end u
  abbrev pub upward : ℕ → ℕ → Bool
  upward u v = ltb u v && near u v

  -- the high ends below v of the edges with the low end u, rising
  abbrev pub higher : ℕ → ℕ → List ℕ
  higher u v = for v λ w. when (upward u w) (w ∷ [])

  -- how many of the edges between n vertices come before the one with the ends u and v
  unfoldable pub edges_before : ℕ → ℕ → ℕ → ℕ
  edges_before n u v = sum u (λ x. length (higher x n)) + length (higher u v)

-- bit w of word v is set
abbrev pub joined : List ℕ → ℕ → ℕ → Bool
joined near v w = set? (get_or near v 0) w

module _ (b : List ℕ) where
  -- the starts, or the goals, in an array for 16 agents, 0 beyond agent k - 1
  unfoldable pub for_agents : ℕ → List ℕ
  for_agents offset = filled (of_agents b offset) (replicate 16 0)

  -- the checked instance of accepted bytes
  unfoldable pub checked : ℕ → ℕ → Checked
  checked m rule =
      record {
        sizes = (instance b m rule).sizes;
        starts = for_agents (starts b);
        goals = for_agents (goals b);
        near = neighbour_words (instance b m rule);
      }

-- what stands in its place at a refusal
abbrev pub unchecked : Checked
unchecked =
    record {
      sizes = record { n = 0; k = 0; e = 0; m = 0; rule = 0; g = 0 };
      starts = replicate 16 0;
      goals = replicate 16 0;
      near = replicate 64 0;
    }
