-- What is claimed of the distances, the floor and the pruned formula.
use Rattle.std.specs.Prelude.{◌≡◌, ◌↔◌, ◌≢◌, ◌⊎◌, List, ℕ, ◌+◌, ◌-◌, ◌≤◌, ◌<◌, length, T, ℤ}
use Rattle.instance.specs.Instance.{Instance, HasGoal, AllFree, instance, agents, goals, start_of, goal_of, neighbour_words}
use Rattle.instance.specs.Questions.{instance_answer}
use Rattle.distances.specs.Distance.{unreachable, distance}
use Rattle.distances.specs.Table.{cell, TableOf}
use Rattle.distances.specs.Walk.{Walk, Shortest, Further, Unreachable}
use Rattle.formula.specs.Formula.{formula, words}
use Rattle.formula.specs.Counts.{most_words}
use Rattle.formula.specs.Pruned.{too_far, from_start, from_goal, pruned, pruned_clauses, pruned_words}
use Rattle.plan.specs.Passing.{Passes}
use Rattle.valuation.specs.Satisfying.{Valuation, Satisfies}
use Rattle.calls.specs.Calls.{size_answer, check_answer, floor_answer}

-- for the instance bytes b, the horizon m and the rule
module _ (b : List ℕ) (m rule : ℕ) where
  abbrev I : Instance
  I = instance b m rule

  open I.sizes use {n, k}

  pub record Distances : Type 0 where
    -- a distance is the length of a shortest walk, and the mark stands exactly where there is no walk
    pub shortest : (v w : ℕ) → v < n → w < n → distance I v w ≢ unreachable → Shortest I v w (distance I v w)
    pub mark : (v w : ℕ) → v < n → w < n → (distance I v w ≡ unreachable) ↔ Unreachable I v w
    -- it is as far there as back, and no distance is n or more
    pub back : (v w : ℕ) → v < n → w < n → distance I v w ≡ distance I w v
    pub most : (v w : ℕ) → v < n → w < n → distance I v w ≢ unreachable → distance I v w < n
    -- a table that is filled from the words of the neighbours has them
    pub table : (table : List (List ℕ)) → TableOf n (neighbour_words I) table → (v w : ℕ) → v < n → w < n → cell table v w ≡ distance I v w

  pub record Pruned : Type 0 where
    -- H forbids an agent a vertex at a time exactly where no walk of so few edges leads there from its start, or from its goal, if it
    -- has one
    pub far : (t a v : ℕ) → t ≤ m → a < k → v < n
        → T (too_far m t (from_start I a v) (from_goal I a v)) ↔ (Further I t (I.start a) v ⊎ (HasGoal (I.goal a) × Further I (m - t) (I.goal a) v))
    -- the pruned formula has the variables of the base formula, and exactly its satisfying valuations
    pub variables : (pruned I).variables ≡ (formula I).variables
    pub valuations : (entries : List ℤ) → Valuation (formula I).variables entries → Satisfies (pruned I) entries ↔ Satisfies (formula I) entries
    -- its counts are the lengths of its lists
    pub clause_total : length (pruned I).clauses ≡ pruned_clauses I
    pub word_total : length (words (pruned I)) ≡ pruned_words I
    -- none has more words than the largest formula under its rule and two for each of its variables
    pub most : length (words (pruned I)) ≤ most_words I.sizes + 67_584
    -- the counts of its size call
    pub size : (size_answer pruned b m rule).number ≡ 0
        → ((size_answer pruned b m rule).second ≡ pruned_words I) × ((size_answer pruned b m rule).clauses ≡ pruned_clauses I)

-- of the agents that have a goal: a shortest walk from the start to the goal has at most x edges, and that of some agent has x; where no
-- agent has a goal, x is 0
pub record Greatest (b : List ℕ) (x : ℕ) : Type 0 where
  pub each : (a : ℕ) → a < agents b → HasGoal (goal_of b a) → (d : ℕ) × (d ≤ x) × Shortest (instance b 0 1) (start_of b a) (goal_of b a) d
  pub one : ((a : ℕ) × (a < agents b) × HasGoal (goal_of b a) × Shortest (instance b 0 1) (start_of b a) (goal_of b a) x)
      ⊎ (AllFree (instance b 0 1) × (x ≡ 0))

-- agent a has a goal, which cannot be reached from its start, but that of each lower agent that has one can, and the place is the offset
-- of that goal
pub record FirstUnreachable (b : List ℕ) (place a : ℕ) : Type 0 where
  pub agent : a < agents b
  pub has : HasGoal (goal_of b a)
  pub cut : Unreachable (instance b 0 1) (start_of b a) (goal_of b a)
  pub lower : (c : ℕ) → c < a → HasGoal (goal_of b c) → (d : ℕ) × Walk (instance b 0 1) d (start_of b c) (goal_of b c)
  pub offset : place ≡ goals b + a

pub record Claim : Type 0 where
  -- for every accepted instance, horizon and rule
  pub distances : (b : List ℕ) (m rule : ℕ) → (instance_answer b m rule).number ≡ 0 → Distances b m rule
  pub pruned : (b : List ℕ) (m rule : ℕ) → (instance_answer b m rule).number ≡ 0 → Pruned b m rule
  -- the graph, and so each distance, is the same at every horizon and under either rule
  pub horizon : (b : List ℕ) (m rule : ℕ) → distance (instance b m rule) ≡ distance (instance b 0 1)
  -- what the count of the floor call says
  pub floor : (b : List ℕ) → (floor_answer b).number ≡ 0 → Greatest b (floor_answer b).second
  -- what 30 and its place say
  pub thirty : (b : List ℕ) → (floor_answer b).number ≡ 30 → (a : ℕ) × FirstUnreachable b (floor_answer b).second a
  -- no passing plan has a makespan below the floor, at any horizon, under either rule; so none that the plan check accepts
  pub lowest : (b : List ℕ) → (instance_answer b 0 1).number ≡ 0 → (m rule : ℕ) (p : List ℕ) → Passes (instance b m rule) p
      → ((floor_answer b).number ≡ 0) × ((floor_answer b).second ≤ m)
  pub accepted : (b : List ℕ) (m rule : ℕ) (p : List ℕ) → (check_answer b m rule p).number ≡ 0
      → ((floor_answer b).number ≡ 0) × ((floor_answer b).second ≤ m)
  -- where 30 is answered, no plan passes at any horizon under either rule, and none is accepted by the plan check
  pub none : (b : List ℕ) → (floor_answer b).number ≡ 30 → (m rule : ℕ) (p : List ℕ) → Passes (instance b m rule) p → ⊥
  pub refused : (b : List ℕ) → (floor_answer b).number ≡ 30 → (m rule : ℕ) (p : List ℕ) → (check_answer b m rule p).number ≢ 0
