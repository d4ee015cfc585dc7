-- Plans: their rows, the three conditions as tests, the occupant of a vertex that is entered, makespan, time until rest and cost.
use Rattle.std.specs.Prelude.{List, Bool, not, ◌&&◌, ◌||◌, cond, ℕ, zero, suc, ◌+◌, ◌*◌, ◌-◌, ◌/◌, length, get_or, ltb, eqb}
use Rattle.lists.specs.Loop.{every, first, sum, unlike_earlier}
use Rattle.instance.specs.declared.Sizes.{Sizes}
use Rattle.instance.specs.Instance.{following, free}

-- a row: the vertex of each agent at one time
abbrev pub Row : Type 0
Row = ℕ → ℕ

-- the row that these bytes hold
abbrev pub row : List ℕ → Row
row bytes a = get_or bytes a 0

-- how many bytes a plan has
abbrev pub plan_bytes : Sizes → ℕ
plan_bytes s = suc s.m * s.k

-- where the byte of agent a at time t stands in a plan
abbrev pub plan_index : Sizes → ℕ → ℕ → ℕ
plan_index s t a = t * s.k + a

-- row t of a plan: the vertex of each agent at time t
abbrev pub plan_row : Sizes → List ℕ → ℕ → Row
plan_row s p t a = get_or p (plan_index s t a) 0

-- A step is about a row and the next row. It obeys a condition where each agent a passes its test.
-- the agent keeps its vertex
abbrev pub keeps : Row → Row → ℕ → Bool
keeps here next a = eqb (here a) (next a)

-- 1: it keeps its vertex or crosses an edge, to a neighbour
unfoldable pub condition1 : (ℕ → ℕ → Bool) → Row → Row → ℕ → Bool
condition1 near here next a = keeps here next a || near (here a) (next a)

-- no agent stood on the vertex that it goes to
abbrev pub vacant? : Sizes → Row → Row → ℕ → Bool
vacant? s here next a = every s.k λ b. not (eqb (here b) (next a))

-- no agent goes to its vertex from the one that it goes to
abbrev pub unexchanged? : Sizes → Row → Row → ℕ → Bool
unexchanged? s here next a = every s.k λ b. not (eqb (here b) (next a) && eqb (next b) (here a))

-- 2: it keeps its vertex, or goes to one on which no agent stood; under rule 2, or exchanges vertices with no agent
unfoldable pub condition2 : Sizes → Row → Row → ℕ → Bool
condition2 s here next a = keeps here next a || cond (following s) (unexchanged? s here next a) (vacant? s here next a)

-- 3: it shares its vertex in the next row with no lower agent
unfoldable pub condition3 : Row → ℕ → Bool
condition3 next a = unlike_earlier next a

-- the three by number: 0, 1 and 2 for conditions 1, 2 and 3; a higher number counts as 2
abbrev pub condition : Sizes → (ℕ → ℕ → Bool) → ℕ → Row → Row → ℕ → Bool
condition s near zero here next a = condition1 near here next a
condition s near (suc zero) here next a = condition2 s here next a
condition s near (suc (suc which)) here next a = condition3 next a

-- Where an agent fails condition 2 under rule 1, the vertex that it enters was occupied.
-- the occupant: the agent that stood on the vertex that agent a enters
abbrev pub occupant : Sizes → Row → Row → ℕ → ℕ
occupant s here next a = first s.k λ b. eqb (here b) (next a)

-- what an occupant does: it stays, it moves to the entering agent's old vertex (a swapping conflict), or it moves to another (a
-- following conflict)
pub data Leaving : Type 0 where
  stays : Leaving
  exchanges : Leaving
  moves_on : Leaving

-- what the occupant of the vertex that agent a enters does
unfoldable pub occupant_leaves : Sizes → Row → Row → ℕ → Leaving
occupant_leaves s here next a =
    let b = occupant s here next a in
    cond (keeps here next b) stays (cond (eqb (next b) (here a)) exchanges moves_on)

-- at its goal in this row, or free
abbrev pub at_goal : (ℕ → ℕ) → Row → ℕ → Bool
at_goal goal row a = free (goal a) || eqb (row a) (goal a)

-- the number of steps of a plan: they lie between its rows of k bytes
abbrev pub makespan : ℕ → List ℕ → ℕ
makespan k p = length p / k - 1

-- An agent is busy until it stands for good. P t is row t, and m the last time.
-- agent a keeps one vertex in all rows t to m
unfoldable pub rests : ℕ → (ℕ → Row) → ℕ → ℕ → Bool
rests m P a t = every (suc m) λ u. ltb u t || keeps (P t) (P u) a

-- its cost, the time until rest: the least such t
unfoldable pub rest_time : ℕ → (ℕ → Row) → ℕ → ℕ
rest_time m P a = first (suc m) λ t. rests m P a t

-- a plan's cost: the sum over its agents (the sum of costs)
unfoldable pub cost : Sizes → List ℕ → ℕ
cost s p = sum s.k (rest_time s.m (plan_row s p))
