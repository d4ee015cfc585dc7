-- What is claimed of free agents, which have no goal, and of the goals there are: in question 9, in the formula, in 22 and in the floor.
-- That a plan passes where it leads to the goals there are is claimed in `Formula`, what family H and the floor make of them in
-- `Distances`.
use Rattle.std.specs.Prelude.{◌≡◌, ◌↔◌, ◌≢◌, List, [], ◌∷◌, ◌++◌, ℕ, ◌+◌, ◌*◌, ◌<◌, length, get_or, T}
use Rattle.lists.specs.Loop.{for, when, each}
use Rattle.answers.specs.Answers.{accept, clear}
use Rattle.instance.specs.declared.Sizes.{Sizes}
use Rattle.instance.specs.Instance.{Instance, free, HasGoal, with_goal, goal_count, AllBound, AllFree, NewGoals, instance, agents, goal_of, adjacent}
use Rattle.instance.specs.Questions.{question9, instance_answer}
use Rattle.formula.specs.Variables.{X}
use Rattle.formula.specs.Formula.{B, C, D, E, F, G, clauses}
use Rattle.formula.specs.Counts.{clause_count, word_count}
use Rattle.plan.specs.Plan.{plan_row}
use Rattle.calls.specs.Calls.{check_answer, encode_answer, floor_answer}

-- the free agents of the bytes b
abbrev pub free_agents : List ℕ → List ℕ
free_agents b = for (agents b) λ a. when (free (goal_of b a)) (a ∷ [])

-- for the instance bytes b, the horizon m and the rule
module _ (b : List ℕ) (m rule : ℕ) where
  abbrev I : Instance
  I = instance b m rule

  open I use {sizes, low, high, goal}
  open sizes use {n, k, e, g}

  -- the sizes, if every agent had a goal
  abbrev pub all_with_goal : Sizes
  all_with_goal = record { n = n; k = k; e = e; m = m; rule = rule; g = k }

  pub record InFormula : Type 0 where
    -- B has a clause for each agent that has a goal, in their order
    pub goals : B sizes goal ≡ each (λ a. (X sizes m a (goal a) ∷ []) ∷ []) (with_goal k goal)
    -- that of agent a stands behind A, and behind those of the lower agents that have a goal
    pub in_b : (a : ℕ) → a < k → HasGoal (goal a) → get_or (clauses I) (k + goal_count a goal) [] ≡ X sizes m a (goal a) ∷ []
    -- the families behind B begin at k + g
    pub behind_b : (i : ℕ) → get_or (clauses I) (k + g + i) [] ≡ get_or (C sizes ++ D sizes ++ E sizes ++ F sizes (adjacent I) ++ G sizes low high) i []
    -- one clause and two words fewer for each free agent
    pub others : g + length (free_agents b) ≡ k
    pub fewer_clauses : clause_count sizes + length (free_agents b) ≡ clause_count all_with_goal
    pub fewer_words : word_count sizes + 2 * length (free_agents b) ≡ word_count all_with_goal

  -- agent a has a goal and is not at it in row m, each lower agent that has a goal is at its own, and the place is that of a in row m
  pub record OffGoal (p : List ℕ) (place : ℕ) : Type 0 where
    pub a : ℕ
    pub agent : a < k
    pub has : HasGoal (goal a)
    pub off : plan_row sizes p m a ≢ goal a
    pub lower : (c : ℕ) → c < a → HasGoal (goal c) → plan_row sizes p m c ≡ goal c
    pub at : place ≡ m * k + a

  -- where every agent has a goal, B has a clause for each
  pub record Bound : Type 0 where
    pub all : g ≡ k
    pub whole_b : B sizes goal ≡ for k λ a. (X sizes m a (goal a) ∷ []) ∷ []

  -- where all agents are free
  pub record Idle : Type 0 where
    pub empty_b : B sizes goal ≡ []
    pub checked : (p : List ℕ) → (check_answer b m rule p).number ≢ 22
    pub encoded : (p : List ℕ) (room : ℕ) → (encode_answer b m rule p room).number ≢ 22
    pub floor : (instance_answer b 0 1).number ≡ 0 → floor_answer b ≡ accept 0

-- for all bytes, horizons and rules
pub record Claim : Type 0 where
  pub nine : (b : List ℕ) → T (clear (question9 b)) ↔ NewGoals b
  pub formula : (b : List ℕ) (m rule : ℕ) → InFormula b m rule
  pub check : (b : List ℕ) (m rule : ℕ) (p : List ℕ) → (check_answer b m rule p).number ≡ 22 → OffGoal b m rule p (check_answer b m rule p).second
  pub encode : (b : List ℕ) (m rule : ℕ) (p : List ℕ) (room : ℕ) → (encode_answer b m rule p room).number ≡ 22 → OffGoal b m rule p (encode_answer b m rule p room).second
  pub all_bound : (b : List ℕ) (m rule : ℕ) → AllBound (instance b m rule) → Bound b m rule
  pub all_free : (b : List ℕ) (m rule : ℕ) → AllFree (instance b m rule) → Idle b m rule
