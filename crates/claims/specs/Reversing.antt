-- Holding a plan to a later horizon and driving it back: one claim, about the answers of the instance check and the plan check and about
-- the formula.
use Rattle.std.specs.Prelude.{◌≡◌, ◌↔◌, List, [], ◌∷◌, ℕ, suc, ◌-◌, ◌≤◌, ◌<◌, length}
use Rattle.answers.specs.Answers.{accept, refuse}
use Rattle.instance.specs.Instance.{Instance, AllBound, no_goal, instance, agents}
use Rattle.instance.specs.Exchanged.{exchanged_instance, Exchanged}
use Rattle.instance.specs.Questions.{instance_answer}
use Rattle.plan.specs.Plan.{Row, plan_bytes, plan_row}
use Rattle.plan.specs.Reversing.{held_plan, reversed_plan}
use Rattle.calls.specs.Calls.{check_answer}
use Rattle.claims.specs.Correspondence.{Accepts}
use Rattle.claims.specs.Rule.{Satisfiable}
use Rattle.claims.specs.Following.{triangle}

-- for the instance bytes b, the horizon m and the rule
module _ (b : List ℕ) (m rule : ℕ) where
  abbrev I : Instance
  I = instance b m rule

  -- a plan held, and reversed; starts and goals exchanged
  abbrev pub held : List ℕ → List ℕ
  held p = held_plan (agents b) m p

  abbrev pub reversed : List ℕ → List ℕ
  reversed p = reversed_plan (agents b) m p

  abbrev pub exchanged : List ℕ
  exchanged = exchanged_instance b

  -- row t of a plan at this horizon
  abbrev pub row : ℕ → List ℕ → ℕ → Row
  row h p t = plan_row (instance b h rule).sizes p t

  pub record Reversing : Type 0 where
    -- Holding. The rows of the plan, then its last row again
    pub held_rows : (p : List ℕ) → length p ≡ plan_bytes I.sizes → (t a : ℕ) → t ≤ m → a < agents b → row (suc m) (held p) t a ≡ row m p t a
    pub held_last : (p : List ℕ) → length p ≡ plan_bytes I.sizes → (a : ℕ) → a < agents b → row (suc m) (held p) (suc m) a ≡ row m p m a
    -- it passes at the next horizon, if that is at most 32
    pub holds : m < 32 → (p : List ℕ) → Accepts (check_answer b m rule p) → Accepts (check_answer b (suc m) rule (held p))
    -- what can be satisfied at m can be at the next horizon, and so at each one to 32
    pub longer : m < 32 → Satisfiable b m rule → Satisfiable b (suc m) rule
    pub later : (h : ℕ) → m ≤ h → h ≤ 32 → Satisfiable b m rule → Satisfiable b h rule
    -- it costs what the plan costs
    pub same_cost : m < 32 → (p : List ℕ) → Accepts (check_answer b m rule p)
        → (check_answer b (suc m) rule (held p)).second ≡ (check_answer b m rule p).second
    -- The exchange, where every agent has a goal: it is accepted, and is the instance with starts and goals exchanged
    pub accepted : AllBound I → Accepts (instance_answer exchanged m rule)
    pub exchange : AllBound I → Exchanged I (instance exchanged m rule)
    -- every agent has a goal in it, and exchanging again gives the bytes back
    pub bound : AllBound (instance exchanged m rule)
    pub again : exchanged_instance exchanged ≡ b
    -- Reversing. Row t is row m - t of the plan
    pub reversed_rows : (p : List ℕ) → length p ≡ plan_bytes I.sizes → (t a : ℕ) → t ≤ m → a < agents b → row m (reversed p) t a ≡ row m p (m - t) a
    -- it passes for the exchange
    pub reverses : AllBound I → (p : List ℕ) → Accepts (check_answer b m rule p) → Accepts (check_answer exchanged m rule (reversed p))
    -- reversing again gives the plan back
    pub restores : (p : List ℕ) → Accepts (check_answer b m rule p) → reversed (reversed p) ≡ p
    -- what can be satisfied at m of the one can be of the other
    pub alike : AllBound I → Satisfiable b m rule ↔ Satisfiable exchanged m rule

-- ---- worked out by hand
-- the path 0-1-2-3; agents from 0 to 1 and from 2 to 3, and back
abbrev pub there : List ℕ
there = 4 ∷ 2 ∷ 3 ∷ 0 ∷ 0 ∷ 1 ∷ 2 ∷ 1 ∷ 2 ∷ 3 ∷ 0 ∷ 2 ∷ 1 ∷ 3 ∷ []

abbrev pub back : List ℕ
back = 4 ∷ 2 ∷ 3 ∷ 0 ∷ 0 ∷ 1 ∷ 2 ∷ 1 ∷ 2 ∷ 3 ∷ 1 ∷ 3 ∷ 0 ∷ 2 ∷ []

-- the same, agent 1 without a goal
abbrev pub one_free : List ℕ
one_free = 4 ∷ 2 ∷ 3 ∷ 0 ∷ 0 ∷ 1 ∷ 2 ∷ 1 ∷ 2 ∷ 3 ∷ 0 ∷ 2 ∷ 1 ∷ no_goal ∷ []

-- agent 1 goes first
abbrev pub drive : List ℕ
drive = 0 ∷ 2 ∷ 0 ∷ 3 ∷ 1 ∷ 3 ∷ []

-- both go at once, and wait
abbrev pub wait : List ℕ
wait = 0 ∷ 2 ∷ 1 ∷ 3 ∷ 1 ∷ 3 ∷ []

pub record Worked : Type 0 where
  pub held : held_plan 2 2 drive ≡ 0 ∷ 2 ∷ 0 ∷ 3 ∷ 1 ∷ 3 ∷ 1 ∷ 3 ∷ []
  pub held_cost : (check_answer there 2 1 drive ≡ accept 3) × (check_answer there 3 1 (held_plan 2 2 drive) ≡ accept 3)
  -- a plan of makespan 32 cannot be held: whatever the plan, horizon 33 is refused
  pub held_no_more : (p : List ℕ) → check_answer there 33 1 p ≡ refuse 10 0
  pub exchanged : exchanged_instance there ≡ back
  pub reversed : reversed_plan 2 2 drive ≡ 1 ∷ 3 ∷ 0 ∷ 3 ∷ 0 ∷ 2 ∷ []
  -- the cost of a reversed plan may be another: waiting at the end does not count, waiting at the beginning does
  pub reversed_cost : (check_answer there 2 1 wait ≡ accept 2) × (check_answer back 2 1 (reversed_plan 2 2 wait) ≡ accept 4)
  -- under rule 2 a ring turns, and turns back
  pub turned_back : (check_answer triangle 1 2 (0 ∷ 1 ∷ 2 ∷ 1 ∷ 2 ∷ 0 ∷ []) ≡ accept 3)
      × (reversed_plan 3 1 (0 ∷ 1 ∷ 2 ∷ 1 ∷ 2 ∷ 0 ∷ []) ≡ 1 ∷ 2 ∷ 0 ∷ 0 ∷ 1 ∷ 2 ∷ [])
      × (check_answer (exchanged_instance triangle) 1 2 (1 ∷ 2 ∷ 0 ∷ 0 ∷ 1 ∷ 2 ∷ []) ≡ accept 3)
  -- an agent without a goal would have no start
  pub free_refused : (instance_answer one_free 2 1 ≡ accept 0) × (instance_answer (exchanged_instance one_free) 2 1 ≡ refuse 8 11)

pub record Claim : Type 0 where
  -- for every accepted instance, horizon and rule
  pub plans : (b : List ℕ) (m rule : ℕ) → Accepts (instance_answer b m rule) → Reversing b m rule
  pub worked : Worked
