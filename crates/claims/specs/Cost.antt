-- What is claimed of the cost: an agent's is its time until rest, a plan's the sum over its agents.
use Rattle.std.specs.Prelude.{◌≡◌, ◌↔◌, List, ℕ, ◌*◌, ◌≤◌, length, T}
use Rattle.lists.specs.Loop.{for, unless, sum}
use Rattle.instance.specs.declared.Sizes.{Sizes}
use Rattle.instance.specs.Instance.{instance}
use Rattle.plan.specs.Plan.{Row, plan_row, rests, rest_time, cost}
use Rattle.plan.specs.Rest.{Rests, BusyUntil}
use Rattle.calls.specs.Calls.{check_answer}

-- the pairs t, a of a plan with agent a not yet at rest at t; t runs below m, since at m every agent is at rest
abbrev pub busy : Sizes → List ℕ → List (ℕ × ℕ)
busy s p = for s.m λ t. for s.k λ a. unless (rests s.m (plan_row s p) a t) (t, a)

-- for an instance, horizon and plan that the plan check accepts
pub record Counted (b : List ℕ) (m rule : ℕ) (p : List ℕ) : Type 0 where
  -- the count is the sum of the times until rest
  pub total : (check_answer b m rule p).second ≡ sum (instance b m rule).sizes.k (rest_time m (plan_row (instance b m rule).sizes p))
  -- it is at most m·k, and so at most 512
  pub most : (check_answer b m rule p).second ≤ m * (instance b m rule).sizes.k
  pub most512 : (check_answer b m rule p).second ≤ 512

pub record Claim : Type 0 where
  -- the test says what the proposition says
  pub test : (m : ℕ) (P : ℕ → Row) (a t : ℕ) → T (rests m P a t) ↔ Rests m P a t
  -- the time until rest is the one time from which on the agent rests, and from no earlier one
  pub until : (m : ℕ) (P : ℕ → Row) (a : ℕ) → BusyUntil m P a (rest_time m P a)
  pub only : (m : ℕ) (P : ℕ → Row) (a t : ℕ) → BusyUntil m P a t → t ≡ rest_time m P a
  -- the cost is the number of pairs t, a with the agent not yet at rest at t
  pub pairs : (s : Sizes) (p : List ℕ) → cost s p ≡ length (busy s p)
  pub check : (b : List ℕ) (m rule : ℕ) (p : List ℕ) → (check_answer b m rule p).number ≡ 0 → Counted b m rule p
