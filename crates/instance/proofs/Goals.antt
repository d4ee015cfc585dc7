-- The agents that have a goal: how many they are, and that each has its place among them.
use mathlib.Core.Path.{◌≡◌, sym, ◌∙◌, ap}
use mathlib.Core.Logic.{◌↔◌, ◌⊎◌, inl, inr, ⊎_elim, by_cases}
use mathlib.Core.List.{[], ◌∷◌}
use mathlib.Core.Bool.{Bool, true, false, not, ◌&&◌, ◌||◌}
use Prim.Native.Nat.{ℕ, zero, suc, ◌≤◌, ◌<◌}
use native.Mathlib.Nat.{le_refl, mul-one}
use native.Mathlib.Decide.{ℕ_discrete}
use native.Mathlib.Omega.{arith}
use borrow.Author.Tests.{not-true, not-false}
use lib.ListN.{length}
use lib.Dec.{T}
use Rattle.lists.specs.Loop.{for, when, sum}
use Rattle.lists.proofs.Tests.{below_zero, below_suc, and_iff, or_iff, or_imp, not_iff, eqb_iff}
use Rattle.lists.proofs.Loops.{for_ext}
use Rattle.lists.proofs.Sums.{ind, ind_yes, sum_ext, sum_const, when_count, count_most, sum_le}
use Rattle.answers.proofs.Faults.{holds, fails}
use Rattle.instance.specs.Instance.{no_goal, free, HasGoal, goal_count}

-- the test and the proposition
pub has_goal : (x : ℕ) → T (not (free x)) → HasGoal x
has_goal x t e = (not_iff (free x)).0 t ((eqb_iff x no_goal).1 e)

pub not_free : (x : ℕ) → HasGoal x → T (not (free x))
not_free x h = (not_iff (free x)).1 (λ t. h ((eqb_iff x no_goal).0 t))

-- what the test answered, r, says
pub told_goal : (x : ℕ) {r : Bool} → r ≡ free x → r ≡ false → HasGoal x
told_goal x e t z = fails e t ((eqb_iff x no_goal).1 z)

-- a byte x that is passed over where it may be free and is, and tested else; r is what the test of freedom answered
module _ (optional : Bool) (x : ℕ) {r : Bool} (e : r ≡ free x) where
  abbrev over : Bool
  over = optional && free x

  pub passed_over : not (optional && r) ≡ false → T over
  passed_over t = holds (ap (λ (y : Bool). optional && y) e) (not-false _ t)

  pub was_free : not (optional && r) ≡ false → T (free x)
  was_free t = ((and_iff optional (free x)).0 (passed_over t)).1

  pub not_over : not (optional && r) ≡ true → T over → ⊥
  not_over t = fails (ap (λ (y : Bool). optional && y) e) (not-true _ t)

  module _ (test : Bool) where
    pub over_passes : not (optional && r) ≡ false → T (over || test)
    over_passes t = (or_iff over test).1 (inl (passed_over t))

    pub asked_iff : not (optional && r) ≡ true → T (over || test) ↔ T test
    asked_iff t = (
      (λ h. (or_imp over test).0 h (not_over t)),
      (λ h. (or_iff over test).1 (inr h)),
    )

    -- both in one test
    pub over_fails : not (optional && r || test) ≡ true → T (over || test) → ⊥
    over_fails t = fails (ap (λ (y : Bool). optional && y || test) e) (not-true _ t)

    pub over_holds : not (optional && r || test) ≡ false → T (over || test)
    over_holds t = holds (ap (λ (y : Bool). optional && y || test) e) (not-false _ t)

module _ (goal : ℕ → ℕ) where
  abbrev pub has : ℕ → Bool
  has a = not (free (goal a))

  -- what stands once for each of them is as many
  pub goal_count_lem : (k : ℕ) → goal_count k goal ≡ sum k (λ a. ind (has a))
  unfolding goal_count
  goal_count_lem k = when_count k has (λ a. a)

  pub goals_once : {A : Type 0} (k : ℕ) (f : ℕ → A) → length (for k λ a. when (has a) (f a ∷ [])) ≡ goal_count k goal
  goals_once k f = when_count k has f ∙ sym (goal_count_lem k)

  pub goal_count_most : (k : ℕ) → goal_count k goal ≤ k
  goal_count_most k = rw (goal_count_lem k) (count_most k has)

  -- where every agent has one
  pub goal_count_all : (k : ℕ) → ((a : ℕ) → a < k → HasGoal (goal a)) → goal_count k goal ≡ k
  goal_count_all k h =
      goal_count_lem k ∙ sum_ext k (λ a. ind (has a)) (λ a. 1) (λ a l. ind_yes (has a) (not_free (goal a) (h a l))) ∙ sum_const k 1 ∙ mul-one k

  -- its place among those of more agents
  pub goal_count_below : (k a : ℕ) → a < k → HasGoal (goal a) → goal_count a goal < goal_count k goal
  goal_count_below k a l h =
      rw (goal_count_lem k, goal_count_lem a) (omega (arith, sum_le k (λ a. ind (has a)) a l, ind_yes (has a) (not_free (goal a) h)))

-- some agent has a goal, or all are free
pub goal_or_none : (k : ℕ) (goal : ℕ → ℕ) → ((a : ℕ) × (a < k) × HasGoal (goal a)) ⊎ ((a : ℕ) → a < k → goal a ≡ no_goal)
goal_or_none zero goal = inr (below_zero _)
goal_or_none (suc k) goal =
    ⊎_elim
    (λ (a, l, h). inl (a, omega arith, h))
    (λ none. by_cases (ℕ_discrete (goal k) no_goal) (λ e. inr (below_suc _ k none e)) (λ h. inl (k, le_refl (suc k), h)))
    (goal_or_none k goal)

pub goal_count_ext : (k : ℕ) (goal other : ℕ → ℕ) → ((a : ℕ) → a < k → goal a ≡ other a) → goal_count k goal ≡ goal_count k other
unfolding goal_count
goal_count_ext k goal other h = ap length (for_ext k _ _ (λ a l. ap (λ (x : ℕ). when (not (free x)) (a ∷ [])) (h a l)))
