-- What is measured to a goal: 0 where there is none.
use mathlib.Core.Path.{◌≡◌, refl, sym, ◌∙◌, ap, subst}
use mathlib.Core.Logic.{◌↔◌, by_cases}
use mathlib.Core.List.{List, []}
use mathlib.Core.Bool.{Bool, true, false, cond}
use Prim.Native.Nat.{ℕ}
use native.Mathlib.Decide.{ℕ_discrete}
use native.Mathlib.Omega.{arith}
use borrow.Author.Tests.{eq-eqb, ne_eqb}
use lib.ListN.{get_or, replicate}
use lib.Dec.{T}
use Rattle.lists.proofs.Tests.{eqb_iff, ltb_iff}
use Rattle.lists.proofs.Slices.{get_or_alike}
use Rattle.instance.specs.Instance.{no_goal, free, HasGoal}
use Rattle.distances.specs.Distance.{further, to_goal}
use Rattle.distances.specs.Table.{cell, goal_by}

pub to_goal_free : (goal d : ℕ) → T (free goal) → to_goal goal d ≡ 0
to_goal_free goal d t = rw (eq-eqb goal no_goal ((eqb_iff goal no_goal).0 t))

pub to_goal_has : (goal d : ℕ) → HasGoal goal → to_goal goal d ≡ d
to_goal_has goal d h = rw (ne_eqb goal no_goal h)

-- what holds of 0 where there is no goal, and of d where there is one
pub by_goal : (goal d : ℕ) (P : ℕ → Type 0) → (T (free goal) → P 0) → (HasGoal goal → P d) → P (to_goal goal d)
by_goal goal d P x y =
    by_cases (ℕ_discrete goal no_goal)
    (λ e. let t = (eqb_iff goal no_goal).1 e in subst P (sym (to_goal_free goal d t)) (x t))
    (λ h. subst P (sym (to_goal_has goal d h)) (y h))

-- 0 is further than no time
pub further_goal : (t goal d : ℕ) → T (further t (to_goal goal d)) ↔ (HasGoal goal × T (further t d))
further_goal t goal d =
    by_goal goal d (λ x. T (further t x) ↔ (HasGoal goal × T (further t d)))
    (λ f. (
      (λ p. let z = (ltb_iff t 0).0 p in absurd (let o : ⊥ = omega arith in o)),
      (λ (h, p). absurd (h ((eqb_iff goal no_goal).0 f))),
    ))
    (λ h. ((λ p. (h, p)), (λ (h, p). p)))

-- what is measured to one goal is the same where the distances are
pub to_goal_ext : (goal other d e : ℕ) → goal ≡ other → (HasGoal goal → d ≡ e) → to_goal goal d ≡ to_goal other e
to_goal_ext goal other d e z h =
    by_goal goal d (λ x. x ≡ to_goal goal e) (λ f. sym (to_goal_free goal e f)) (λ g. h g ∙ sym (to_goal_has goal e g))
    ∙ ap (λ (x : ℕ). to_goal x e) z

-- the row of a free agent has zeros
pub goal_by_lem : (table : List (List ℕ)) (goals : List ℕ) (a v : ℕ) → goal_by table goals a v ≡ to_goal (get_or goals a 0) (cell table (get_or goals a 0) v)
goal_by_lem table goals a v = go (free (get_or goals a 0))
  where
    go : (b : Bool) → get_or (cond b (replicate 64 0) (get_or table (get_or goals a 0) [])) v 0 ≡ cond b 0 (cell table (get_or goals a 0) v)
    go true = get_or_alike 64 v 0
    go false = refl
