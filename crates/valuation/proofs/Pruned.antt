-- Places that lead from the starts to the goals keep within the distances: no plan is shorter than the floor, and family H takes no
-- valuation away.
use mathlib.Core.Path.{◌≡◌, sym, subst}
use mathlib.Core.Logic.{◌↔◌, ⊎_elim}
use mathlib.Core.List.{List}
use mathlib.Core.Bool.{Bool}
use Prim.Native.Nat.{ℕ, zero, suc, ◌+◌, ◌-◌, ◌≤◌, ◌<◌}
use native.Mathlib.Nat.{le_refl}
use native.Mathlib.Omega.{arith}
use lib.Dec.{T}
use lib.IntN.{ℤ}
use Rattle.lists.proofs.Tests.{or_iff, eqb_iff}
use Rattle.lists.proofs.Loops.{for_all, when_all, one_all, any_one, all_append}
use Rattle.instance.specs.Instance.{Instance, HasGoal, adjacent, Edges, Endpoints}
use Rattle.instance.proofs.Graph.{adjacent_iff}
use Rattle.distances.specs.Distance.{unreachable, further, within, start_to_goal}
use Rattle.distances.proofs.Within.{within_step, within_more, distance_most, further_iff}
use Rattle.distances.proofs.Walks.{edge_back}
use Rattle.distances.proofs.Goals.{by_goal, further_goal}
use Rattle.formula.specs.Variables.{Literal, variable_count}
use Rattle.formula.specs.Formula.{clauses}
use Rattle.formula.specs.Pruned.{from_start, from_goal, H, family_h, pruned}
use Rattle.plan.specs.Passing.{Leads}
use Rattle.valuation.specs.Valuation.{true?, named}
use Rattle.valuation.specs.Satisfying.{Valuation}
use Rattle.valuation.specs.Places.{Places}
use Rattle.valuation.proofs.Families.{Sat, satisfies_iff, sat_CD}
use Rattle.valuation.proofs.Entries.{named_places}

module _ (I : Instance) where
  open I use {sizes, start, goal}
  open sizes use {n, k, m}

  abbrev near : ℕ → ℕ → Bool
  near = adjacent I

  module _ (P : ℕ → ℕ → ℕ) (o : Leads I P) (inside : (t a : ℕ) → t < suc m → a < k → P t a < n) where
    -- in t steps an agent comes at most t edges from its start
    pub from_start_lem : (a : ℕ) → a < k → (t : ℕ) → t < suc m → T (within n near t (start a) (P t a))
    unfolding within
    from_start_lem a r zero l = (eqb_iff (start a) (P 0 a)).1 (sym (o.starts a r))
    from_start_lem a r (suc t) l =
        let ih = from_start_lem a r t (omega arith) in
        ⊎_elim
        (λ e. within_more n near t (start a) (P (suc t) a) (subst (λ (x : ℕ). T (within n near t (start a) x)) e ih))
        (λ e. within_step n near t (start a) (P t a) (P (suc t) a) (inside t a (omega arith) r) ih ((adjacent_iff I (P t a) (P (suc t) a)).1 e))
        ((o.steps t (omega arith)).crosses a r)

    -- with j steps left it is at most j edges from its goal, if it has one
    from_goal_lem : (a : ℕ) → a < k → HasGoal (goal a) → (j t : ℕ) → t + j ≡ m → T (within n near j (goal a) (P t a))
    unfolding within
    from_goal_lem a r g zero t e =
        (eqb_iff (goal a) (P t a)).1 (let z : t ≡ m = omega arith in subst (λ (x : ℕ). goal a ≡ P x a) (sym z) (sym (o.goals a r g)))
    from_goal_lem a r g (suc j) t e =
        let ih = from_goal_lem a r g j (suc t) (omega arith) in
        ⊎_elim
        (λ q. within_more n near j (goal a) (P t a) (subst (λ (x : ℕ). T (within n near j (goal a) x)) (sym q) ih))
        (λ q.
        within_step n near j (goal a) (P (suc t) a) (P t a) (inside (suc t) a (omega arith) r) ih
        ((adjacent_iff I (P (suc t) a) (P t a)).1 (edge_back I (P t a) (P (suc t) a) q)))
        ((o.steps t (omega arith)).crosses a r)

    module _ (ends : Endpoints I) (few : n ≤ unreachable) where
      -- no agent's goal is further from its start than there are steps
      pub steps_most : (a : ℕ) → a < k → (start_to_goal I a ≤ m) × (start_to_goal I a < n)
      steps_most a r =
          by_goal (goal a) _ (λ x. (x ≤ m) × (x < n))
          (λ f. let z = ends.starts_inside a r in (omega arith, omega arith))
          (λ g.
          distance_most n near few (start a) (goal a) (ends.starts_inside a r) (ends.goals_inside a r g) m
          (subst (λ (x : ℕ). T (within n near m (start a) x)) (o.goals a r g) (from_start_lem a r m (le_refl (suc m)))))

      sat_H : (h : Literal → Bool) → Places sizes h P → Sat h (family_h I)
      unfolding H
      sat_H h c =
          simp (for_all, when_all, one_all, any_one)
          (λ t l a r v i f.
          (c.elsewhere t a v l r i).1 (λ e.
          ⊎_elim
          (λ q. (further_iff n near few (start a) v (ends.starts_inside a r) i t).0 q (rw e (from_start_lem a r t l)))
          (λ q.
          let (g, q') = (further_goal (m - t) (goal a) _).0 q in
          (further_iff n near few (goal a) v (ends.goals_inside a r g) i (m - t)).0 q' (rw e (from_goal_lem a r g (m - t) t (omega arith))))
          ((or_iff (further t (from_start I a v)) (further (m - t) (from_goal I a v))).0 f)))

  -- a valuation satisfies the pruned formula exactly when it satisfies the base formula
  pub sat_pruned : Endpoints I → Edges I → n ≤ unreachable → (es : List ℤ) → Valuation (variable_count sizes) es
      → Sat (true? es) (pruned I).clauses ↔ Sat (true? es) (clauses I)
  sat_pruned ends graph few es w = (
    (λ q. ((all_append _ (clauses I) (family_h I)).0 q).0),
    (λ q.
        let (x, y) = sat_CD I (true? es) q in
        let c = named_places I es w x y in
        let o = (satisfies_iff I ends graph (named sizes es) (true? es) c).0 q in
        (all_append _ (clauses I) (family_h I)).1 (q, sat_H (named sizes es) o c.inside ends few (true? es) c)),
  )
