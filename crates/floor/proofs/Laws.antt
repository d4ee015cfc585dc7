-- The loop over the agents answers 30 and the floor, and so the call does.
use mathlib.Core.Path.{◌≡◌, refl, sym, ◌∙◌, ap, ap₂}
use mathlib.Core.List.{List, [], ◌∷◌}
use Prim.Native.Nat.{ℕ, ◌+◌, ◌*◌, ◌≤◌, ◌<◌, max}
use native.Mathlib.Numerals.{add-one}
use native.Mathlib.Omega.{arith}
use lib.ListN.{get_or}
use lib.Dec.{T, eqb}
use Rattle.lists.specs.Loop.{unless, greatest}
use Rattle.lists.proofs.Tests.{not_iff, eqb_iff, below_suc, below_zero}
use Rattle.lists.proofs.Loops.{for_ext}
use Rattle.lists.proofs.Sums.{greatest_ext}
use Rattle.std.specs.Prelude.{None, Some}
use Rattle.answers.specs.declared.Refusal.{Refusal}
use Rattle.answers.specs.Returned.{refused}
use Rattle.answers.specs.Answers.{Question, ask_each, refuse, accept, decide}
use Rattle.answers.proofs.Laws.{decide_pass, decide_stop, decide_count}
use Rattle.instance.specs.declared.problem.Problem.{Problem}
use Rattle.instance.specs.Problem.{checked_of, ProblemOf}
use Rattle.instance.specs.Instance.{Instance, instance}
use Rattle.instance.specs.Questions.{instance_answer, instance_checked}
use Rattle.instance.specs.Accepted.{instance_of}
use Rattle.instance.proofs.Accepted.{shown, k_same, e_same}
use Rattle.instance.proofs.Call.{passed, horizon, call_refused, call_answers}
use Rattle.distances.specs.Distance.{unreachable, reachable, distance, start_to_goal, floor}
use Rattle.distances.proofs.Table.{table_distance}
use Rattle.distances.proofs.Goals.{to_goal_ext}
use Rattle.calls.specs.Calls.{goal_question, floor_answer}
use Rattle.calls.proofs.Floor.{floor_asks}
use Rattle.distances.specs.Table.{TableOf}
use Rattle.floor.specs.Measured.{Reached, measured, between}

-- the agents below a can reach their goals, and this is the greatest of their distances
pub record Measuring (k : ℕ) (d : ℕ → ℕ) (a most : ℕ) : Type 0 where
  pub inside : a ≤ k
  pub reached : (i : ℕ) → i < a → T (reachable (d i))
  pub same : most ≡ greatest a d

pub measuring_none : {k : ℕ} {d : ℕ → ℕ} → Measuring k d 0 0
measuring_none = record { inside = omega arith; reached = below_zero _; same = refl }

module _ {k : ℕ} {d : ℕ → ℕ} {a most : ℕ} (w : Measuring k d a most) where
  pub measuring_next : a < k → (x y : ℕ) → Reached (d a) (Some x) → y ≡ max most x → Measuring k d (a + 1) y
  measuring_next l x y (e, f) q =
      rw (add-one a)
      (record {
        inside = omega arith;
        reached = below_suc _ a w.reached ((not_iff (eqb (d a) unreachable)).1 (λ t. f ((eqb_iff (d a) unreachable).0 t)));
        same = q ∙ ap₂ max w.same e;
      })

  pub measuring_stop : a < k → (place : ℕ) → Reached (d a) None → refuse 30 (place + a) ≡ measured k d place
  unfolding measured
  measuring_stop l place f =
      sym (decide_stop k (λ i. reachable (d i)) (λ i. refuse 30 (place + i)) [] (greatest k d) a l w.reached
      (λ t. (not_iff (eqb (d a) unreachable)).0 t ((eqb_iff (d a) unreachable).1 f)))

  pub measuring_done : k ≤ a → (place : ℕ) → accept most ≡ measured k d place
  unfolding measured
  measuring_done l place =
      let e : a ≡ k = omega (arith, w.inside) in
      ap accept (w.same ∙ ap (λ (i : ℕ). greatest i d) e)
      ∙ sym (decide_count [] (greatest k d) tt)
      ∙ sym (decide_pass k (λ i. reachable (d i)) (λ i. refuse 30 (place + i)) [] (greatest k d) (λ i p. w.reached i (omega arith)))

-- ---- distances that agree
measured_ext : (k : ℕ) (d e : ℕ → ℕ) (place : ℕ) → ((a : ℕ) → a < k → d a ≡ e a) → measured k d place ≡ measured k e place
unfolding measured ask_each
measured_ext k d e place h =
    ap₂ (λ (q : Question) (c : ℕ). decide (q ∷ []) c)
    (for_ext k _ _ (λ a l. ap (λ (x : ℕ). unless (reachable x) (refuse 30 (place + a))) (h a l)))
    (greatest_ext k d e h)

module _ (b : List ℕ) where
  abbrev asks : Instance → List Question
  asks I = goal_question b ∷ []

  pub refuses : (e : Refusal) → refused e ≡ instance_answer b 0 1 → refused e ≡ floor_answer b
  refuses e h = call_refused b 0 1 e h asks floor ∙ floor_asks b

  module _ (p : Problem) (ea : accept 0 ≡ instance_answer b 0 1) (ec : checked_of p ≡ instance_checked b 0 1) where
    open p use {shape, starts, goals, near, ready}
    open shape.sizes use {n, k, e}

    known : ProblemOf b p
    known = passed b 0 1 (accept 0) (checked_of p) ea ec refl

    abbrev J : Instance
    J = instance_of b (checked_of p)

    -- the parts are those of the instance, whose horizon is 0
    same : J ≡ instance b 0 1
    same = horizon b 0 1 (accept 0) (checked_of p) ea ec refl

    at : (table : List (List ℕ)) → TableOf n near table → (i : ℕ) → i < k → between starts goals table i ≡ start_to_goal (instance b 0 1) i
    at table t i l =
        let s = shown b (checked_of p) known in
        to_goal_ext (get_or goals i 0) (J.goal i) _ _ (s.goals_at i l) (λ g.
        table_distance J shape.sizes near s.graph table t (get_or starts i 0) (get_or goals i 0) (ready.starts_below i l) (ready.goals_below i l g)
        ∙ ap₂ (distance J) (s.starts_at i l) (s.goals_at i l))
        ∙ ap (λ (I : Instance). start_to_goal I i) same

    pub answers : (table : List (List ℕ)) → TableOf n near table → measured k (between starts goals table) (4 + 2 * e + k) ≡ floor_answer b
    unfolding measured floor instance
    answers table t =
        call_answers b 0 1 (accept 0) (checked_of p) ea ec asks floor refl _
        (measured_ext k _ (start_to_goal (instance b 0 1)) (4 + 2 * e + k) (at table t)
        ∙ ap₂ (λ (i j : ℕ). measured i (start_to_goal (instance b 0 1)) (4 + 2 * j + i)) (k_same b (checked_of p) known) (e_same b (checked_of p) known)
        ∙ ap (λ (I : Instance). decide (asks I) (floor I)) (sym same))
        ∙ floor_asks b
