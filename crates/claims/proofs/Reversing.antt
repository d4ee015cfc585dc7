-- Holding and reversing, from the laws of the bytes, of the rows and of the exchanged instance.
use mathlib.Core.Path.{◌≡◌, refl, sym, ◌∙◌, subst}
use mathlib.Core.Logic.{◌↔◌}
use mathlib.Core.List.{List, [], ◌∷◌}
use Prim.Native.Nat.{ℕ, zero, suc, ◌+◌, ◌-◌, ◌≤◌, ◌<◌}
use native.Mathlib.Nat.{add-zero, add-suc, suc-add}
use native.Mathlib.Omega.{arith}
use lib.Dec.{T}
use Rattle.lists.specs.Loop.{all}
use Rattle.lists.proofs.Tests.{and_iff}
use Rattle.lists.proofs.Loops.{all_append}
use Rattle.answers.specs.Answers.{ask, ask_each, clear, decide}
use Rattle.instance.specs.Instance.{Instance, AllBound, goal_count, instance, adjacent, agents}
use Rattle.instance.specs.Exchanged.{exchanged_instance}
use Rattle.instance.specs.Questions.{bytes_questions, question10, question31, instance_questions, instance_answer}
use Rattle.instance.proofs.Instance.{instance_iff, endpoints, length_known}
use Rattle.instance.proofs.Exchanged.{exchanged_twice, exchanged_bound, exchanged_instance_lem, exchanged_clear}
use Rattle.plan.specs.Plan.{plan_row, condition1, condition2, condition3, rests, rest_time, cost}
use Rattle.plan.specs.Passing.{Passes}
use Rattle.plan.specs.Reversing.{held_plan, reversed_plan}
use Rattle.plan.proofs.Reversing.{held_size, held_at, held_last_lem, held_inside, reversed_at, reversed_twice, reversed_passes, held_leads, held_cost_lem}
use Rattle.calls.specs.Calls.{plan_questions, check_answer}
use Rattle.calls.proofs.Plan.{check_iff, check_counts}
use Rattle.claims.specs.Correspondence.{Accepts}
use Rattle.claims.specs.Rule.{Satisfiable}
use Rattle.claims.specs.Reversing.{Reversing, Worked, Claim, held, reversed}
use Rattle.claims.proofs.Correspondence.{fits, correspondence_at}
use Rattle.claims.proofs.Formula.{plan_steps}

-- ---- holding
module _ (b : List ℕ) (m rule : ℕ) (ok : T (all clear (instance_questions b m rule))) where
  abbrev I : Instance
  I = instance b m rule

  abbrev J : Instance
  J = instance b (suc m) rule

  -- below 32 the next horizon is accepted too
  next_clear : m < 32 → T (all clear (instance_questions b (suc m) rule))
  unfolding instance_questions
  next_clear l =
      let (bytes, beside) = (all_append clear (bytes_questions b) (question10 m ∷ question31 rule ∷ [])).0 ok in
      let behind = ((and_iff (clear (question10 m)) _).0 beside).1 in
      (all_append clear (bytes_questions b) (question10 (suc m) ∷ question31 rule ∷ [])).1
      (bytes, (and_iff (clear (question10 (suc m))) _).1 (fits (suc m) 32 _ l, behind))

  held_passes : (p : List ℕ) → Passes I p → Passes J (held b m rule p)
  unfolding instance
  held_passes p w =
      record {
        size = held_size (agents b) m p w.size;
        inside = held_inside (agents b) m p w.size I.sizes.n w.inside;
        leads =
            held_leads I J (record { agents = refl; rule = refl; edge = λ v x e. e }) (endpoints b m rule ok) (plan_row I.sizes p) (plan_row J.sizes (held b m rule p)) w.leads
            refl (λ a l. refl) (λ a l. refl) (held_at (agents b) m p w.size) (held_last_lem (agents b) m p w.size);
      }

  held_costs : (p : List ℕ) → Passes I p → cost J.sizes (held b m rule p) ≡ cost I.sizes p
  unfolding instance cost
  held_costs p w =
      held_cost_lem (agents b) m (plan_row I.sizes p) (plan_row J.sizes (held b m rule p)) (held_at (agents b) m p w.size) (held_last_lem (agents b) m p w.size)

  holds : m < 32 → (p : List ℕ) → Accepts (check_answer b m rule p) → Accepts (check_answer b (suc m) rule (held b m rule p))
  holds l p e = (check_iff b (suc m) rule (next_clear l) (held b m rule p)).1 (held_passes p ((check_iff b m rule ok p).0 e))

  same_cost_lem : m < 32 → (p : List ℕ) → Accepts (check_answer b m rule p) → (check_answer b (suc m) rule (held b m rule p)).second ≡ (check_answer b m rule p).second
  same_cost_lem l p e =
      (check_counts b (suc m) rule (held b m rule p) (holds l p e)).count ∙ held_costs p ((check_iff b m rule ok p).0 e) ∙ sym (check_counts b m rule p e).count

-- some valuation satisfies the formula exactly when some plan passes
satisfiable_iff : (b : List ℕ) (m rule : ℕ) → T (all clear (instance_questions b m rule)) → Satisfiable b m rule ↔ ((p : List ℕ) × Accepts (check_answer b m rule p))
satisfiable_iff b m rule ok =
    let w = (correspondence_at b m rule ok).satisfiable in (
      (λ s. let (p, q, e) = w.0 s in (p, e)),
      (λ (p, e). w.1 (p, plan_steps b m rule ok p ((check_iff b m rule ok p).0 e), e)),
    )

longer : (b : List ℕ) (m rule : ℕ) → T (all clear (instance_questions b m rule)) → m < 32 → Satisfiable b m rule → Satisfiable b (suc m) rule
longer b m rule ok l s =
    let (p, e) = (satisfiable_iff b m rule ok).0 s in
    (satisfiable_iff b (suc m) rule (next_clear b m rule ok l)).1 (held b m rule p, holds b m rule ok l p e)

-- i steps on
later : (b : List ℕ) (m rule i : ℕ) → T (all clear (instance_questions b m rule)) → m + i ≤ 32 → Satisfiable b m rule → Satisfiable b (m + i) rule
later b m rule zero ok l s = subst (λ (h : ℕ). Satisfiable b h rule) (sym (add-zero m)) s
later b m rule (suc i) ok l s =
    subst (λ (h : ℕ). Satisfiable b h rule) (suc-add m i ∙ sym (add-suc m i)) (later b (suc m) rule i (next_clear b m rule ok (omega arith)) (omega arith) (longer b m rule ok (omega arith) s))

-- ---- reversing
module _ (b : List ℕ) (m rule : ℕ) (ok : T (all clear (instance_questions b m rule))) where
  restores : (p : List ℕ) → Accepts (check_answer b m rule p) → reversed b m rule (reversed b m rule p) ≡ p
  unfolding instance
  restores p e = reversed_twice (agents b) m p ((check_iff b m rule ok p).0 e).size

  module _ (bound : AllBound (instance b m rule)) where
    reverses : (p : List ℕ) → Accepts (check_answer b m rule p) → Accepts (check_answer (exchanged_instance b) m rule (reversed b m rule p))
    unfolding instance
    reverses p e =
        (check_iff (exchanged_instance b) m rule (exchanged_clear b m rule ok bound) (reversed b m rule p)).1
        (reversed_passes (instance b m rule) (instance (exchanged_instance b) m rule) (exchanged_instance_lem b m rule ok bound) (endpoints b m rule ok) bound p
        ((check_iff b m rule ok p).0 e))

    back : Satisfiable b m rule → Satisfiable (exchanged_instance b) m rule
    back s =
        let (p, e) = (satisfiable_iff b m rule ok).0 s in
        (satisfiable_iff (exchanged_instance b) m rule (exchanged_clear b m rule ok bound)).1 (reversed b m rule p, reverses p e)

module _ (b : List ℕ) (m rule : ℕ) (e : Accepts (instance_answer b m rule)) where
  ok : T (all clear (instance_questions b m rule))
  ok = (instance_iff b m rule).0 e

  again : exchanged_instance (exchanged_instance b) ≡ b
  again = exchanged_twice b (length_known b m rule ok)

  -- the exchange of the exchange is the instance
  alike : AllBound (instance b m rule) → Satisfiable b m rule ↔ Satisfiable (exchanged_instance b) m rule
  alike bound = (
    back b m rule ok bound,
    (λ s. subst (λ (c : List ℕ). Satisfiable c m rule) again (back (exchanged_instance b) m rule (exchanged_clear b m rule ok bound) (exchanged_bound b m rule ok) s)),
  )

  reversing_at : Reversing b m rule
  unfolding instance
  reversing_at =
      record {
        held_rows = held_at (agents b) m;
        held_last = held_last_lem (agents b) m;
        holds = holds b m rule ok;
        longer = longer b m rule ok;
        later = λ h l r s.
            let i : m + (h - m) ≡ h = omega arith in
            subst (λ (x : ℕ). Satisfiable b x rule) i (later b m rule (h - m) ok (omega arith) s);
        same_cost = same_cost_lem b m rule ok;
        accepted = λ bound. (instance_iff (exchanged_instance b) m rule).1 (exchanged_clear b m rule ok bound);
        exchange = exchanged_instance_lem b m rule ok;
        bound = exchanged_bound b m rule ok;
        again = again;
        reversed_rows = reversed_at (agents b) m;
        reverses = reverses b m rule ok;
        restores = restores b m rule ok;
        alike = alike;
      }

-- ---- the rows worked out by hand, by computing them
worked : Worked
unfolding ask ask_each decide goal_count instance adjacent exchanged_instance condition1 condition2 condition3 rests rest_time cost instance_questions instance_answer plan_questions check_answer held_plan reversed_plan
worked =
    record {
      held = refl;
      held_cost = (refl, refl);
      held_no_more = λ p. refl;
      exchanged = refl;
      reversed = refl;
      reversed_cost = (refl, refl);
      turned_back = (refl, refl, refl);
      free_refused = (refl, refl);
    }

pub reversing : Claim
reversing = record { plans = reversing_at; worked = worked }
