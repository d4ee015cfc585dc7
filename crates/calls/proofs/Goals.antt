-- 22 comes from the question about row m, and names the lowest agent that has a goal and is not at it.
use mathlib.Core.Path.{◌≡◌, sym, ◌∙◌, ap, subst}
use mathlib.Core.Logic.{⊎_elim}
use mathlib.Core.List.{List, [], ◌∷◌, ◌++◌}
use mathlib.Core.Bool.{Bool, not}
use Prim.Native.Nat.{ℕ, ◌<◌}
use native.Mathlib.Omega.{arith}
use lib.Dec.{T, eqb}
use Rattle.lists.specs.Loop.{for, all}
use Rattle.lists.proofs.Tests.{and_iff, eqb_iff}
use Rattle.lists.proofs.Loops.{for_all}
use Rattle.answers.specs.declared.Answer.{Answer}
use Rattle.answers.specs.Answers.{Question, refuse, decide}
use Rattle.answers.specs.Fault.{FirstFault}
use Rattle.answers.proofs.Laws.{each_all, ask_all, decide_each, decide_behind, decide_count}
use Rattle.instance.specs.Instance.{Instance, instance}
use Rattle.instance.specs.Questions.{instance_questions}
use Rattle.instance.proofs.Instance.{all_instance}
use Rattle.formula.specs.Formula.{formula}
use Rattle.plan.specs.Plan.{plan_row, plan_index, at_goal}
use Rattle.calls.specs.Questions.{question13, question16, question17, question18}
use Rattle.calls.specs.Calls.{step_questions, plan_questions, check_answer, encode_answer}
use Rattle.calls.proofs.Occupied.{all_occupied}

abbrev is22 : Answer → Bool
is22 r = eqb r.number 22

-- the questions before it have other numbers
abbrev Others : List Question → Type 0
Others qs = T (all (all (λ r. not (is22 r))) qs)

behind : (qs rs : List Question) (c : ℕ) → Others qs → (decide (qs ++ rs) c).number ≡ 22 → decide (qs ++ rs) c ≡ decide rs c
behind qs rs c h e = (decide_behind is22 qs rs c h ((eqb_iff _ 22).1 e)).1

module _ (I : Instance) (p : List ℕ) where
  open I use {sizes, goal}
  open sizes use {k, m}

  -- the lowest agent that fails gives the place
  abbrev pub OffAt : Answer → Type 0
  OffAt answer = (a : ℕ) × (a < k) × FirstFault k (at_goal goal (plan_row sizes p m)) a × (answer.second ≡ plan_index sizes m a)

  front : List Question
  front = question17 I p ∷ question18 I p ∷ for m (step_questions I p)

  others_front : Others front
  unfolding front
  others_front =
      simp (and_iff, for_all, each_all)
      ((λ i l f. tt), ((λ a l f. tt), (λ t l. ((λ a r f. tt), ((λ a r f. all_occupied (λ q. not (eqb q 22)) tt _ _ _ _), ((λ a r f. tt), tt))))))

  off_plan : (c : ℕ) → (decide (plan_questions I p) c).number ≡ 22 → OffAt (decide (plan_questions I p) c)
  unfolding plan_questions front
  off_plan c e =
      let q = behind front _ c others_front e in
      ⊎_elim
      (λ w.
      let z : 22 ≡ 0 = sym e ∙ ap (λ (r : Answer). r.number) (q ∙ w.1 ∙ decide_count [] c tt) in
      absurd (let f : ⊥ = omega arith in f))
      (λ (a, l, f, r). (a, l, f, ap (λ (r : Answer). r.second) (q ∙ r)))
      (decide_each k (at_goal goal (plan_row sizes p m)) (λ a. refuse 22 (plan_index sizes m a)) [] c)

module _ (b : List ℕ) (m rule : ℕ) (p : List ℕ) where
  abbrev J : Instance
  J = instance b m rule

  -- whatever is asked between the instance and the plan
  off_behind : (qs : List Question) (c : ℕ) → Others qs → (decide (instance_questions b m rule ++ (qs ++ plan_questions J p)) c).number ≡ 22
      → OffAt J p (decide (instance_questions b m rule ++ (qs ++ plan_questions J p)) c)
  off_behind qs c h e =
      let q = behind (instance_questions b m rule) (qs ++ plan_questions J p) c (all_instance b m rule (λ q. not (eqb q 22)) tt tt) e in
      let q' = q ∙ behind qs (plan_questions J p) c h (sym (ap (λ (r : Answer). r.number) q) ∙ e) in
      subst (OffAt J p) (sym q') (off_plan J p c (sym (ap (λ (r : Answer). r.number) q') ∙ e))

  pub off_check : (check_answer b m rule p).number ≡ 22 → OffAt J p (check_answer b m rule p)
  unfolding check_answer
  off_check e = off_behind (question13 J p ∷ []) _ (simp (and_iff, ask_all) ((λ f. tt), tt)) e

  pub off_encode : (room : ℕ) → (encode_answer b m rule p room).number ≡ 22 → OffAt J p (encode_answer b m rule p room)
  unfolding encode_answer
  off_encode room e = off_behind (question13 J p ∷ question16 (formula J).variables room ∷ []) _ (simp (and_iff, ask_all) ((λ f. tt), ((λ f. tt), tt))) e
