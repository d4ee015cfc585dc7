-- The plan check's questions are answered yes exactly for the plans that pass, its count is then the cost, and they answer a number of
-- question 20 exactly where it is its turn and an agent fails condition 2.
use mathlib.Core.Path.{◌≡◌, refl, sym, ◌∙◌, ap, subst}
use mathlib.Core.Logic.Iff
use mathlib.Core.Logic.{◌↔◌, ◌≢◌, ⊎_elim}
use mathlib.Core.List.{List, [], ◌∷◌, ◌++◌}
use mathlib.Core.Bool.{Bool}
use Prim.Native.Nat.{ℕ, suc, ◌*◌, ◌≤◌, ◌<◌}
use native.Mathlib.Omega.{arith}
use lib.Dec.{T, ltb}
use Rattle.lists.specs.Loop.{for, all}
use Rattle.lists.proofs.Tests.{and_iff, or_imp, not_iff, eqb_iff, ltb_iff, every_iff}
use Rattle.lists.proofs.Loops.{all_append, for_all}
use Rattle.answers.specs.declared.Answer.{Answer}
use Rattle.answers.specs.Answers.{Question, decide, clear}
use Rattle.answers.proofs.Laws.{numbered, clear_iff, each_all, each_nil, decide_iff, decide_count, decide_after, decide_refused, decide_lists, step_stop, ask_nil, ask_all}
use Rattle.instance.specs.Instance.{Instance, instance, adjacent}
use Rattle.formula.proofs.Limits.{agent_steps}
use Rattle.plan.specs.Plan.{Row, condition1, condition2, condition3, plan_row, cost}
use Rattle.plan.specs.Passing.{ValidStep, Passes}
use Rattle.plan.proofs.Rest.{cost_most}
use Rattle.plan.proofs.Steps.{apart_any, crosses_iff, second_iff}
use Rattle.calls.specs.Questions.{question13, question17, question18, question22}
use Rattle.instance.specs.Questions.{instance_questions}
use Rattle.instance.proofs.Instance.{numbered_instance, limits}
use Rattle.calls.specs.Calls.{step_questions, plan_questions, check_questions, check_answer}
use Rattle.calls.proofs.Occupied.{occupied?, Occupied, past, all_occupied, InStep, in_step}

module _ (I : Instance) (p : List ℕ) where
  open I use {sizes}
  open sizes use {k, m}

  abbrev P : ℕ → Row
  P = plan_row sizes p

  pub numbered_step : (t : ℕ) → T (all numbered (step_questions I p t))
  numbered_step t =
      simp (and_iff, each_all)
      ((λ a l f. tt), ((λ a l f. all_occupied (ltb 0) tt _ _ _ _), ((λ a l f. tt), tt)))

  -- a test that holds of the numbers of these questions holds of each of their refusals
  pub all_plan : (test : ℕ → Bool) → T (all test (13 ∷ 17 ∷ 18 ∷ 19 ∷ 21 ∷ 22 ∷ [])) → T (all test (20 ∷ 25 ∷ 26 ∷ []))
      → T (all (all (λ r. test r.number)) (question13 I p ∷ plan_questions I p))
  unfolding plan_questions
  all_plan test h k =
      let w = simp and_iff at h in
      simp (and_iff, all_append (all (λ r. test r.number)) (for m (step_questions I p)), for_all, each_all, ask_all) (
        (λ f. w.0),
        (
          (λ i l f. w.1.0),
          (
            (λ a l f. w.1.1.0),
            (
              (λ t l. ((λ a r f. w.1.1.1.0), ((λ a r f. all_occupied test k _ _ _ _), ((λ a r f. w.1.1.1.1.0), tt)))),
              ((λ a l f. w.1.1.1.1.1.0), tt),
            ),
          ),
        ),
      )

  pub numbered_plan : T (all numbered (question13 I p ∷ plan_questions I p))
  numbered_plan = all_plan (ltb 0) tt tt

  -- what the tests of step t say
  abbrev StepTests : ℕ → Type 0
  StepTests t =
      ((a : ℕ) → a < k → P t a ≢ P (suc t) a → T (adjacent I (P t a) (P (suc t) a)))
      × (((a : ℕ) → a < k → T (condition2 sizes (P t) (P (suc t)) a))
      × (((a : ℕ) → a < k → (b : ℕ) → b < a → P (suc t) b ≢ P (suc t) a) × Unit {0}))

  tests_iff : (t : ℕ) → StepTests t ↔ ValidStep I (P t) (P (suc t))
  tests_iff t = (
    (λ h. record {
      crosses = λ a r. (crosses_iff I (P t a) (P (suc t) a)).0 (h.0 a r);
      second = (second_iff I (P t) (P (suc t))).0 h.1.0;
      apart = apart_any k (P (suc t)) (λ a b o r. h.1.1.0 b r a o);
    }),
    (λ h. (
      (λ a r. (crosses_iff I (P t a) (P (suc t) a)).1 (h.crosses a r)),
      ((second_iff I (P t) (P (suc t))).1 h.second, ((λ a r b q. h.apart b a (omega arith) r (omega arith)), tt)),
    )),
  )

  pub clear_step : (t : ℕ) → T (all clear (step_questions I p t)) ↔ ValidStep I (P t) (P (suc t))
  unfolding condition1 condition3
  clear_step t = simp (and_iff, clear_iff, each_nil, or_imp, not_iff, eqb_iff, every_iff) (tests_iff t)

  pub clear_plan : T (all clear (question13 I p ∷ plan_questions I p)) ↔ Passes I p
  unfolding plan_questions condition1 condition3
  clear_plan =
      simp (and_iff, all_append clear (for m (step_questions I p)), for_all, clear_iff, each_nil, ask_nil, or_imp, not_iff, eqb_iff, ltb_iff, every_iff) (
        (λ h. record {
          size = h.0;
          inside = h.1.0;
          leads = record {
            starts = h.1.1.0;
            steps = λ t l. (tests_iff t).0 (h.1.1.1.0 t l);
            goals = h.1.1.1.1.0;
          };
        }),
        (λ h.
            let o = h.leads in (
              h.size,
              (h.inside, (o.starts, ((λ t l. (tests_iff t).1 (o.steps t l)), (o.goals, tt)))),
            )),
      )

  abbrev pub early : List Question
  early = question17 I p ∷ question18 I p ∷ []

  abbrev steps : List Question
  steps = for m (step_questions I p)

  abbrev goals : List Question
  goals = question22 I p ∷ []

  -- a number of question 20 comes from the first step that is not valid
  pub record OccupiedAt (answer : Answer) : Type 0 where
    pub t : ℕ
    pub step : t < m
    pub first : T (all clear early)
    pub before : (u : ℕ) → u < t → ValidStep I (P u) (P (suc u))
    pub here : InStep I p t answer

  pub occupied_at : (c : ℕ) → Occupied (decide (plan_questions I p) c) → OccupiedAt (decide (plan_questions I p) c)
  unfolding plan_questions
  occupied_at c o =
      let begun = past early (steps ++ goals) c (simp (and_iff, each_all) ((λ i l f. tt), ((λ a l f. tt), tt))) o in
      let o' = subst Occupied begun.1 o in
      ⊎_elim
      (λ yes.
      let e = decide_after steps goals c yes in
      let last = past goals [] c (simp (and_iff, each_all) ((λ a l f. tt), tt)) (subst Occupied e o') in
      absurd (subst Occupied (e ∙ last.1 ∙ decide_count [] c tt) o'))
      (λ w.
      record {
        t = w.0;
        step = w.1;
        first = begun.0;
        before = λ u l. (clear_step u).0 ((for_all clear w.0 (step_questions I p)).0 w.2 u l);
        here = subst (InStep I p w.0) (sym (begun.1 ∙ w.3)) (in_step I p w.0 (subst Occupied w.3 o'));
      })
      (decide_lists (step_questions I p) numbered_step m goals c)

  -- and one of them is given wherever it is its turn and an agent fails condition 2
  pub occupied_given : (c : ℕ) → T (all clear early) → (t : ℕ) → t < m → ((u : ℕ) → u < t → ValidStep I (P u) (P (suc u)))
      → Occupied (decide (step_questions I p t) 0) → Occupied (decide (plan_questions I p) c)
  unfolding plan_questions
  occupied_given c first t l before o =
      let yes : T (all clear (for t (step_questions I p))) = (for_all clear t (step_questions I p)).1 (λ u h. (clear_step u).1 (before u h)) in
      let refused : (decide (step_questions I p t) 0).number ≢ 0 = λ e. subst (λ (x : ℕ). T (occupied? x)) e o in
      let e : decide (step_questions I p t) 0 ≡ decide steps 0 = step_stop (step_questions I p) t (decide (step_questions I p t) 0) refl yes m l refused in
      let e' : decide (steps ++ goals) c ≡ decide steps 0 =
      decide_refused steps goals 0 c (λ z. refused (ap (λ (a : Answer). a.number) e ∙ z)) in
      subst Occupied (e ∙ sym (decide_after early (steps ++ goals) c first ∙ e')) o

-- of a plan that the check accepts the count is the cost, which is at most m·k and at most 512
pub record CountsCost (b : List ℕ) (m rule : ℕ) (p : List ℕ) : Type 0 where
  pub count : (check_answer b m rule p).second ≡ cost (instance b m rule).sizes p
  pub most : (check_answer b m rule p).second ≤ m * (instance b m rule).sizes.k
  pub most512 : (check_answer b m rule p).second ≤ 512

pub check_counts : (b : List ℕ) (m rule : ℕ) (p : List ℕ) → (check_answer b m rule p).number ≡ 0 → CountsCost b m rule p
unfolding check_answer instance
check_counts b m rule p e =
    let s = (instance b m rule).sizes in
    let qs = check_questions b m rule p in
    let known : T (all numbered qs) = (all_append numbered (instance_questions b m rule) _).1 (numbered_instance b m rule, numbered_plan (instance b m rule) p) in
    let yes : T (all clear qs) = (decide_iff qs _ known).0 e in
    let ok = ((all_append clear (instance_questions b m rule) _).0 yes).0 in
    let c : (check_answer b m rule p).second ≡ cost s p = ap (λ (a : Answer). a.second) (decide_count qs _ yes) in
    record {
      count = c;
      most = rw c (cost_most s p);
      most512 = rw c (omega (arith, cost_most s p, agent_steps s (limits b m rule ok)));
    }

-- the plan check passes a plan exactly when it leads from the starts to the goals and every step obeys the three conditions
pub check_iff : (b : List ℕ) (m rule : ℕ) → T (all clear (instance_questions b m rule)) → (p : List ℕ)
    → ((check_answer b m rule p).number ≡ 0) ↔ Passes (instance b m rule) p
unfolding check_answer
check_iff b m rule ok p =
    rw (decide_after (instance_questions b m rule) _ _ ok)
    (Iff.trans (decide_iff (question13 (instance b m rule) p ∷ plan_questions (instance b m rule) p) _ (numbered_plan (instance b m rule) p)) (clear_plan (instance b m rule) p))
