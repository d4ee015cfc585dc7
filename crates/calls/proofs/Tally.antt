-- The plan check counted in a record: 34 decides, or the plan check's answer does, and is counted.
use mathlib.Core.Path.{◌≡◌, sym, ◌∙◌, ap, subst}
use mathlib.Core.Logic.{◌≢◌, ⊎_elim}
use mathlib.Core.List.{List, [], append-nil}
use mathlib.Core.Bool.{cond}
use Prim.Native.Nat.{ℕ, ◌<◌}
use native.Mathlib.Omega.{arith}
use borrow.Author.Tests.{ne_eqb}
use lib.Dec.{T, ltb, eqb}
use Rattle.lists.specs.Loop.{all}
use Rattle.lists.proofs.Tests.{ltb_iff}
use Rattle.lists.proofs.Loops.{all_append}
use Rattle.answers.specs.declared.Answer.{Answer}
use Rattle.answers.specs.Answers.{Question, refuse, decide}
use Rattle.answers.proofs.Laws.{ask_yes, ask_no, decide_past, decide_count, by_number_accepted, by_number_refused}
use Rattle.instance.specs.Instance.{instance}
use Rattle.instance.specs.Questions.{instance_questions}
use Rattle.instance.proofs.Instance.{all_instance}
use Rattle.plan.specs.Plan.{cost}
use Rattle.tally.specs.declared.Tally.{Tally}
use Rattle.tally.specs.Tally.{takes_more, with_pass, with_refusal, counted}
use Rattle.calls.specs.Calls.{check_questions, check_answer}
use Rattle.calls.specs.Tally.{tally_answer, tally_record}
use Rattle.calls.proofs.Plan.{all_plan}

-- every number that the plan check answers is below 34
pub check_below : (b : List ℕ) (m rule : ℕ) (p : List ℕ) → (check_answer b m rule p).number < 34
unfolding check_answer
check_below b m rule p =
    let qs = check_questions b m rule p in
    let count = cost (instance b m rule).sizes p in
    let below : T (all (all (λ r. ltb r.number 34)) qs) =
    (all_append (all (λ r. ltb r.number 34)) (instance_questions b m rule) _).1 (all_instance b m rule (λ q. ltb q 34) tt tt, all_plan (instance b m rule) p (λ q. ltb q 34) tt tt) in
    ⊎_elim
    (λ yes. let e = ap (λ (a : Answer). a.number) (decide_count qs count yes) in omega (arith, e))
    (λ t. (ltb_iff _ 34).0 (subst (λ (l : List Question). T (ltb (decide l count).number 34)) (append-nil qs) t))
    (decide_past (λ r. ltb r.number 34) qs [] count below)

module _ (b : List ℕ) (m rule : ℕ) (p : List ℕ) (t : Tally) where
  module _ (f : T (takes_more t) → ⊥) where
    pub tally_stops : tally_answer b m rule p t ≡ refuse 34 65535
    unfolding tally_answer
    tally_stops = ask_no (takes_more t) _ _ _ f

    pub record_stays : tally_record b m rule p t ≡ t
    unfolding tally_record
    record_stays = ap (λ (a : Answer). cond (eqb a.number 34) t (counted t a)) tally_stops

  module _ (more : T (takes_more t)) where
    pub tally_asks : tally_answer b m rule p t ≡ check_answer b m rule p
    unfolding tally_answer check_answer
    tally_asks = ask_yes (takes_more t) _ _ _ more

    pub record_counts : tally_record b m rule p t ≡ counted t (check_answer b m rule p)
    unfolding tally_record
    record_counts =
        ap (λ (a : Answer). cond (eqb a.number 34) t (counted t a)) tally_asks
        ∙ ap (λ (x : _). cond x t (counted t (check_answer b m rule p))) (ne_eqb (check_answer b m rule p).number 34 (λ e. omega (arith, e, check_below b m rule p)))

    -- of an answer that is the plan check's
    module _ (a : Answer) (e : a ≡ check_answer b m rule p) where
      counts_same : counted t a ≡ tally_record b m rule p t
      counts_same = ap (counted t) e ∙ sym record_counts

      pub record_pass : a.number ≡ 0 → with_pass t a.second ≡ tally_record b m rule p t
      unfolding counted
      record_pass z = sym (by_number_accepted a.number (with_pass t a.second) _ z) ∙ counts_same

      pub record_refusal : a.number ≢ 0 → with_refusal t a.number ≡ tally_record b m rule p t
      unfolding counted
      record_refusal d = sym (by_number_refused a.number _ (with_refusal t a.number) d) ∙ counts_same
