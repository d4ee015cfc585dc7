-- What every call shares: it asks 1 to 10 and 31 by the instance check, which answers a and gives c, and where that accepts, its own
-- questions qs of the instance that c stands for. An acceptance holds the count, and fills a slice that held s with out.
use mathlib.Core.Path.{◌≡◌, refl, sym, ◌∙◌, ap, ap₂, subst}
use mathlib.Core.Logic.{◌≢◌}
use mathlib.Core.List.{List, ◌++◌}
use Prim.Native.Nat.{ℕ}
use Rattle.lists.specs.Slice.{filled}
use Rattle.answers.specs.declared.Answer.{Answer}
use Rattle.answers.specs.Answers.{Question, decide, lent}
use Rattle.answers.specs.declared.Refusal.{Refusal}
use Rattle.answers.specs.Returned.{refused}
use Rattle.answers.proofs.Returned.{refusal_numbered}
use Rattle.answers.proofs.Laws.{lent_accepted, lent_refused}
use Rattle.instance.specs.declared.Checked.{Checked}
use Rattle.instance.specs.Instance.{Instance, instance}
use Rattle.instance.specs.Questions.{instance_questions, instance_answer, instance_checked}
use Rattle.instance.specs.Accepted.{Accepted, instance_of}
use Rattle.instance.proofs.Instance.{first_refused, first_passed}
use Rattle.instance.proofs.Accepted.{accepted, horizon_of, rule_of}

module _ (b : List ℕ) (m rule : ℕ) (a : Answer) (c : Checked) (ea : a ≡ instance_answer b m rule) (ec : c ≡ instance_checked b m rule) where
  -- what the inner functions require
  pub passed : a.number ≡ 0 → Accepted b c
  passed o = accepted b m rule c ec (sym (ap (λ (x : Answer). x.number) ea) ∙ o)

  pub horizon : a.number ≡ 0 → instance_of b c ≡ instance b m rule
  horizon o =
      let e = sym (ap (λ (x : Answer). x.number) ea) ∙ o in
      ap₂ (instance b) (horizon_of b m rule c ec e) (rule_of b m rule c ec e)

  module _ (qs : Instance → List Question) (count : Instance → ℕ) where
    -- the call's answer
    abbrev pub answer : Answer
    answer = decide (instance_questions b m rule ++ qs (instance b m rule)) (count (instance b m rule))

    pub instance_refuses : a.number ≢ 0 → a ≡ answer
    instance_refuses d = first_refused b m rule a ea (qs (instance b m rule)) (count (instance b m rule)) d

    pub call_answers : a.number ≡ 0 → (r : Answer) → r ≡ decide (qs (instance_of b c)) (count (instance_of b c)) → r ≡ answer
    call_answers o r er =
        er ∙ ap (λ (I : Instance). decide (qs I) (count I)) (horizon o) ∙ first_passed b m rule a ea (qs (instance b m rule)) (count (instance b m rule)) o

-- A refusal of the instance check is the call's answer. (An acceptance is `accept 0`, of which the laws above speak too.)
pub call_refused : (b : List ℕ) (m rule : ℕ) (e : Refusal) → refused e ≡ instance_answer b m rule → (qs : Instance → List Question) (count : Instance → ℕ)
    → refused e ≡ decide (instance_questions b m rule ++ qs (instance b m rule)) (count (instance b m rule))
call_refused b m rule e h qs count = instance_refuses b m rule (refused e) (instance_checked b m rule) h refl qs count (refusal_numbered e)

-- the lent slice, where the call's answer is known
module _ {A : Type 0} (whole r : Answer) (e : r ≡ whole) (out s : List A) where
  pub slice_refused : r.number ≢ 0 → s ≡ lent whole out s
  slice_refused d = sym (lent_refused whole out s (subst (λ (x : Answer). x.number ≢ 0) e d))

  pub slice_filled : r.number ≡ 0 → filled out s ≡ lent whole out s
  slice_filled o = sym (lent_accepted whole out s (subst (λ (x : Answer). x.number ≡ 0) e o))
