-- What every call with a ceiling shares: it asks 1 to 10, 31 and 32 by the check of the instance and the ceiling, which answers a and gives
-- k, and where that accepts, its own questions qs of the instance that k stands for.
use mathlib.Core.Path.{◌≡◌, sym, ◌∙◌, ap}
use mathlib.Core.Logic.Iff
use mathlib.Core.Logic.{◌↔◌, ◌≢◌}
use mathlib.Core.List.{List, [], ◌∷◌, ◌++◌}
use Prim.Native.Nat.{ℕ, ◌≤◌, ◌<◌}
use native.Mathlib.Omega.{arith}
use lib.Dec.{T, leb}
use Rattle.lists.specs.Loop.{all}
use Rattle.lists.proofs.Tests.{and_iff, leb_iff}
use Rattle.lists.proofs.Loops.{all_append}
use Rattle.answers.specs.declared.Answer.{Answer}
use Rattle.answers.specs.Answers.{Question, refuse, decide, clear}
use Rattle.answers.proofs.Laws.{numbered, clear_iff, decide_iff, decide_after, decide_refused, decide_count, ask_yes, ask_no, ask_nil, ask_all, asked_all}
use Rattle.instance.specs.declared.Checked.{Checked}
use Rattle.instance.specs.Instance.{Instance, instance}
use Rattle.instance.specs.Questions.{instance_questions, instance_answer, instance_checked}
use Rattle.instance.specs.Accepted.{Accepted, instance_of}
use Rattle.instance.proofs.Instance.{numbered_instance, instance_iff, first_refused, first_passed}
use Rattle.instance.proofs.Accepted.{accepted, horizon_of, rule_of}
use Rattle.calls.specs.Questions.{question32}
use Rattle.calls.specs.Ceiling.{ceiling_questions, ceiling_answer}

module _ (b : List ℕ) (m rule c : ℕ) where
  pub numbered_ceiling : T (all numbered (ceiling_questions b m rule c))
  unfolding ceiling_questions
  numbered_ceiling =
      (all_append numbered (instance_questions b m rule) (question32 c ∷ [])).1 (numbered_instance b m rule, simp (and_iff, ask_all) ((λ f. tt), tt))

  -- they are answered yes exactly for an accepted instance, horizon and rule, and a ceiling of at most 128
  pub clear_ceiling : T (all clear (ceiling_questions b m rule c)) ↔ (T (all clear (instance_questions b m rule)) × (c ≤ 128))
  unfolding ceiling_questions
  clear_ceiling =
      Iff.trans (all_append clear (instance_questions b m rule) (question32 c ∷ []))
      (simp (and_iff, clear_iff, ask_nil, leb_iff) ((λ h. (h.0, h.1.0)), (λ h. (h.0, (h.1, tt)))))

  pub ceiling_iff : ((ceiling_answer b m rule c).number ≡ 0) ↔ (((instance_answer b m rule).number ≡ 0) × (c ≤ 128))
  unfolding ceiling_answer
  ceiling_iff =
      Iff.trans (decide_iff (ceiling_questions b m rule c) 0 numbered_ceiling)
      (Iff.trans clear_ceiling ((λ (t, l). ((instance_iff b m rule).1 t, l)), (λ (e, l). ((instance_iff b m rule).0 e, l))))

  -- the check itself: the instance check refuses, the ceiling is too high, or neither
  module _ (a : Answer) (ea : a ≡ instance_answer b m rule) where
    pub check_refuses : a.number ≢ 0 → a ≡ ceiling_answer b m rule c
    unfolding ceiling_answer ceiling_questions
    check_refuses d = first_refused b m rule a ea (question32 c ∷ []) 0 d

    module _ (o : a.number ≡ 0) where
      pub check_high : 128 < c → refuse 32 0 ≡ ceiling_answer b m rule c
      unfolding ceiling_answer ceiling_questions
      check_high l =
          sym (ask_no (leb c 128) (refuse 32 0) [] 0 (λ t. let h = (leb_iff c 128).0 t in let f : ⊥ = omega arith in f))
          ∙ first_passed b m rule a ea (question32 c ∷ []) 0 o

      pub check_passes : c ≤ 128 → a ≡ ceiling_answer b m rule c
      unfolding ceiling_answer ceiling_questions instance_answer
      check_passes l =
          ea
          ∙ decide_count (instance_questions b m rule) 0 ((instance_iff b m rule).0 (sym (ap (λ (x : Answer). x.number) ea) ∙ o))
          ∙ asked_all
          ∙ sym (ask_yes (leb c 128) (refuse 32 0) [] 0 ((leb_iff c 128).1 l))
          ∙ first_passed b m rule a ea (question32 c ∷ []) 0 o

  module _ (a : Answer) (k : Checked) (ea : a ≡ ceiling_answer b m rule c) (ek : k ≡ instance_checked b m rule) where
    both : a.number ≡ 0 → ((instance_answer b m rule).number ≡ 0) × (c ≤ 128)
    both o = ceiling_iff.0 (sym (ap (λ (x : Answer). x.number) ea) ∙ o)

    pub passed : a.number ≡ 0 → Accepted b k
    passed o = accepted b m rule k ek (both o).0

    pub low : a.number ≡ 0 → c ≤ 128
    low o = (both o).1

    pub horizon : a.number ≡ 0 → instance_of b k ≡ instance b m rule
    horizon o = ap (λ (x : ℕ). instance b x k.sizes.rule) (horizon_of b m rule k ek (both o).0) ∙ ap (instance b m) (rule_of b m rule k ek (both o).0)

    module _ (qs : Instance → List Question) (count : Instance → ℕ) where
      -- the call's answer
      abbrev pub answer : Answer
      answer = decide (ceiling_questions b m rule c ++ qs (instance b m rule)) (count (instance b m rule))

      pub ceiling_refuses : a.number ≢ 0 → a ≡ answer
      unfolding ceiling_answer
      ceiling_refuses d =
          ea ∙ sym (decide_refused (ceiling_questions b m rule c) (qs (instance b m rule)) 0 (count (instance b m rule)) (λ e. d (ap (λ (x : Answer). x.number) ea ∙ e)))

      pub call_answers : a.number ≡ 0 → (r : Answer) → r ≡ decide (qs (instance_of b k)) (count (instance_of b k)) → r ≡ answer
      unfolding ceiling_answer
      call_answers o r er =
          er
          ∙ ap (λ (I : Instance). decide (qs I) (count I)) (horizon o)
          ∙ sym (decide_after (ceiling_questions b m rule c) (qs (instance b m rule)) (count (instance b m rule))
          ((decide_iff (ceiling_questions b m rule c) 0 numbered_ceiling).0 (sym (ap (λ (x : Answer). x.number) ea) ∙ o)))
