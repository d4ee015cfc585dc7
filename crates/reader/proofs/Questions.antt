-- Questions 27 to 29 one after another, and the reader's after 1 to 10 and 31.
use mathlib.Core.Path.{◌≡◌, sym, ◌∙◌, ap, subst}
use mathlib.Core.List.{List, [], ◌∷◌}
use mathlib.Core.Bool.{true, false}
use Prim.Native.Nat.{ℕ, suc, ◌+◌, ◌≤◌, ◌<◌}
use native.Mathlib.Numerals.{add-one}
use native.Mathlib.Omega.{arith}
use lib.Dec.{T, leb, eqb}
use lib.ListN.{length, get_or, replicate}
use Rattle.std.specs.Prelude.{None, Some, Ok, Err}
use Rattle.lists.specs.Loop.{any, all}
use Rattle.lists.proofs.Tests.{leb_iff, and_iff}
use Rattle.answers.specs.declared.Answer.{Answer}
use Rattle.answers.specs.declared.Refusal.{Refusal}
use Rattle.answers.specs.Answers.{Question, ask, refuse, accept, decide}
use Rattle.answers.specs.Returned.{refused}
use Rattle.answers.specs.Fault.{FirstFault, FirstFailing}
use Rattle.answers.proofs.Laws.{numbered, decide_iff, ask_yes, ask_no, ask_all, each_all, decide_after, fault_pass, fault_stop}
use Rattle.answers.proofs.Returned.{refused_after}
use Rattle.solver_text.specs.declared.Said.{Said}
use Rattle.solver_text.specs.Text.{lines}
use Rattle.solver_text.specs.Form.{text_most, status?, satisfiable?, complete?, status_place, given, times}
use Rattle.solver_text.specs.Walk.{nothing, satisfied?, place_or, wrong_lines, whole?}
use Rattle.solver_text.proofs.Walk.{whole_is, satisfied_is, place_is, lines_asked}
use Rattle.solver_lines.specs.declared.Mark.{Mark}
use Rattle.solver_lines.specs.declared.Mark.TheVariants.{Absent}
use Rattle.solver_lines.specs.Lines.{marked, IsLines}
use Rattle.calls.specs.Questions.{question28, question29}
use Rattle.calls.specs.Calls.{text_questions, read_rest}
use Rattle.reader.specs.Marks.{once?, Says, form_questions}
use Rattle.reader.proofs.Marks.{fault_given, written_is}

module _ (N : ℕ) (text : List ℕ) where
  -- the questions from each on
  abbrev q28 : List Question
  q28 = question28 N text ∷ []

  abbrev missing : List Question
  missing = ask (complete? (lines text)) (refuse 27 (length text)) ∷ q28

  pub form_long : text_most < length text → refuse 27 text_most ≡ decide (form_questions N text) 0
  unfolding form_questions
  form_long h =
      sym (ask_no (leb (length text) text_most) (refuse 27 text_most) _ 0 (λ t. let k = (leb_iff (length text) text_most).0 t in let f : ⊥ = omega arith in f))

  module _ (h : length text ≤ text_most) where
    first : decide (form_questions N text) 0 ≡ decide (wrong_lines N 0 nothing (lines text) ∷ missing) 0
    unfolding form_questions
    first =
        ask_yes (leb (length text) text_most) (refuse 27 text_most) _ 0 ((leb_iff (length text) text_most).1 h)
        ∙ ap (λ (q : Question). decide (q ∷ missing) 0) (lines_asked N text)

    pub form_wrong : (place : ℕ) → IsLines N (lines text) 0 nothing (Err place) → refuse 27 place ≡ decide (form_questions N text) 0
    form_wrong place i = sym (first ∙ i missing 0)

    module _ (said : Said) (i : IsLines N (lines text) 0 nothing (Ok said)) where
      second : decide (form_questions N text) 0 ≡ decide missing 0
      unfolding decide
      second = first ∙ ap (λ (q : Question). decide (q ∷ missing) 0) i.0

      complete_is : whole? said ≡ complete? (lines text)
      complete_is = ap whole? i.1 ∙ whole_is text

      pub form_missing : whole? said ≡ false → refuse 27 (length text) ≡ decide (form_questions N text) 0
      form_missing f = sym (second ∙ ask_no (complete? (lines text)) (refuse 27 (length text)) q28 0 (λ t. subst T (sym complete_is ∙ f) t))

      module _ (f : whole? said ≡ true) where
        done : T (complete? (lines text))
        done = subst T (sym f ∙ complete_is) tt

        third : decide (form_questions N text) 0 ≡ decide q28 0
        third = second ∙ ask_yes (complete? (lines text)) (refuse 27 (length text)) q28 0 done

        one_there : T (any status? (lines text))
        unfolding complete?
        one_there = ((and_iff (any status? (lines text)) _).0 done).0

        yes_is : satisfied? said ≡ any satisfiable? (lines text)
        yes_is = ap satisfied? i.1 ∙ satisfied_is text

        pub form_unsatisfied : satisfied? said ≡ false → refuse 28 (place_or 0 said) ≡ decide (form_questions N text) 0
        form_unsatisfied d =
            ap (refuse 28) (ap (place_or 0) i.1 ∙ place_is text one_there)
            ∙ sym (third ∙ ask_no (any satisfiable? (lines text)) (refuse 28 (status_place text)) [] 0 (λ t. subst T (sym yes_is ∙ d) t))

        pub form_right : satisfied? said ≡ true → accept 0 ≡ decide (form_questions N text) 0
        unfolding decide
        form_right o = sym (third ∙ ask_yes (any satisfiable? (lines text)) (refuse 28 (status_place text)) [] 0 (subst T (sym o ∙ yes_is) tt))

-- ---- 29
module _ (N : ℕ) (text : List ℕ) where
  numbered_form : T (all numbered (form_questions N text))
  unfolding form_questions
  numbered_form = simp (and_iff, each_all, ask_all) ((λ f. tt), ((λ i l f. tt), ((λ f. tt), ((λ f. tt), tt))))

  pub text_form : (e : Refusal) → refused e ≡ decide (form_questions N text) 0 → refused e ≡ decide (text_questions N text) N
  unfolding text_questions form_questions
  text_form e h = refused_after e (form_questions N text) (question29 N text ∷ []) 0 N h

  module _ (ef : accept 0 ≡ decide (form_questions N text) 0) (M : ℕ) (small : N ≤ M) (marks : List Mark) (em : marks ≡ marked (replicate M Absent) (given text)) where
    rest : decide (text_questions N text) N ≡ decide (question29 N text ∷ []) N
    unfolding text_questions form_questions
    rest =
        decide_after (form_questions N text) (question29 N text ∷ []) N
        ((decide_iff (form_questions N text) 0 numbered_form).0 (ap (λ (a : Answer). a.number) (sym ef)))

    pub text_stop : (r : ℕ) → FirstFailing N (λ i. once? (get_or marks i Absent)) (Some r) → refuse 29 (r + 1) ≡ decide (text_questions N text) N
    text_stop r f =
        let (l, fault) = fault_given M (given text) N small marks em (Some r) f in
        ap (refuse 29) (add-one r) ∙ sym (rest ∙ fault_stop fault (λ i. refuse 29 (suc i)) [] N l)

    module _ (f : FirstFailing N (λ i. once? (get_or marks i Absent)) None) where
      fault : FirstFault N (λ i. eqb (times (suc i) (given text)) 1) N
      fault = fault_given M (given text) N small marks em None f

      pub text_pass : accept N ≡ decide (text_questions N text) N
      unfolding decide
      text_pass = sym (rest ∙ fault_pass fault (λ i. refuse 29 (suc i)) [] N (omega arith))

      pub text_says : Says N (given text) marks
      text_says = written_is M (given text) N small marks em (λ i h. fault.before i (omega arith))

-- ---- 16
module _ (N : ℕ) (text : List ℕ) (size : ℕ) where
  pub stop_16 : size < N → refuse 16 N ≡ decide (read_rest N text size) N
  stop_16 l = sym (ask_no (leb N size) (refuse 16 N) _ N (λ t. let h = (leb_iff N size).0 t in let f : ⊥ = omega arith in f))

  pub pass_16 : N ≤ size → decide (text_questions N text) N ≡ decide (read_rest N text size) N
  pass_16 l = sym (ask_yes (leb N size) (refuse 16 N) (text_questions N text) N ((leb_iff N size).1 l))
