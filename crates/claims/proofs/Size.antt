-- The size of a formula and its writer, from what each answers beside the questions that are asked first.
use mathlib.Core.Path.{◌≡◌, sym, ◌∙◌, ap, subst}
use mathlib.Core.Logic.{◌≢◌, by_cases, ⊎_elim}
use mathlib.Core.List.{List, [], ◌∷◌, ◌++◌, append-nil}
use mathlib.Core.Bool.{Bool, not}
use Prim.Native.Nat.{ℕ, ◌≤◌, ◌<◌}
use native.Mathlib.Decide.{ℕ_discrete}
use native.Mathlib.Omega.{arith}
use lib.IntN.{ℤ}
use lib.ListN.{length}
use lib.Dec.{T, eqb}
use Rattle.lists.specs.Loop.{all}
use Rattle.lists.proofs.Tests.{and_iff, not_iff, eqb_iff}
use Rattle.lists.proofs.Loops.{all_append}
use Rattle.lists.proofs.Slices.{take_filled, drop_filled}
use Rattle.answers.specs.declared.Answer.{Answer}
use Rattle.answers.specs.declared.Size.{Size}
use Rattle.answers.specs.Answers.{Question, accept, refuse, decide, lent, with_clauses}
use Rattle.answers.proofs.Laws.{numbered, each_all, ask_all, decide_iff, decide_past, lent_accepted, by_number_refused}
use Rattle.instance.specs.Instance.{instance}
use Rattle.instance.specs.Questions.{instance_questions, instance_answer}
use Rattle.instance.proofs.Instance.{numbered_instance}
use Rattle.formula.specs.Formula.{Formula, words}
use Rattle.ceiling.specs.Ceiling.{under_ceiling}
use Rattle.calls.specs.Questions.{question12, question32}
use Rattle.calls.specs.Calls.{write_rest, size_answer, write_answer, write_slice}
use Rattle.calls.specs.Ceiling.{ceiling_questions, ceiling_answer, ceiling_size_answer, ceiling_write_answer, ceiling_write_slice}
use Rattle.calls.proofs.Size.{size_of, stop_12, pass_12, fits_12, size_refused, size_accepted, write_refused, write_passed}
use Rattle.calls.proofs.Ceiling.{numbered_ceiling}
use Rattle.claims.specs.Size.{SizeCall, Writer, Claim}

-- no question that is asked first has the number 12
abbrev other : Answer → Bool
other r = not (eqb r.number 12)

each_other : (b : List ℕ) (m rule : ℕ) → T (all (all other) (instance_questions b m rule))
unfolding instance_questions
each_other b m rule =
    simp (and_iff, each_all, ask_all)
    ((λ f. tt), ((λ f. tt), ((λ f. tt), ((λ f. tt), ((λ f. tt), ((λ j l f. tt), ((λ j l f. tt), ((λ a l f. tt), ((λ a l f. tt), ((λ f. tt), ((λ f. tt), tt)))))))))))

ceiling_other : (b : List ℕ) (m rule c : ℕ) → T (all (all other) (ceiling_questions b m rule c))
unfolding ceiling_questions
ceiling_other b m rule c =
    (all_append (all other) (instance_questions b m rule) (question32 c ∷ [])).1 (each_other b m rule, simp (and_iff, ask_all) ((λ f. tt), tt))

module _ (qs : List Question) (ok : T (all numbered qs)) (h : T (all (all other) qs)) (F : Formula) where
  abbrev first : Answer
  first = decide qs 0

  abbrev size : Size
  size = size_of qs ok F

  abbrev write : ℕ → Answer
  write room = decide (qs ++ write_rest F room) 0

  abbrev slice : List ℤ → List ℤ
  slice s = lent (write (length s)) (words F) s

  not_12 : first.number ≢ 12
  not_12 e =
      ⊎_elim
      (λ t. let z = (decide_iff qs 0 ok).1 t in omega arith)
      (λ t. (not_iff (eqb first.number 12)).0 (subst (λ (rs : List Question). T (other (decide rs 0))) (append-nil qs) t) ((eqb_iff first.number 12).1 e))
      (decide_past other qs [] 0 h)

  -- the number is theirs
  same_number_lem : size.number ≡ first.number
  unfolding with_clauses
  same_number_lem =
      by_cases (ℕ_discrete first.number 0)
      (λ e. ap (λ (x : Size). x.number) (sym (size_accepted qs ok F e)) ∙ sym e)
      (λ d. ap (λ (x : Size). x.number) (sym (size_refused qs ok F d)))

  size_call : SizeCall F first size
  unfolding with_clauses
  size_call =
      let no : size.number ≢ 0 → first.number ≢ 0 = λ d e. d (same_number_lem ∙ e) in
      let yes : size.number ≡ 0 → first.number ≡ 0 = λ e. sym same_number_lem ∙ e in
      record {
        accepts = (yes, (λ e. same_number_lem ∙ e));
        refusal = λ d. sym (ap (λ (x : Size). refuse x.number x.second) (size_refused qs ok F (no d)));
        no_clauses = λ d. sym (ap (λ (x : Size). x.clauses) (size_refused qs ok F (no d))) ∙ by_number_refused _ 0 0 (no d);
        never12 = λ e. not_12 (sym same_number_lem ∙ e);
        words_counted = λ e. sym (ap (λ (x : Size). x.second) (size_accepted qs ok F (yes e)));
        clauses_counted = λ e. sym (ap (λ (x : Size). x.clauses) (size_accepted qs ok F (yes e)));
      }

  -- the writer, where the size call accepts: it asks 12
  module _ (e : size.number ≡ 0) (room : ℕ) where
    asks_12 : decide (question12 size.second room ∷ []) 0 ≡ write room
    asks_12 = rw (size_call.words_counted e) (write_passed qs ok F room (size_call.accepts.0 e))

    short : room < size.second → write room ≡ refuse 12 size.second
    short l = sym (stop_12 size.second room l ∙ asks_12)

    enough : size.second ≤ room → write room ≡ accept 0
    enough l = sym (pass_12 size.second room l ∙ asks_12)

  refused_alike : size.number ≢ 0 → (room : ℕ) → write room ≡ refuse size.number size.second
  refused_alike d room = sym (write_refused qs ok F room (λ e. d (size_call.accepts.1 e))) ∙ sym (size_call.refusal d)

  accepted_by : (room : ℕ) → (write room).number ≡ 0 → (size.number ≡ 0) × (size.second ≤ room)
  accepted_by room z =
      by_cases (ℕ_discrete size.number 0)
      (λ e. (e, fits_12 size.second room (write room) (sym (asks_12 e room)) z))
      (λ d. absurd (d (sym (ap (λ (a : Answer). a.number) (refused_alike d room)) ∙ z)))

  writer : Writer F size write slice
  writer =
      record {
        accepts = λ room. (accepted_by room, (λ (e, l). ap (λ (a : Answer). a.number) (enough e room l)));
        accepted = λ room z. let (e, l) = accepted_by room z in enough e room l;
        fills = λ s z.
            rw (size_call.words_counted (accepted_by (length s) z).0) (rw (lent_accepted (write (length s)) (words F) s z) (take_filled (words F) s));
        beyond = λ s z.
            rw (size_call.words_counted (accepted_by (length s) z).0) (rw (lent_accepted (write (length s)) (words F) s z) (drop_filled (words F) s));
        alike = refused_alike;
        too_short = short;
      }

pub size_claim : Claim
unfolding instance_answer size_answer write_answer write_slice ceiling_answer ceiling_size_answer ceiling_write_answer ceiling_write_slice
size_claim =
    record {
      size = λ f b m rule. size_call (instance_questions b m rule) (numbered_instance b m rule) (each_other b m rule) (f (instance b m rule));
      writer = λ f b m rule. writer (instance_questions b m rule) (numbered_instance b m rule) (each_other b m rule) (f (instance b m rule));
      ceiling_size = λ b m rule c. size_call (ceiling_questions b m rule c) (numbered_ceiling b m rule c) (ceiling_other b m rule c) (under_ceiling c (instance b m rule));
      ceiling_writer = λ b m rule c. writer (ceiling_questions b m rule c) (numbered_ceiling b m rule c) (ceiling_other b m rule c) (under_ceiling c (instance b m rule));
    }
