-- Refusals, proved from what `decide` is.
use mathlib.Core.Path.{◌≡◌, refl, sym, ◌∙◌, ap, subst}
use mathlib.Core.Logic.{◌≢◌}
use mathlib.Core.List.{List, [], ◌∷◌, ◌++◌, cons≢nil}
use mathlib.Core.Bool.{Bool, true, false}
use Prim.Native.Nat.{ℕ, zero, suc}
use native.Mathlib.Nat.{le_refl}
use native.Mathlib.Omega.{arith}
use lib.Dec.{T}
use lib.IntN.{ℤ}
use Rattle.lists.specs.Loop.{for, unless, all}
use Rattle.lists.proofs.Tests.{and_iff}
use Rattle.lists.proofs.Loops.{all_append, unless_nil, for_nil}
use Rattle.answers.specs.declared.Answer.{Answer}
use Rattle.answers.specs.Answers.{Question, ask, ask_each, decide, with_clauses}
use Rattle.answers.proofs.Laws.{numbered, ask_all, decide_iff, lent_refused, numbered_second}
use Rattle.instance.specs.Instance.{Instance, instance}
use Rattle.instance.specs.Questions.{question10, question31, bytes_questions, instance_questions, instance_answer}
use Rattle.instance.proofs.Instance.{numbered_instance}
use Rattle.formula.specs.Formula.{Formula, formula}
use Rattle.ceiling.specs.Ceiling.{under_ceiling}
use Rattle.calls.specs.Questions.{question13, question14, question15, question16, question23, question24, question32, question33, question34}
use Rattle.calls.specs.Calls.{step_questions, plan_questions, size_questions, size_answer, write_questions, write_answer, write_slice, clause_questions, clause_answer, clause_slice, check_questions, check_answer, decode_questions, decode_answer, decode_slice, encode_questions, encode_answer, encode_rest, encode_slice, text_questions, read_questions, read_answer, read_slice, goal_question, floor_questions, floor_answer}
use Rattle.calls.specs.Ceiling.{ceiling_questions, ceiling_size_answer, ceiling_write_questions, ceiling_write_answer, ceiling_write_slice, ceiling_decode_questions, ceiling_decode_answer, ceiling_decode_slice, ceiling_encode_questions, ceiling_encode_answer, ceiling_encode_slice, ceiling_read_questions, ceiling_read_answer, ceiling_read_slice}
use Rattle.calls.specs.Tally.{tally_questions, tally_answer}
use Rattle.calls.proofs.Plan.{numbered_plan}
use Rattle.calls.proofs.Ceiling.{numbered_ceiling}
use Rattle.calls.proofs.Valuation.{numbered_valuation}
use Rattle.calls.proofs.Text.{numbered_text}
use Rattle.calls.proofs.Floor.{numbered_floor}
use Rattle.claims.specs.Refusals.{FirstItem, FirstNo, Honest, Claim}

-- ---- the shape of a question
record Asked (q : Question) : Type 0 where
  items : ℕ
  test : ℕ → Bool
  refusal : ℕ → Answer
  same : q ≡ ask_each items test refusal

one : (test : Bool) (refusal : Answer) → Asked (ask test refusal)
unfolding ask ask_each
one test refusal = record { items = 1; test = λ i. test; refusal = λ i. refusal; same = refl }

many : (n : ℕ) (test : ℕ → Bool) (refusal : ℕ → Answer) → Asked (ask_each n test refusal)
many n test refusal = record { items = n; test = test; refusal = refusal; same = refl }

-- every question of a list has it
abbrev EachAsked : List Question → Type 0
EachAsked [] = Unit {0}
EachAsked (q ∷ qs) = Asked q × EachAsked qs

asked_append : (qs rs : List Question) → EachAsked qs → EachAsked rs → EachAsked (qs ++ rs)
asked_append [] rs h k = k
asked_append (q ∷ qs) rs h k = (h.0, asked_append qs rs h.1 k)

asked_for : (n : ℕ) (f : ℕ → List Question) → ((i : ℕ) → EachAsked (f i)) → EachAsked (for n f)
asked_for zero f h = tt
asked_for (suc n) f h = asked_append (for n f) (f n) (asked_for n f h) (h n)

-- ---- the first failing item
first_item : (n : ℕ) (test : ℕ → Bool) (refusal : ℕ → Answer) (answer : Answer) (later : List Answer)
    → ask_each n test refusal ≡ answer ∷ later → FirstItem n test refusal answer
unfolding ask_each
first_item zero test refusal answer later e = absurd (cons≢nil (sym e))
first_item (suc n) test refusal answer later e = go (first_item n test refusal answer) (ask_each n test refusal) refl e
  where
    grown : FirstItem n test refusal answer → FirstItem (suc n) test refusal answer
    grown f = record { item = f.item; inside = let l = f.inside in omega arith; passed = f.passed; fails = f.fails; given = f.given }

    last : (b : Bool) → test n ≡ b → ask_each n test refusal ≡ [] → unless b (refusal n) ≡ answer ∷ later → FirstItem (suc n) test refusal answer
    last true t h q = absurd (cons≢nil (sym q))
    last false t h q =
        record {
          item = n;
          inside = le_refl (suc n);
          passed = λ i l. (unless_nil (test i) (refusal i)).0 ((for_nil n _).0 h i l);
          fails = λ x. subst T t x;
          given = cc;
        }

    go : ((rest : List Answer) → ask_each n test refusal ≡ answer ∷ rest → FirstItem n test refusal answer)
        → (l : List Answer) → ask_each n test refusal ≡ l → l ++ unless (test n) (refusal n) ≡ answer ∷ later → FirstItem (suc n) test refusal answer
    go rec [] h q = last (test n) refl h q
    go rec (x ∷ xs) h q = let same : x ≡ answer = cc in grown (rec xs (h ∙ ap (λ y. y ∷ xs) same))

-- ---- the first no
-- a question before the others, answered yes
behind : (qs : List Question) (answer : Answer) → FirstNo qs answer → FirstNo ([] ∷ qs) answer
behind qs answer f =
    record {
      before = [] ∷ f.before;
      question = f.question;
      after = f.after;
      asked = ap (λ l. [] ∷ l) f.asked;
      yes = f.yes;
      shape = f.shape;
      first = f.first;
    }

first_no : (qs : List Question) (c : ℕ) → EachAsked qs → (decide qs c).number ≢ 0 → FirstNo qs (decide qs c)
unfolding decide
first_no [] c h d = absurd (d refl)
first_no ([] ∷ qs) c h d = behind qs _ (first_no qs c h.1 d)
first_no ((r ∷ rs) ∷ qs) c h d =
    let a : Asked (r ∷ rs) = h.0 in
    record {
      before = [];
      question = r ∷ rs;
      after = qs;
      asked = refl;
      yes = tt;
      shape = (a.items, a.test, a.refusal, a.same);
      first = λ n test refusal e. first_item n test refusal r rs (sym e);
    }

-- an answer that is decided by its questions
honest : (qs : List Question) (c : ℕ) → T (all numbered qs) → EachAsked qs → Honest qs (decide qs c).number (decide qs c).second
honest qs c ok h = record { accepts = decide_iff qs c ok; refuses = first_no qs c h }

-- ---- the questions of each call: no number is 0, and each has the shape
numbered_more : (b : List ℕ) (m rule : ℕ) (qs : List Question) → T (all numbered qs) → T (all numbered (instance_questions b m rule ++ qs))
numbered_more b m rule qs h = (all_append numbered (instance_questions b m rule) qs).1 (numbered_instance b m rule, h)

module _ (b : List ℕ) (m rule : ℕ) where
  abbrev I : Instance
  I = instance b m rule

  abbrev F : Formula
  F = formula I

  asked_bytes : EachAsked (bytes_questions b)
  asked_bytes = (one _ _, (one _ _, (one _ _, (one _ _, (one _ _, (many _ _ _, (many _ _ _, (many _ _ _, (many _ _ _, tt)))))))))

  asked_instance : EachAsked (instance_questions b m rule)
  unfolding instance_questions
  asked_instance = asked_append (bytes_questions b) (question10 m ∷ question31 rule ∷ []) asked_bytes (one _ _, (one _ _, tt))

  asked_more : (qs : List Question) → EachAsked qs → EachAsked (instance_questions b m rule ++ qs)
  asked_more qs h = asked_append (instance_questions b m rule) qs asked_instance h

  asked_plan : (p : List ℕ) → EachAsked (plan_questions I p)
  unfolding plan_questions
  asked_plan p = (
    many _ _ _,
    (
      many _ _ _,
      asked_append (for I.sizes.m (step_questions I p)) _ (asked_for I.sizes.m (step_questions I p) (λ t. (many _ _ _, (many _ _ _, (many _ _ _, tt))))) (many _ _ _, tt),
    ),
  )

  pub numbered_write : (f : Instance → Formula) (room : ℕ) → T (all numbered (write_questions f b m rule room))
  numbered_write f room = numbered_more b m rule _ (simp (and_iff, ask_all) ((λ f. tt), tt))

  pub numbered_clause : (c room : ℕ) → T (all numbered (clause_questions b m rule c room))
  numbered_clause c room = numbered_more b m rule _ (simp (and_iff, ask_all) ((λ f. tt), ((λ f. tt), tt)))

  pub numbered_check : (p : List ℕ) → T (all numbered (check_questions b m rule p))
  numbered_check p = numbered_more b m rule _ (numbered_plan I p)

  pub numbered_decode : (entries : List ℤ) (room : ℕ) → T (all numbered (decode_questions b m rule entries room))
  numbered_decode entries room =
      numbered_more b m rule _
      (numbered_second (question14 F entries) (question15 I room) (question23 F entries ∷ question24 F entries ∷ [])
      (simp ask_all (λ f. tt)) (numbered_valuation F entries))

  pub numbered_encode : (p : List ℕ) (room : ℕ) → T (all numbered (encode_questions b m rule p room))
  numbered_encode p room =
      numbered_more b m rule _
      (numbered_second (question13 I p) (question16 F.variables room) (plan_questions I p) (simp ask_all (λ f. tt)) (numbered_plan I p))

  pub numbered_read : (text : List ℕ) (room : ℕ) → T (all numbered (read_questions b m rule text room))
  numbered_read text room =
      numbered_more b m rule _ ((and_iff (numbered (question16 F.variables room)) _).1 (simp ask_all (λ f. tt), numbered_text F.variables text))

  asked_text : (N : ℕ) (text : List ℕ) → EachAsked (text_questions N text)
  unfolding text_questions
  asked_text N text = (one _ _, (many _ _ _, (one _ _, (one _ _, (many _ _ _, tt)))))

  -- with a ceiling
  module _ (c : ℕ) where
    abbrev L : Formula
    L = under_ceiling c I

    asked_first : EachAsked (ceiling_questions b m rule c)
    unfolding ceiling_questions
    asked_first = asked_append (instance_questions b m rule) (question32 c ∷ []) asked_instance (one _ _, tt)

    asked_ceiling : (qs : List Question) → EachAsked qs → EachAsked (ceiling_questions b m rule c ++ qs)
    asked_ceiling qs h = asked_append (ceiling_questions b m rule c) qs asked_first h

    numbered_behind : (qs : List Question) → T (all numbered qs) → T (all numbered (ceiling_questions b m rule c ++ qs))
    numbered_behind qs h = (all_append numbered (ceiling_questions b m rule c) qs).1 (numbered_ceiling b m rule c, h)

    pub numbered_ceiling_decode : (entries : List ℤ) (room : ℕ) → T (all numbered (ceiling_decode_questions b m rule c entries room))
    numbered_ceiling_decode entries room =
        numbered_behind _
        (numbered_second (question14 L entries) (question15 I room) (question23 L entries ∷ question24 L entries ∷ []) (simp ask_all (λ f. tt)) (numbered_valuation L entries))

    pub numbered_ceiling_encode : (p : List ℕ) (room : ℕ) → T (all numbered (ceiling_encode_questions b m rule c p room))
    numbered_ceiling_encode p room =
        numbered_behind _
        ((all_append numbered (encode_rest I L.variables p room) (question33 c I p ∷ [])).1
        (numbered_second (question13 I p) (question16 L.variables room) (plan_questions I p) (simp ask_all (λ f. tt)) (numbered_plan I p), simp (and_iff, ask_all) ((λ f. tt), tt)))

    pub numbered_ceiling_read : (text : List ℕ) (room : ℕ) → T (all numbered (ceiling_read_questions b m rule c text room))
    numbered_ceiling_read text room =
        numbered_behind _ ((and_iff (numbered (question16 L.variables room)) _).1 (simp ask_all (λ f. tt), numbered_text L.variables text))

pub refusals : Claim
unfolding instance_answer size_answer with_clauses write_answer write_slice clause_answer clause_slice check_answer decode_answer decode_slice encode_answer encode_slice read_answer read_slice floor_answer ceiling_size_answer ceiling_write_answer ceiling_write_slice ceiling_decode_answer ceiling_decode_slice ceiling_encode_answer ceiling_encode_slice ceiling_read_answer ceiling_read_slice tally_answer
refusals b m rule =
    record {
      instance = honest (instance_questions b m rule) 0 (numbered_instance b m rule) (asked_instance b m rule);
      size = λ f. honest (size_questions b m rule) _ (numbered_instance b m rule) (asked_instance b m rule);
      writer = λ f room. honest (write_questions f b m rule room) _ (numbered_write b m rule f room) (asked_more b m rule _ (one _ _, tt));
      writer_slice = λ f s d. lent_refused _ _ s d;
      clause = λ c room. honest (clause_questions b m rule c room) _ (numbered_clause b m rule c room) (asked_more b m rule _ (one _ _, (one _ _, tt)));
      clause_slice = λ c s d. lent_refused _ _ s d;
      check = λ p. honest (check_questions b m rule p) _ (numbered_check b m rule p) (asked_more b m rule _ (one _ _, asked_plan b m rule p));
      decoder = λ entries room.
          honest (decode_questions b m rule entries room) _ (numbered_decode b m rule entries room)
          (asked_more b m rule _ (one _ _, (one _ _, (many _ _ _, (many _ _ _, tt)))));
      decoder_slice = λ entries s d. lent_refused _ _ s d;
      encoder = λ p room.
          honest (encode_questions b m rule p room) _ (numbered_encode b m rule p room) (asked_more b m rule _ (one _ _, (one _ _, asked_plan b m rule p)));
      encoder_slice = λ p s d. lent_refused _ _ s d;
      reader = λ text room.
          honest (read_questions b m rule text room) _ (numbered_read b m rule text room) (asked_more b m rule _ (one _ _, asked_text b m rule _ text));
      reader_slice = λ text s d. lent_refused _ _ s d;
      ceiling_size = λ c. honest (ceiling_questions b m rule c) _ (numbered_ceiling b m rule c) (asked_first b m rule c);
      ceiling_writer = λ c room.
          honest (ceiling_write_questions b m rule c room) _ (numbered_behind b m rule c _ (simp (and_iff, ask_all) ((λ f. tt), tt))) (asked_ceiling b m rule c _ (one _ _, tt));
      ceiling_writer_slice = λ c s d. lent_refused _ _ s d;
      ceiling_decoder = λ c entries room.
          honest (ceiling_decode_questions b m rule c entries room) _ (numbered_ceiling_decode b m rule c entries room)
          (asked_ceiling b m rule c _ (one _ _, (one _ _, (many _ _ _, (many _ _ _, tt)))));
      ceiling_decoder_slice = λ c entries s d. lent_refused _ _ s d;
      ceiling_encoder = λ c p room.
          honest (ceiling_encode_questions b m rule c p room) _ (numbered_ceiling_encode b m rule c p room)
          (asked_ceiling b m rule c _ (asked_append (encode_rest (instance b m rule) (L b m rule c).variables p room) _ (one _ _, (one _ _, asked_plan b m rule p)) (one _ _, tt)));
      ceiling_encoder_slice = λ c p s d. lent_refused _ _ s d;
      ceiling_reader = λ c text room.
          honest (ceiling_read_questions b m rule c text room) _ (numbered_ceiling_read b m rule c text room)
          (asked_ceiling b m rule c _ (one _ _, asked_text b m rule _ text));
      ceiling_reader_slice = λ c text s d. lent_refused _ _ s d;
      tally = λ p t.
          honest (tally_questions b m rule p t) _ ((and_iff (numbered (question34 t)) _).1 (simp ask_all (λ f. tt), numbered_check b m rule p))
          (one _ _, asked_more b m rule _ (one _ _, asked_plan b m rule p));
      floor = honest (floor_questions b) _ (numbered_floor b) (asked_append (bytes_questions b) (goal_question b ∷ []) (asked_bytes b m rule) (many _ _ _, tt));
    }
