-- What a refusal says, that nothing else is refused, and that a refusal changes nothing: for each call and every input.
use Rattle.std.specs.Prelude.{◌≡◌, ◌↔◌, ◌≢◌, List, ◌∷◌, ◌++◌, Bool, ℕ, ◌<◌, length, T, ℤ}
use Rattle.lists.specs.Loop.{all}
use Rattle.answers.specs.declared.Answer.{Answer}
use Rattle.answers.specs.Answers.{Question, refuse, ask_each, clear}
use Rattle.instance.specs.Instance.{Instance}
use Rattle.instance.specs.Questions.{instance_questions, instance_answer}
use Rattle.formula.specs.Formula.{Formula}
use Rattle.tally.specs.declared.Tally.{Tally}
use Rattle.calls.specs.Calls.{size_questions, size_answer, write_questions, write_answer, write_slice, clause_questions, clause_answer, clause_slice, check_questions, check_answer, decode_questions, decode_answer, decode_slice, encode_questions, encode_answer, encode_slice, read_questions, read_answer, read_slice, floor_questions, floor_answer}
use Rattle.calls.specs.Ceiling.{ceiling_questions, ceiling_size_answer, ceiling_write_questions, ceiling_write_answer, ceiling_write_slice, ceiling_decode_questions, ceiling_decode_answer, ceiling_decode_slice, ceiling_encode_questions, ceiling_encode_answer, ceiling_encode_slice, ceiling_read_questions, ceiling_read_answer, ceiling_read_slice}
use Rattle.calls.specs.Tally.{tally_questions, tally_answer}

-- of items 0 to n - 1, each with a test and a refusal: the first that fails gives this answer, and every item before it passes
pub record FirstItem (n : ℕ) (test : ℕ → Bool) (refusal : ℕ → Answer) (answer : Answer) : Type 0 where
  pub item : ℕ
  pub inside : item < n
  pub passed : (i : ℕ) → i < item → T (test i)
  pub fails : T (test item) → ⊥
  pub given : answer ≡ refusal item

-- The first no decides: every question before it is answered yes. It is about items (`shape`), and however it is said as a question
-- about items, the first of them that fails gives the answer.
pub record FirstNo (questions : List Question) (answer : Answer) : Type 0 where
  pub before : List Question
  pub question : Question
  pub after : List Question
  pub asked : questions ≡ before ++ (question ∷ after)
  pub yes : T (all clear before)
  pub shape : (n : ℕ) × (test : ℕ → Bool) × (refusal : ℕ → Answer) × (question ≡ ask_each n test refusal)
  pub first : (n : ℕ) (test : ℕ → Bool) (refusal : ℕ → Answer) → question ≡ ask_each n test refusal → FirstItem n test refusal answer

-- a call that asks these questions and answers these two numbers
pub record Honest (questions : List Question) (number second : ℕ) : Type 0 where
  -- it accepts exactly where every question is answered yes
  pub accepts : (number ≡ 0) ↔ T (all clear questions)
  -- where it refuses, the first no decides
  pub refuses : number ≢ 0 → FirstNo questions (refuse number second)

-- a call that answers this number, and finds and leaves this slice: a refusal changes nothing
abbrev pub Unchanged : {A : Type 0} → ℕ → List A → List A → Type 0
Unchanged number found left = number ≢ 0 → left ≡ found

module _ (b : List ℕ) (m rule : ℕ) where
  pub record Refusals : Type 0 where
    pub instance : Honest (instance_questions b m rule) (instance_answer b m rule).number (instance_answer b m rule).second
    -- the size calls and the writers, for any f, so for `formula` and `pruned`
    pub size : (f : Instance → Formula) → Honest (size_questions b m rule) (size_answer f b m rule).number (size_answer f b m rule).second
    pub writer : (f : Instance → Formula) (room : ℕ)
        → Honest (write_questions f b m rule room) (write_answer f b m rule room).number (write_answer f b m rule room).second
    pub writer_slice : (f : Instance → Formula) (s : List ℤ) → Unchanged (write_answer f b m rule (length s)).number s (write_slice f b m rule s)
    pub clause : (c room : ℕ) → Honest (clause_questions b m rule c room) (clause_answer b m rule c room).number (clause_answer b m rule c room).second
    pub clause_slice : (c : ℕ) (s : List ℤ) → Unchanged (clause_answer b m rule c (length s)).number s (clause_slice b m rule c s)
    pub check : (p : List ℕ) → Honest (check_questions b m rule p) (check_answer b m rule p).number (check_answer b m rule p).second
    pub decoder : (entries : List ℤ) (room : ℕ)
        → Honest (decode_questions b m rule entries room) (decode_answer b m rule entries room).number (decode_answer b m rule entries room).second
    pub decoder_slice : (entries : List ℤ) (s : List ℕ) → Unchanged (decode_answer b m rule entries (length s)).number s (decode_slice b m rule entries s)
    pub encoder : (p : List ℕ) (room : ℕ)
        → Honest (encode_questions b m rule p room) (encode_answer b m rule p room).number (encode_answer b m rule p room).second
    pub encoder_slice : (p : List ℕ) (s : List ℤ) → Unchanged (encode_answer b m rule p (length s)).number s (encode_slice b m rule p s)
    pub reader : (text : List ℕ) (room : ℕ)
        → Honest (read_questions b m rule text room) (read_answer b m rule text room).number (read_answer b m rule text room).second
    pub reader_slice : (text : List ℕ) (s : List ℤ) → Unchanged (read_answer b m rule text (length s)).number s (read_slice b m rule text s)
    -- with a ceiling
    pub ceiling_size : (c : ℕ) → Honest (ceiling_questions b m rule c) (ceiling_size_answer b m rule c).number (ceiling_size_answer b m rule c).second
    pub ceiling_writer : (c room : ℕ)
        → Honest (ceiling_write_questions b m rule c room) (ceiling_write_answer b m rule c room).number (ceiling_write_answer b m rule c room).second
    pub ceiling_writer_slice : (c : ℕ) (s : List ℤ) → Unchanged (ceiling_write_answer b m rule c (length s)).number s (ceiling_write_slice b m rule c s)
    pub ceiling_decoder : (c : ℕ) (entries : List ℤ) (room : ℕ)
        → Honest (ceiling_decode_questions b m rule c entries room) (ceiling_decode_answer b m rule c entries room).number (ceiling_decode_answer b m rule c entries room).second
    pub ceiling_decoder_slice : (c : ℕ) (entries : List ℤ) (s : List ℕ)
        → Unchanged (ceiling_decode_answer b m rule c entries (length s)).number s (ceiling_decode_slice b m rule c entries s)
    pub ceiling_encoder : (c : ℕ) (p : List ℕ) (room : ℕ)
        → Honest (ceiling_encode_questions b m rule c p room) (ceiling_encode_answer b m rule c p room).number (ceiling_encode_answer b m rule c p room).second
    pub ceiling_encoder_slice : (c : ℕ) (p : List ℕ) (s : List ℤ)
        → Unchanged (ceiling_encode_answer b m rule c p (length s)).number s (ceiling_encode_slice b m rule c p s)
    pub ceiling_reader : (c : ℕ) (text : List ℕ) (room : ℕ)
        → Honest (ceiling_read_questions b m rule c text room) (ceiling_read_answer b m rule c text room).number (ceiling_read_answer b m rule c text room).second
    pub ceiling_reader_slice : (c : ℕ) (text : List ℕ) (s : List ℤ)
        → Unchanged (ceiling_read_answer b m rule c text (length s)).number s (ceiling_read_slice b m rule c text s)
    -- the plan check counted in a record
    pub tally : (p : List ℕ) (t : Tally) → Honest (tally_questions b m rule p t) (tally_answer b m rule p t).number (tally_answer b m rule p t).second
    -- the floor, which is given no horizon
    pub floor : Honest (floor_questions b) (floor_answer b).number (floor_answer b).second

abbrev pub Claim : Type 0
Claim = (b : List ℕ) (m rule : ℕ) → Refusals b m rule
