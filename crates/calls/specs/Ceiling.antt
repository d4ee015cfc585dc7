-- The calls with a ceiling c on the cost: the size and the writer of the formula, the decoder, the encoder and the reader. Each asks what
-- it asks without a ceiling, of the formula that has one; 32 just after 31, and the encoder 33 after 22.
use Rattle.std.specs.Prelude.{List, [], ◌∷◌, ◌++◌, ℕ, length, ℤ}
use Rattle.answers.specs.declared.Answer.{Answer}
use Rattle.answers.specs.declared.Size.{Size}
use Rattle.answers.specs.Answers.{Question, decide, lent, with_clauses}
use Rattle.instance.specs.Instance.{Instance, instance}
use Rattle.instance.specs.Questions.{instance_questions}
use Rattle.formula.specs.Formula.{Formula, words}
use Rattle.plan.specs.Plan.{plan_bytes}
use Rattle.valuation.specs.Valuation.{named_plan}
use Rattle.ceiling.specs.Ceiling.{under_ceiling}
use Rattle.ceiling.specs.Encoded.{ceiling_valuation}
use Rattle.solver_text.specs.Form.{given, in_order}
use Rattle.calls.specs.Questions.{question32, question33}
use Rattle.calls.specs.Calls.{write_rest, decode_rest, encode_rest, read_rest}

module _ (b : List ℕ) (m rule c : ℕ) where
  abbrev I : Instance
  I = instance b m rule

  -- the formula with the ceiling
  abbrev limited : Formula
  limited = under_ceiling c I

  -- ---- what each asks first: 1 to 10, 31, 32
  unfoldable pub ceiling_questions : List Question
  ceiling_questions = instance_questions b m rule ++ question32 c ∷ []

  unfoldable pub ceiling_answer : Answer
  ceiling_answer = decide ceiling_questions 0

  -- ---- the size: words, and the clauses beside them
  unfoldable pub ceiling_size_answer : Size
  ceiling_size_answer = with_clauses (decide ceiling_questions (length (words limited))) (length limited.clauses)

  -- ---- the writer: then 12
  abbrev pub ceiling_write_questions : ℕ → List Question
  ceiling_write_questions room = ceiling_questions ++ write_rest limited room

  unfoldable pub ceiling_write_answer : ℕ → Answer
  ceiling_write_answer room = decide (ceiling_write_questions room) 0

  unfoldable pub ceiling_write_slice : List ℤ → List ℤ
  ceiling_write_slice s = lent (ceiling_write_answer (length s)) (words limited) s

  -- ---- the decoder: then 14, 15, 23, 24
  abbrev pub ceiling_decode_questions : List ℤ → ℕ → List Question
  ceiling_decode_questions entries room = ceiling_questions ++ decode_rest I limited entries room

  unfoldable pub ceiling_decode_answer : List ℤ → ℕ → Answer
  ceiling_decode_answer entries room = decide (ceiling_decode_questions entries room) (plan_bytes I.sizes)

  unfoldable pub ceiling_decode_slice : List ℤ → List ℕ → List ℕ
  ceiling_decode_slice entries s = lent (ceiling_decode_answer entries (length s)) (named_plan I.sizes entries) s

  -- ---- the encoder: then 13, 16 to 22, 33
  abbrev pub ceiling_encode_questions : List ℕ → ℕ → List Question
  ceiling_encode_questions p room = ceiling_questions ++ (encode_rest I limited.variables p room ++ question33 c I p ∷ [])

  unfoldable pub ceiling_encode_answer : List ℕ → ℕ → Answer
  ceiling_encode_answer p room = decide (ceiling_encode_questions p room) limited.variables

  unfoldable pub ceiling_encode_slice : List ℕ → List ℤ → List ℤ
  ceiling_encode_slice p s = lent (ceiling_encode_answer p (length s)) (ceiling_valuation I.sizes p c) s

  -- ---- the reader: then 16, 27 to 29
  abbrev pub ceiling_read_questions : List ℕ → ℕ → List Question
  ceiling_read_questions text room = ceiling_questions ++ read_rest limited.variables text room

  unfoldable pub ceiling_read_answer : List ℕ → ℕ → Answer
  ceiling_read_answer text room = decide (ceiling_read_questions text room) limited.variables

  unfoldable pub ceiling_read_slice : List ℕ → List ℤ → List ℤ
  ceiling_read_slice text s = lent (ceiling_read_answer text (length s)) (in_order limited.variables (given text)) s
