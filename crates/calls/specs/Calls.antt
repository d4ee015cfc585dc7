-- For each call: the questions it asks, its answer, and what it leaves in the lent slice.
-- b are the instance bytes, m is the horizon and rule the movement rule given; the floor is given neither. A room is the length of a lent
-- slice.
use Rattle.std.specs.Prelude.{List, [], ◌∷◌, ◌++◌, ℕ, length, get_or, ℤ}
use Rattle.lists.specs.Loop.{for}
use Rattle.answers.specs.declared.Answer.{Answer}
use Rattle.answers.specs.declared.Size.{Size}
use Rattle.answers.specs.Answers.{Question, decide, lent, with_clauses}
use Rattle.instance.specs.Instance.{Instance, instance, agents, goals}
use Rattle.instance.specs.Questions.{bytes_questions, instance_questions}
use Rattle.distances.specs.Distance.{start_to_goal, floor}
use Rattle.formula.specs.Formula.{Formula, formula, line, words}
use Rattle.plan.specs.Plan.{plan_bytes, cost}
use Rattle.valuation.specs.Valuation.{named_plan, plan_valuation}
use Rattle.solver_text.specs.Form.{given, in_order}
use Rattle.calls.specs.Questions.{question11, question12, question13, question14, question15, question16, question17, question18, question19, question20, question21, question22, question23, question24, questions27, question28, question29, question30}

-- the three questions of step t
abbrev pub step_questions : Instance → List ℕ → ℕ → List Question
step_questions I p t = question19 I p t ∷ question20 I p t ∷ question21 I p t ∷ []

-- 17 to 22: 19, 20 and 21 are asked of step 0, then of step 1, and so on
unfoldable pub plan_questions : Instance → List ℕ → List Question
plan_questions I p = question17 I p ∷ question18 I p ∷ for I.sizes.m (step_questions I p) ++ question22 I p ∷ []

-- 27 to 29
unfoldable pub text_questions : ℕ → List ℕ → List Question
text_questions N text = questions27 N text ++ question28 N text ∷ question29 N text ∷ []

-- What each call asks of an accepted instance, after 1 to 10 and 31.

-- a writer of the formula f: 12
abbrev pub write_rest : Formula → ℕ → List Question
write_rest f room = question12 (length (words f)) room ∷ []

module _ (I : Instance) where
  -- the clause at a number, with its 0
  abbrev pub clause_words : ℕ → List ℤ
  clause_words c = line (get_or (formula I).clauses c [])

  -- one clause: 11, 12
  abbrev pub clause_rest : ℕ → ℕ → List Question
  clause_rest c room = question11 (formula I) c ∷ question12 (length (clause_words c)) room ∷ []

  -- the plan check: 13, 17 to 22
  abbrev pub check_rest : List ℕ → List Question
  check_rest p = question13 I p ∷ plan_questions I p

  -- the decoder of a formula f, the base formula or the one with a ceiling: 14, 15, 23, 24
  abbrev pub decode_rest : Formula → List ℤ → ℕ → List Question
  decode_rest f entries room = question14 f entries ∷ question15 I room ∷ question23 f entries ∷ question24 f entries ∷ []

  -- the encoder to N variables: 13, 16 to 22
  abbrev pub encode_rest : ℕ → List ℕ → ℕ → List Question
  encode_rest N p room = question13 I p ∷ question16 N room ∷ plan_questions I p

-- the reader of N variables: 16, 27 to 29
abbrev pub read_rest : ℕ → List ℕ → ℕ → List Question
read_rest N text room = question16 N room ∷ text_questions N text

-- ---- the size and the writer of one formula for each instance, f: the base formula or the pruned one
-- the size call: 1 to 10, 31
abbrev pub size_questions : List ℕ → ℕ → ℕ → List Question
size_questions b m rule = instance_questions b m rule

module _ (f : Instance → Formula) (b : List ℕ) (m rule : ℕ) where
  abbrev asked : Formula
  asked = f (instance b m rule)

  -- words, and the clauses beside them
  unfoldable pub size_answer : Size
  size_answer = with_clauses (decide (size_questions b m rule) (length (words asked))) (length asked.clauses)

  -- the writer: what the size call asks, then 12. The second number of an acceptance is 0.
  abbrev pub write_questions : ℕ → List Question
  write_questions room = size_questions b m rule ++ write_rest asked room

  unfoldable pub write_answer : ℕ → Answer
  write_answer room = decide (write_questions room) 0

  unfoldable pub write_slice : List ℤ → List ℤ
  write_slice s = lent (write_answer (length s)) (words asked) s

module _ (b : List ℕ) (m rule : ℕ) where
  abbrev I : Instance
  I = instance b m rule

  -- the base formula
  abbrev base : Formula
  base = formula I

  -- ---- one clause: 1 to 10, 31, 11, 12
  abbrev pub clause_questions : ℕ → ℕ → List Question
  clause_questions c room = instance_questions b m rule ++ clause_rest I c room

  unfoldable pub clause_answer : ℕ → ℕ → Answer
  clause_answer c room = decide (clause_questions c room) (length (clause_words I c))

  unfoldable pub clause_slice : ℕ → List ℤ → List ℤ
  clause_slice c s = lent (clause_answer c (length s)) (clause_words I c) s

  -- ---- the plan check: 1 to 10, 31, 13, 17 to 22
  abbrev pub check_questions : List ℕ → List Question
  check_questions p = instance_questions b m rule ++ check_rest I p

  unfoldable pub check_answer : List ℕ → Answer
  check_answer p = decide (check_questions p) (cost I.sizes p)

  -- ---- the decoder: 1 to 10, 31, 14, 15, 23, 24
  abbrev pub decode_questions : List ℤ → ℕ → List Question
  decode_questions entries room = instance_questions b m rule ++ decode_rest I base entries room

  unfoldable pub decode_answer : List ℤ → ℕ → Answer
  decode_answer entries room = decide (decode_questions entries room) (plan_bytes I.sizes)

  unfoldable pub decode_slice : List ℤ → List ℕ → List ℕ
  decode_slice entries s = lent (decode_answer entries (length s)) (named_plan I.sizes entries) s

  -- ---- the encoder: 1 to 10, 31, 13, 16 to 22
  abbrev pub encode_questions : List ℕ → ℕ → List Question
  encode_questions p room = instance_questions b m rule ++ encode_rest I base.variables p room

  unfoldable pub encode_answer : List ℕ → ℕ → Answer
  encode_answer p room = decide (encode_questions p room) base.variables

  unfoldable pub encode_slice : List ℕ → List ℤ → List ℤ
  encode_slice p s = lent (encode_answer p (length s)) (plan_valuation I.sizes p) s

  -- ---- the reader: 1 to 10, 31, 16, 27 to 29
  abbrev pub read_questions : List ℕ → ℕ → List Question
  read_questions text room = instance_questions b m rule ++ read_rest base.variables text room

  unfoldable pub read_answer : List ℕ → ℕ → Answer
  read_answer text room = decide (read_questions text room) base.variables

  unfoldable pub read_slice : List ℕ → List ℤ → List ℤ
  read_slice text s = lent (read_answer text (length s)) (in_order base.variables (given text)) s

-- ---- the floor: 1 to 9, 30. An instance has a horizon and a rule: 0 and 1 stand for them here, and any others would do.
module _ (b : List ℕ) where
  abbrev pub goal_question : Question
  goal_question = question30 (agents b) (start_to_goal (instance b 0 1)) (goals b)

  abbrev pub floor_questions : List Question
  floor_questions = bytes_questions b ++ goal_question ∷ []

  unfoldable pub floor_answer : Answer
  floor_answer = decide floor_questions (floor (instance b 0 1))
