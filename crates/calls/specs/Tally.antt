-- The plan check counted in a record t that is lent: 34 before all else, then what the plan check asks.
use Rattle.std.specs.Prelude.{List, [], ◌∷◌, cond, ℕ, eqb}
use Rattle.answers.specs.declared.Answer.{Answer}
use Rattle.answers.specs.Answers.{Question, decide}
use Rattle.instance.specs.Instance.{instance}
use Rattle.plan.specs.Plan.{cost}
use Rattle.tally.specs.declared.Tally.{Tally}
use Rattle.tally.specs.Tally.{counted}
use Rattle.calls.specs.Questions.{question34}
use Rattle.calls.specs.Calls.{check_questions}

module _ (b : List ℕ) (m rule : ℕ) (p : List ℕ) (t : Tally) where
  abbrev pub tally_questions : List Question
  tally_questions = question34 t ∷ check_questions b m rule p

  unfoldable pub tally_answer : Answer
  tally_answer = decide tally_questions (cost (instance b m rule).sizes p)

  -- the record after the call: 34 leaves it as it was, every other answer is counted
  unfoldable pub tally_record : Tally
  tally_record = cond (eqb tally_answer.number 34) t (counted t tally_answer)

-- ---- calls one after another
-- what one of them is given beside the record
pub record Call : Type 0 where
  pub b : List ℕ
  pub m : ℕ
  pub rule : ℕ
  pub p : List ℕ

abbrev pub answer_of : Call → Tally → Answer
answer_of c t = tally_answer c.b c.m c.rule c.p t

abbrev pub record_of : Call → Tally → Tally
record_of c t = tally_record c.b c.m c.rule c.p t

-- their answers, and the record after them, where each is lent what the one before it left
abbrev pub answers_of : Tally → List Call → List Answer
answers_of t [] = []
answers_of t (c ∷ calls) = answer_of c t ∷ answers_of (record_of c t) calls

abbrev pub after : Tally → List Call → Tally
after t [] = t
after t (c ∷ calls) = after (record_of c t) calls
