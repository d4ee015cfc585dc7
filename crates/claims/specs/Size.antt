-- What is claimed of the size of a formula and of its writer, together, for every input: of the base formula and the pruned one, and so of
-- any formula that is given for each instance, and of the formula with a ceiling.
use Rattle.std.specs.Prelude.{◌≡◌, ◌↔◌, ◌≢◌, List, ℕ, ◌≤◌, ◌<◌, length, take, drop, ℤ}
use Rattle.answers.specs.declared.Answer.{Answer}
use Rattle.answers.specs.declared.Size.{Size}
use Rattle.answers.specs.Answers.{accept, refuse}
use Rattle.instance.specs.Instance.{Instance, instance}
use Rattle.instance.specs.Questions.{instance_answer}
use Rattle.formula.specs.Formula.{Formula, words}
use Rattle.ceiling.specs.Ceiling.{under_ceiling}
use Rattle.calls.specs.Calls.{size_answer, write_answer, write_slice}
use Rattle.calls.specs.Ceiling.{ceiling_answer, ceiling_size_answer, ceiling_write_answer, ceiling_write_slice}

-- A size call's answer, of the formula that is asked for, where `first` is the answer to what is asked of the instance, and of the ceiling
-- where there is one.
pub record SizeCall (asked : Formula) (first : Answer) (size : Size) : Type 0 where
  -- it accepts exactly what they accept; a refusal is theirs, so never 12, and has no clauses
  pub accepts : (size.number ≡ 0) ↔ (first.number ≡ 0)
  pub refusal : size.number ≢ 0 → refuse size.number size.second ≡ first
  pub no_clauses : size.number ≢ 0 → size.clauses ≡ 0
  pub never12 : size.number ≢ 12
  -- an acceptance counts the formula's words and clauses
  pub words_counted : size.number ≡ 0 → size.second ≡ length (words asked)
  pub clauses_counted : size.number ≡ 0 → size.clauses ≡ length asked.clauses

-- the writer beside it: its answer for a slice of each length, and what it leaves of a slice
pub record Writer (asked : Formula) (size : Size) (write : ℕ → Answer) (slice : List ℤ → List ℤ) : Type 0 where
  -- it accepts exactly when the size call accepts and the slice has that many words or more
  pub accepts : (room : ℕ) → ((write room).number ≡ 0) ↔ ((size.number ≡ 0) × (size.second ≤ room))
  -- it then answers 0 and 0, and fills that many words with the formula's; those beyond are as they were
  pub accepted : (room : ℕ) → (write room).number ≡ 0 → write room ≡ accept 0
  pub fills : (s : List ℤ) → (write (length s)).number ≡ 0 → take size.second (slice s) ≡ words asked
  pub beyond : (s : List ℤ) → (write (length s)).number ≡ 0 → drop size.second (slice s) ≡ drop size.second s
  -- what the size call refuses it refuses alike, whatever the slice; else a slice that is too short gets 12, and the words it needs
  pub alike : size.number ≢ 0 → (room : ℕ) → write room ≡ refuse size.number size.second
  pub too_short : size.number ≡ 0 → (room : ℕ) → room < size.second → write room ≡ refuse 12 size.second

pub record Claim : Type 0 where
  -- f is `formula` or `pruned`, or any other
  pub size : (f : Instance → Formula) (b : List ℕ) (m rule : ℕ) → SizeCall (f (instance b m rule)) (instance_answer b m rule) (size_answer f b m rule)
  pub writer : (f : Instance → Formula) (b : List ℕ) (m rule : ℕ)
      → Writer (f (instance b m rule)) (size_answer f b m rule) (write_answer f b m rule) (write_slice f b m rule)
  -- with a ceiling
  pub ceiling_size : (b : List ℕ) (m rule c : ℕ) → SizeCall (under_ceiling c (instance b m rule)) (ceiling_answer b m rule c) (ceiling_size_answer b m rule c)
  pub ceiling_writer : (b : List ℕ) (m rule c : ℕ)
      → Writer (under_ceiling c (instance b m rule)) (ceiling_size_answer b m rule c) (ceiling_write_answer b m rule c) (ceiling_write_slice b m rule c)
