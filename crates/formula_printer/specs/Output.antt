-- What is to be printed, as a function of the input, and the exit status. No contract can speak of output: the stored runs and the
-- comparisons test the programs against it.
use Rattle.std.specs.Prelude.{◌≡◌, ◌⊎◌, List, ℕ, get_or, take, drop}
use Rattle.answers.specs.Answers.{by_number}
use Rattle.instance.specs.Instance.{instance}
use Rattle.formula.specs.Formula.{formula}
use Rattle.dimacs.specs.Text.{formula_text, refusal_text}
use Rattle.instance.specs.Questions.{instance_answer}
use Rattle.formula_printer.specs.declared.Status.{Status}
use Rattle.formula_printer.specs.declared.Status.TheVariants.{Done, Refused, Failed}

-- of an instance and a horizon, under movement rule 1: the formula's text, or the one line of a refusal
unfoldable pub answer_text : List ℕ → ℕ → List ℕ
answer_text b m =
    by_number (instance_answer b m 1).number (formula_text (formula (instance b m 1)))
    (refusal_text (instance_answer b m 1).number (instance_answer b m 1).second)

-- The exit status of an instance and a horizon where all of the text was written: 0 for a formula, 1 for a refusal.
unfoldable pub answer_status : List ℕ → ℕ → ℕ
answer_status b m = by_number (instance_answer b m 1).number 0 1

-- the number of a status
abbrev pub status_number : Status → ℕ
status_number Done = 0
status_number Refused = 1
status_number Failed = 2

-- it is answered, or 2 where a write failed
abbrev pub Ends : ℕ → ℕ → Type 0
Ends status r = (r ≡ status) ⊎ (r ≡ 2)

-- of an input: one byte m, then the instance; an empty one counts as m 0 and an empty instance
unfoldable pub input_status : List ℕ → ℕ
input_status input = answer_status (drop 1 input) (get_or input 0 0)

unfoldable pub input_text : List ℕ → List ℕ
input_text input = answer_text (drop 1 input) (get_or input 0 0)

-- of what stands in the program's standard input: at most 4,070 bytes are read
unfoldable pub program_text : List ℕ → List ℕ
program_text input = input_text (take 4070 input)
