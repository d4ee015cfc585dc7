-- The record in which checked plans are counted: whether it takes one answer more, and what it is then.
use Rattle.std.specs.Prelude.{Bool, ◌&&◌, cond, ℕ, ◌+◌, ◌*◌, min, max, get_or, set, replicate, leb, ltb, eqb}
use Rattle.lists.specs.Loop.{sum}
use Rattle.answers.specs.declared.Answer.{Answer}
use Rattle.answers.specs.Answers.{by_number}
use Rattle.tally.specs.declared.Tally.{Tally}

-- the empty record
unfoldable pub empty : Tally
empty = record { passed = 0; refused = replicate 36 0; sum = 0; least = 0; greatest = 0 }

-- the refusals counted under the number q
abbrev pub under : Tally → ℕ → ℕ
under t q = get_or t.refused q 0

-- all that is counted: the plans passed, and the refusals under every number
unfoldable pub total : Tally → ℕ
total t = t.passed + sum 36 (under t)

-- It takes one answer more: fewer than 65,535 are counted, and its sum is at most 512 for each plan passed.
unfoldable pub takes_more : Tally → Bool
takes_more t = ltb (total t) 65535 && leb t.sum (512 * t.passed)

-- one more plan that passed, and what it costs; the first sets least and greatest
unfoldable pub with_pass : Tally → ℕ → Tally
with_pass t cost =
    record {
      passed = t.passed + 1;
      refused = t.refused;
      sum = t.sum + cost;
      least = cond (eqb t.passed 0) cost (min t.least cost);
      greatest = cond (eqb t.passed 0) cost (max t.greatest cost);
    }

-- one more refusal under the number q
unfoldable pub with_refusal : Tally → ℕ → Tally
with_refusal t q =
    record {
      passed = t.passed;
      refused = set t.refused q (under t q + 1);
      sum = t.sum;
      least = t.least;
      greatest = t.greatest;
    }

-- one answer more, which is counted under its number, an acceptance among the plans passed
unfoldable pub counted : Tally → Answer → Tally
counted t answer = by_number answer.number (with_pass t answer.second) (with_refusal t answer.number)
