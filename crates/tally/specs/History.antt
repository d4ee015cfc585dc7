-- What a history, a list of answers in their order, states.
use Rattle.std.specs.Prelude.{◌≡◌, ◌≢◌, List, [], ◌∷◌, not, ℕ, ◌+◌, min, max, length, eqb}
use Rattle.lists.specs.Loop.{each, when}
use Rattle.answers.specs.declared.Answer.{Answer}
use Rattle.tally.specs.declared.Tally.{Tally}
use Rattle.tally.specs.Tally.{under, total}

-- the answers with the number q
abbrev pub with_number : ℕ → List Answer → List Answer
with_number q answers = each (λ a. when (eqb a.number q) (a ∷ [])) answers

-- the answers but those with the number 34
abbrev pub but34 : List Answer → List Answer
but34 answers = each (λ a. when (not (eqb a.number 34)) (a ∷ [])) answers

-- the costs of the plans that passed
abbrev pub costs : List Answer → List ℕ
costs answers = each (λ a. when (eqb a.number 0) (a.second ∷ [])) answers

abbrev pub sum_of : List ℕ → ℕ
sum_of [] = 0
sum_of (x ∷ l) = x + sum_of l

-- x, then each element of l joined to it
abbrev pub joined : (ℕ → ℕ → ℕ) → ℕ → List ℕ → ℕ
joined op x [] = x
joined op x (y ∷ l) = joined op (op x y) l

-- the least and the greatest of a list, 0 where it is empty
abbrev pub least_of : List ℕ → ℕ
least_of [] = 0
least_of (x ∷ l) = joined min x l

abbrev pub greatest_of : List ℕ → ℕ
greatest_of [] = 0
greatest_of (x ∷ l) = joined max x l

-- The record t states what the answers state: each but 34 is counted once, under its number, and the costs are those of the plans passed.
pub record States (t : Tally) (answers : List Answer) : Type 0 where
  pub counters : length t.refused ≡ 36
  pub passed : t.passed ≡ length (with_number 0 answers)
  pub refused : (q : ℕ) → q ≢ 0 → q ≢ 34 → under t q ≡ length (with_number q answers)
  pub none : (under t 0 ≡ 0) × (under t 34 ≡ 0)
  pub sum : t.sum ≡ sum_of (costs answers)
  pub least : t.least ≡ least_of (costs answers)
  pub greatest : t.greatest ≡ greatest_of (costs answers)
  pub once : total t ≡ length (but34 answers)
