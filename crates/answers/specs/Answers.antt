-- Answers, and how a list of questions comes to one.
-- A question is the list of its refusals, in the order in which its items are asked. It is answered yes where that list is empty.
use Rattle.std.specs.Prelude.{List, [], ◌∷◌, Bool, true, false, ℕ, zero, suc}
use Rattle.lists.specs.Loop.{for, unless}
use Rattle.lists.specs.Slice.{filled}
use Rattle.answers.specs.declared.Answer.{Answer}
use Rattle.answers.specs.declared.Size.{Size}

-- the refusal with this number and this place
abbrev pub refuse : ℕ → ℕ → Answer
refuse number place = record { number = number; second = place }

-- the acceptance with this count
abbrev pub accept : ℕ → Answer
accept count = record { number = 0; second = count }

abbrev pub Question : Type 0
Question = List Answer

-- A question about n items, asked of item 0, then of item 1, and so on: an item that fails its test gives its refusal.
unfoldable pub ask_each : ℕ → (ℕ → Bool) → (ℕ → Answer) → Question
ask_each n test refusal = for n λ i. unless (test i) (refusal i)

-- a question about one thing: the same with one item
unfoldable pub ask : Bool → Answer → Question
ask test refusal = unless test refusal

-- a question is answered yes
abbrev pub clear : Question → Bool
clear [] = true
clear (r ∷ rs) = false

-- Questions are asked in order, and the first no decides. Where there is none, the answer holds the count.
unfoldable pub decide : List Question → ℕ → Answer
decide [] count = accept count
decide ([] ∷ questions) count = decide questions count
decide ((refusal ∷ later) ∷ questions) count = refusal

-- x where the number is 0, for accepted, and y where it is the number of a refusal
abbrev pub by_number : {A : Type 0} → ℕ → A → A → A
by_number zero x y = x
by_number (suc number) x y = y

-- A lent slice after the call: an acceptance fills its first places with out and touches none beyond, a refusal changes nothing.
unfoldable pub lent : {A : Type 0} → Answer → List A → List A → List A
lent answer out s = by_number answer.number (filled out s) s

-- The answer of a size call: the clause count stands beside an acceptance, 0 beside a refusal.
unfoldable pub with_clauses : Answer → ℕ → Size
with_clauses answer clauses =
    record { number = answer.number; second = answer.second; clauses = by_number answer.number clauses 0 }
