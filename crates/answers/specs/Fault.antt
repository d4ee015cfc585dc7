-- What a loop over the items of a question finds. It stands in the contracts of such loops.
use Rattle.std.specs.Prelude.{Bool, ℕ, ◌≤◌, ◌<◌, T, Option, None, Some}

-- r is the first of the items 0 to n - 1 that fails the test, or n where none does
pub record FirstFault (n : ℕ) (test : ℕ → Bool) (r : ℕ) : Type 0 where
  pub within : r ≤ n
  pub before : (i : ℕ) → i < r → T (test i)
  pub here : r < n → T (test r) → ⊥

-- the same as an option: the first item that fails, or none
abbrev pub FirstFailing : ℕ → (ℕ → Bool) → Option ℕ → Type 0
FirstFailing n test (Some i) = (i < n) × FirstFault n test i
FirstFailing n test None = FirstFault n test n
