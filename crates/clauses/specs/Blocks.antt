-- A function that writes the words of blocks of clauses: of block i, to the start of a slice.
use Rattle.std.specs.Prelude.{List, ℕ, ◌≤◌, ◌<◌, length, ℤ}
use denote.Ref.{MutBor}
use Rattle.lists.specs.Loop.{each}
use Rattle.lists.specs.Slice.{Wrote}
use Rattle.formula.specs.Formula.{Clause, line}

module _ (count : ℕ) (blocks : ℕ → List Clause) where
  -- it may be called for each block below count, where there is room for its words
  abbrev pub Takes : (MutBor (List ℤ) → ℕ → Type 0) → Type 0
  Takes pre = (i : ℕ) (s : MutBor (List ℤ)) → i < count → length (each line (blocks i)) ≤ length s.now → pre s i

  -- such a call writes them, and answers how many they are
  abbrev pub Writes : (MutBor (List ℤ) → ℕ → ℕ → MutBor (List ℤ) → Type 0) → Type 0
  Writes post = (i : ℕ) (s : MutBor (List ℤ)) (r : ℕ) (s' : MutBor (List ℤ)) → i < count → post s i r s' → Wrote (each line (blocks i)) s.now s'.now r
