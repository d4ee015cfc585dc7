-- What the search among the added clauses is given, and what it finds. It stands in the contracts of inner functions.
use Rattle.std.specs.Prelude.{◌≡◌, List, [], ◌∷◌, Bool, ◌||◌, ℕ, ◌+◌, ◌≤◌, ◌<◌, min, length, leb, ℤ, Option, Result, MatchOption, MatchResult}
use Rattle.answers.specs.Fault.{FirstFault}
use Rattle.formula.specs.Formula.{Clause}
use Rattle.valuation.specs.Valuation.{satisfied?}
use Rattle.satisfaction.specs.Rows.{Fault, Stop}
use Rattle.ceiling.specs.Tree.{join, on, off}
use Rattle.counting.specs.declared.Node.{Node}

-- each of the clauses has a true literal, and they are so many
pub record Passes (entries : List ℤ) (clauses : List Clause) (size : ℕ) : Type 0 where
  pub all : Fault entries clauses size
  pub count : length clauses ≡ size

-- one has none, and the first such stands at this place
pub record Fails (entries : List ℤ) (clauses : List Clause) (place : ℕ) : Type 0 where
  pub first : Fault entries clauses place
  pub within : place < length clauses

-- the answer is how many clauses there are, where each has a true literal, else the place of the first without one
abbrev pub Searched : List ℤ → List Clause → Result ℕ ℕ → Type 0
Searched entries clauses r = MatchResult r (Passes entries clauses) (Fails entries clauses)

-- of the numbers from `low` on, below n, the first that fails the test
abbrev pub Stops : (ℕ → Bool) → ℕ → ℕ → Option ℕ → Type 0
Stops test low n r = MatchOption r (Stop test low n n) (λ j. Stop test low n j × (j < n))

-- of the items below n, the first that fails the test
abbrev pub FirstOf : ℕ → (ℕ → Bool) → Option ℕ → Type 0
FirstOf n test r = MatchOption r (FirstFault n test n) (λ j. FirstFault n test j × (j < n))

module _ (entries : List ℤ) where
  -- the clause of i on the left and j on the right has a true literal; there is none where both are 0
  abbrev pub cell : Node → ℕ → ℕ → Bool
  cell d i j = leb (i + j) 0 || satisfied? entries (join d.ceiling.c d.p d.q d.o i j)

  -- the clause of output j on the right and of the node's for i and j has one
  abbrev pub follows : Node → ℕ → ℕ → Bool
  follows d i j = satisfied? entries (off (d.q + j) ∷ on (d.o + min (i + j) (d.ceiling.c + 1)) ∷ [])

  -- a node's variables have entries
  pub record Within (d : Node) : Type 0 where
    pub left : (d.a ≤ d.ceiling.c + 1) × (d.p + d.a ≤ length entries)
    pub right : (d.b ≤ d.ceiling.c + 1) × (d.q + d.b ≤ length entries)
    pub own : d.o + min (d.a + d.b) (d.ceiling.c + 1) ≤ length entries
