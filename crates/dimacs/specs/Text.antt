-- The text of a formula, as bytes: a byte is its number in ASCII.
use Rattle.std.specs.Prelude.{List, [], ◌∷◌, ◌++◌, ℕ, zero, suc, ℤ, pos, negsuc, length}
use Rattle.lists.specs.Loop.{each}
use Rattle.decimals.specs.Decimals.{decimal, signed}
use Rattle.formula.specs.Formula.{Clause, Formula}

-- a number and one byte after it
abbrev pub ended : ℕ → ℕ → List ℕ
ended x byte = decimal x ++ byte ∷ []

-- what follows a word: the word 0 ends its line, any other is followed by a space
abbrev pub after : ℤ → ℕ
after (pos zero) = 10
after (pos (suc x)) = 32
after (negsuc x) = 32

unfoldable pub word_text : ℤ → List ℕ
word_text w = signed w ++ after w ∷ []

-- the text of a list of words
unfoldable pub words_text : List ℤ → List ℕ
words_text words = each word_text words

-- A clause's line: each literal and a space, then 0 and the line's end.
unfoldable pub clause_text : Clause → List ℕ
clause_text clause = (each (λ literal. signed literal ++ 32 ∷ []) clause) ++ 48 ∷ 10 ∷ []

-- "p cnf ", the number of variables, a space, the number of clauses, the line's end
unfoldable pub header_text : ℕ → ℕ → List ℕ
header_text variables clauses = (112 ∷ 32 ∷ 99 ∷ 110 ∷ 102 ∷ 32 ∷ []) ++ (ended variables 32 ++ ended clauses 10)

-- "c refused ", the refusal's number, a space, its place, the line's end
unfoldable pub refusal_text : ℕ → ℕ → List ℕ
refusal_text number place =
    (99 ∷ 32 ∷ 114 ∷ 101 ∷ 102 ∷ 117 ∷ 115 ∷ 101 ∷ 100 ∷ 32 ∷ []) ++ (ended number 32 ++ ended place 10)

-- what is printed of a formula: the header, with its variables and its clause count, then a line a clause
unfoldable pub formula_text : Formula → List ℕ
formula_text f = header_text f.variables (length f.clauses) ++ each clause_text f.clauses
