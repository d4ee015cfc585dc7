-- Examples of the text.
use mathlib.Core.Path.{◌≡◌, refl, ◌∙◌, ap}
use mathlib.Core.List.{List, [], ◌∷◌, ◌++◌}
use Prim.Native.Nat.{ℕ, ◌/◌, ◌%◌, ◌≤◌}
use lib.Dec.{lit<, lit≤}
use lib.IntN.{pos, neg_ℤ}
use Rattle.instance.specs.Instance.{instance, adjacent}
use Rattle.formula.specs.Variables.{index}
use Rattle.formula.specs.Formula.{A, B, C, D, E, F, G, clauses, formula}
use Rattle.decimals.proofs.Laws.{decimal_one, decimal_more}
use Rattle.decimals.specs.Decimals.{digit, digits, decimal, signed}
use Rattle.dimacs.specs.Text.{word_text, clause_text, header_text, refusal_text, formula_text}

-- two vertices, one agent, one edge, m 1, rule 1: the nine lines, from "p cnf 4 8" to "-2 4 3 0"
pub pair : formula_text (formula (instance (2 ∷ 1 ∷ 1 ∷ 0 ∷ 0 ∷ 1 ∷ 0 ∷ 1 ∷ []) 1 1))
    ≡ 112 ∷ 32 ∷ 99 ∷ 110 ∷ 102 ∷ 32 ∷ 52 ∷ 32 ∷ 56 ∷ 10 ∷
    49 ∷ 32 ∷ 48 ∷ 10 ∷
    52 ∷ 32 ∷ 48 ∷ 10 ∷
    49 ∷ 32 ∷ 50 ∷ 32 ∷ 48 ∷ 10 ∷
    51 ∷ 32 ∷ 52 ∷ 32 ∷ 48 ∷ 10 ∷
    45 ∷ 49 ∷ 32 ∷ 45 ∷ 50 ∷ 32 ∷ 48 ∷ 10 ∷
    45 ∷ 51 ∷ 32 ∷ 45 ∷ 52 ∷ 32 ∷ 48 ∷ 10 ∷
    45 ∷ 49 ∷ 32 ∷ 51 ∷ 32 ∷ 52 ∷ 32 ∷ 48 ∷ 10 ∷
    45 ∷ 50 ∷ 32 ∷ 52 ∷ 32 ∷ 51 ∷ 32 ∷ 48 ∷ 10 ∷ []
unfolding formula_text header_text clause_text signed decimal digits instance adjacent index A B C D E F G clauses
pair = refl

-- one digit more
more : (x : ℕ) (l : List ℕ) → 10 ≤ x → decimal (x / 10) ≡ l → decimal x ≡ l ++ digit (x % 10) ∷ []
more x l h e = decimal_more x h ∙ ap (λ (k : List ℕ). k ++ digit (x % 10) ∷ []) e

-- "-2147483648 ", the lowest 32-bit number
pub lowest : word_text (neg_ℤ (pos 2147483648)) ≡ 45 ∷ 50 ∷ 49 ∷ 52 ∷ 55 ∷ 52 ∷ 56 ∷ 51 ∷ 54 ∷ 52 ∷ 56 ∷ 32 ∷ []
unfolding word_text signed
lowest =
    ap (λ (l : List ℕ). (45 ∷ l) ++ 32 ∷ [])
    (more 2147483648 _ (lit≤ tt) (more 214748364 _ (lit≤ tt) (more 21474836 _ (lit≤ tt) (more 2147483 _ (lit≤ tt) (more 214748 _ (lit≤ tt) (more 21474 _ (lit≤ tt) (more 2147 _ (lit≤ tt) (more 214 _ (lit≤ tt) (more 21 _ (lit≤ tt) (decimal_one 2 (lit< tt)))))))))))

-- "c refused 10 0"
pub horizon : refusal_text 10 0 ≡ 99 ∷ 32 ∷ 114 ∷ 101 ∷ 102 ∷ 117 ∷ 115 ∷ 101 ∷ 100 ∷ 32 ∷ 49 ∷ 48 ∷ 32 ∷ 48 ∷ 10 ∷ []
unfolding refusal_text decimal digits
horizon = refl
