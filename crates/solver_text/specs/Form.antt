-- The form of a solver's text: what may follow what, what must be there, where the lines stand; and the literals that it gives.
use Rattle.std.specs.Prelude.{List, [], ◌∷◌, Bool, true, false, not, ◌&&◌, ◌||◌, cond, ℕ, suc, ◌+◌, length, get_or, take, leb, eqb, ℤ, pos, neg_ℤ, nat_abs}
use Rattle.lists.specs.Loop.{for, unless, each, any, first, sum}
use Rattle.formula.specs.Variables.{Literal}
use Rattle.valuation.specs.Valuation.{true?}
use Rattle.solver_text.specs.Text.{Kind, skipped, status, values, neither, lines, kind, tokens?, zero?, value}

-- the most bytes that are read
abbrev pub text_most : ℕ
text_most = 524288

-- ---- lines by their kinds
abbrev pub is_status : Kind → Bool
is_status (status s) = true
is_status skipped = false
is_status (values ts) = false
is_status neither = false

abbrev pub is_satisfiable : Kind → Bool
is_satisfiable (status s) = s
is_satisfiable skipped = false
is_satisfiable (values ts) = false
is_satisfiable neither = false

-- it has the token 0
abbrev pub is_closing : Kind → Bool
is_closing (values ts) = any zero? ts
is_closing skipped = false
is_closing (status s) = false
is_closing neither = false

-- an s line; "s SATISFIABLE"; a v line with the token 0
unfoldable pub status? : List ℕ → Bool
status? l = is_status (kind l)

unfoldable pub satisfiable? : List ℕ → Bool
satisfiable? l = is_satisfiable (kind l)

unfoldable pub closing? : List ℕ → Bool
closing? l = is_closing (kind l)

-- ---- the form
-- May a line of this kind stand after the lines before it? A skipped line always; an s line where there is none yet; a v line where no
-- earlier one has the 0, each of its tokens is 0 or a literal, and none follows the 0.
abbrev pub may_follow : ℕ → List (List ℕ) → Kind → Bool
may_follow N before skipped = true
may_follow N before (status s) = not (any status? before)
may_follow N before (values ts) = tokens? N (any closing? before) ts
may_follow N before neither = false

-- an s line is there, and where it is SATISFIABLE, so is the 0
unfoldable pub complete? : List (List ℕ) → Bool
complete? ls = any status? ls && (not (any satisfiable? ls) || any closing? ls)

module _ (text : List ℕ) where
  -- line i, and the offset of its first byte
  abbrev pub line_at : ℕ → List ℕ
  line_at i = get_or (lines text) i []

  unfoldable pub offset : ℕ → ℕ
  offset i = sum i λ j. length (line_at j) + 1

  -- may line i stand where it stands?
  unfoldable pub right_line : ℕ → ℕ → Bool
  right_line N i = may_follow N (take i (lines text)) (kind (line_at i))

  -- the offset of the s line
  unfoldable pub status_place : ℕ
  status_place = offset (first (length (lines text)) λ i. status? (line_at i))

-- ---- the literals
-- those of a line: its tokens but for the 0
abbrev pub literals_on : Kind → List Literal
literals_on (values ts) = each (λ t. unless (zero? t) (value t)) ts
literals_on skipped = []
literals_on (status s) = []
literals_on neither = []

unfoldable pub literals_of : List (List ℕ) → List Literal
literals_of ls = each (λ l. literals_on (kind l)) ls

-- all literals of a text, as they come
abbrev pub given : List ℕ → List Literal
given text = literals_of (lines text)

-- it is of a variable 1 to N
abbrev pub literal? : ℕ → Literal → Bool
literal? N w = leb 1 (nat_abs w) && leb (nat_abs w) N

-- how often a variable is given, as itself or as its negative
unfoldable pub times : ℕ → List Literal → ℕ
times x [] = 0
times x (v ∷ vs) = cond (eqb (nat_abs v) x) 1 0 + times x vs

-- the literals in variable order, as entries
unfoldable pub in_order : ℕ → List Literal → List ℤ
in_order N vs = for N λ i. cond (true? vs (pos (suc i))) (pos (suc i)) (neg_ℤ (pos (suc i))) ∷ []
