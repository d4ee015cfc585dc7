-- The text that a solver prints, as bytes: lines, tokens, and the kinds of line. A byte is its number in ASCII.
use Rattle.std.specs.Prelude.{List, [], ◌∷◌, ◌++◌, Bool, true, false, not, ◌&&◌, ◌||◌, cond, ℕ, get_or, take, drop, leb, eqb, ℤ, pos, neg_ℤ}
use Rattle.lists.specs.Loop.{when, all}
use Rattle.decimals.specs.Decimals.{digit?, read_on}

-- ---- pieces: what a byte s cuts a text into
-- the bytes before the first s
unfoldable pub ahead : ℕ → List ℕ → List ℕ
ahead s [] = []
ahead s (x ∷ l) = cond (eqb x s) [] (x ∷ ahead s l)

-- wherever an s stands, the bytes after it up to the next s
unfoldable pub behind : ℕ → List ℕ → List (List ℕ)
behind s [] = []
behind s (x ∷ l) = when (eqb x s) (ahead s l ∷ []) ++ behind s l

abbrev pub pieces : ℕ → List ℕ → List (List ℕ)
pieces s l = ahead s l ∷ behind s l

-- Lines end with byte 10, which the last may lack. After a last byte 10 an empty piece is left, which is skipped as an empty line is.
abbrev pub lines : List ℕ → List (List ℕ)
lines text = pieces 10 text

-- the same bytes
abbrev pub same : List ℕ → List ℕ → Bool
same [] [] = true
same [] (y ∷ r) = false
same (x ∷ l) [] = false
same (x ∷ l) (y ∷ r) = eqb x y && same l r

-- ---- tokens
-- digits, the first of them not 0, that say a number of at most N; no digit at all counts as a 0
abbrev pub size? : ℕ → List ℕ → Bool
size? N t = not (eqb (get_or t 0 48) 48) && (all digit? t && leb (read_on 0 t) N)

-- the token "0"
abbrev pub zero? : List ℕ → Bool
zero? t = same t (48 ∷ [])

-- "-" stands in front
abbrev pub negative? : List ℕ → Bool
negative? t = eqb (get_or t 0 0) 45

-- what follows the sign
abbrev pub unsigned : List ℕ → List ℕ
unsigned t = cond (negative? t) (drop 1 t) t

-- 0, or a literal of a variable 1 to N
unfoldable pub token? : ℕ → List ℕ → Bool
token? N t = zero? t || size? N (unsigned t)

-- the number that a token says
unfoldable pub value : List ℕ → ℤ
value t = cond (negative? t) (neg_ℤ (pos (read_on 0 (unsigned t)))) (pos (read_on 0 (unsigned t)))

-- Each token is 0 or a literal, and none follows the 0. `closed` says that the 0 stands before all of them.
abbrev pub tokens? : ℕ → Bool → List (List ℕ) → Bool
tokens? N closed [] = true
tokens? N closed (t ∷ ts) = not closed && (token? N t && tokens? N (zero? t) ts)

-- ---- kinds of line
-- skipped; an s line, SATISFIABLE or not; a v line with its tokens; none of these
pub data Kind : Type 0 where
  skipped : Kind
  status : Bool → Kind
  values : List (List ℕ) → Kind
  neither : Kind

-- "s SATISFIABLE"
abbrev pub satisfiable : List ℕ
satisfiable = 115 ∷ 32 ∷ 83 ∷ 65 ∷ 84 ∷ 73 ∷ 83 ∷ 70 ∷ 73 ∷ 65 ∷ 66 ∷ 76 ∷ 69 ∷ []

-- "s UNSATISFIABLE"
abbrev pub unsatisfiable : List ℕ
unsatisfiable = 115 ∷ 32 ∷ 85 ∷ 78 ∷ 83 ∷ 65 ∷ 84 ∷ 73 ∷ 83 ∷ 70 ∷ 73 ∷ 65 ∷ 66 ∷ 76 ∷ 69 ∷ []

-- "s UNKNOWN"
abbrev pub unknown : List ℕ
unknown = 115 ∷ 32 ∷ 85 ∷ 78 ∷ 75 ∷ 78 ∷ 79 ∷ 87 ∷ 78 ∷ []

-- An empty line, and one that begins with c, is skipped; an s line is one of the three as a whole; a v line begins "v ", and single
-- spaces cut the rest of it into tokens.
unfoldable pub kind : List ℕ → Kind
kind [] = skipped
kind (x ∷ l) =
    cond (eqb x 99) skipped
    (cond (same (x ∷ l) satisfiable) (status true)
    (cond (same (x ∷ l) unsatisfiable || same (x ∷ l) unknown) (status false)
    (cond (same (take 2 (x ∷ l)) (118 ∷ 32 ∷ [])) (values (pieces 32 (drop 2 (x ∷ l)))) neither)))
