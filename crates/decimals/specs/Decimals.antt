-- Numbers in decimal digits, as bytes: a byte is its number in ASCII.
use Rattle.std.specs.Prelude.{Bool, cond, ◌&&◌, List, [], ◌∷◌, ◌++◌, ℕ, zero, suc, ◌+◌, ◌*◌, ◌-◌, ◌/◌, ◌%◌, leb, ltb, ℤ, pos, negsuc}

-- the digit d, below 10: 0 is byte 48
abbrev pub digit : ℕ → ℕ
digit d = 48 + d

-- a byte is one of "0" to "9"
abbrev pub digit? : ℕ → Bool
digit? d = leb 48 d && leb d 57

-- The decimal digits of x: below 10 it is one digit, from 10 on those of x / 10 and then that of x % 10.
-- The recursion is counted down from x, which has at most x digits after its first.
unfoldable pub digits : ℕ → ℕ → List ℕ
digits zero x = digit x ∷ []
digits (suc more) x = cond (ltb x 10) (digit x ∷ []) (digits more (x / 10) ++ digit (x % 10) ∷ [])

unfoldable pub decimal : ℕ → List ℕ
decimal x = digits x x

-- with "-" in front where it is negative
unfoldable pub signed : ℤ → List ℕ
signed (pos x) = decimal x
signed (negsuc x) = 45 ∷ decimal (suc x)

-- The number that digits say, read from the first to the last, after those that say x.
abbrev pub read_on : ℕ → List ℕ → ℕ
read_on x [] = x
read_on x (d ∷ l) = read_on (10 * x + (d - 48)) l
