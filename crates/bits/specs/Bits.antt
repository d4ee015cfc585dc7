-- Numbers as words of bits.
use Rattle.std.specs.Prelude.{◌≡◌, Bool, cond, ℕ, ◌+◌, ◌/◌, ◌%◌, ◌^◌, ◌<◌, eqb}
use Rattle.lists.specs.Loop.{sum}

-- bit w of x, 0 or 1
unfoldable pub bit : ℕ → ℕ → ℕ
bit x w = x / 2 ^ w % 2

-- bit w of x is set
abbrev pub set? : ℕ → ℕ → Bool
set? x w = eqb (bit x w) 1

-- the word of n bits that has bit w set where a test holds of w
unfoldable pub word : ℕ → (ℕ → Bool) → ℕ
word n test = sum n λ w. cond (test w) (2 ^ w) 0

-- y has those of the lowest n bits set that x has not
pub record Others (n x y : ℕ) : Type 0 where
  pub fits : y < 2 ^ n
  pub exchanged : (w : ℕ) → w < n → bit y w + bit x w ≡ 1
