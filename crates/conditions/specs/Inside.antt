-- What the conditions require of the bytes they are asked of.
use Rattle.std.specs.Prelude.{◌≡◌, List, not, ℕ, ◌<◌, length, get_or, eqb}
use Rattle.lists.specs.Loop.{every}
use Rattle.bits.specs.Bits.{set?}
use Rattle.plan.specs.Plan.{Row}

-- every byte is below 64: there is a word for it, and a bit in each word
abbrev pub Inside : List ℕ → Type 0
Inside bytes = (i : ℕ) → i < length bytes → get_or bytes i 0 < 64

-- the word has not the bit of a vertex exactly where none of the first `count` agents stands on it
abbrev pub Standing : Row → ℕ → ℕ → Type 0
Standing here count word = (v : ℕ) → not (set? word v) ≡ every count λ b. not (eqb (here b) v)
