-- What lines and tokens are, as propositions.
use Rattle.std.specs.Prelude.{◌≡◌, ℕ, ◌≤◌, ℤ, nat_abs}
use mathlib.Core.List.{List, [], ◌∷◌, ◌++◌, Memᴰ}
use Rattle.decimals.specs.Decimals.{signed}

-- parts put together, with a byte s between them
abbrev pub joined : ℕ → List (List ℕ) → List ℕ
joined s [] = []
joined s (p ∷ []) = p
joined s (p ∷ q ∷ ps) = p ++ s ∷ joined s (q ∷ ps)

-- the parts into which each byte s cuts a text: there is one at least, none has an s, and put together with an s between them they are
-- the text
pub record Cut (s : ℕ) (text : List ℕ) (parts : List (List ℕ)) : Type 0 where
  pub some : parts ≡ [] → ⊥
  pub free : (part : List ℕ) → Memᴰ part parts → Memᴰ s part → ⊥
  pub whole : joined s parts ≡ text

-- a token is the decimal text of a number from -N to N, "-" in front where it is negative
abbrev pub DecimalText : ℕ → List ℕ → Type 0
DecimalText N t = (w : ℤ) × (nat_abs w ≤ N) × (t ≡ signed w)
