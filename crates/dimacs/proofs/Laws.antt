-- A number that is written digit by digit, and the text of words.
use mathlib.Core.Path.{◌≡◌, refl, sym, ◌∙◌, ap}
use mathlib.Core.List.{List, [], ◌∷◌}
use Prim.Native.Nat.{ℕ, zero, suc, ◌+◌, ◌/◌, ◌%◌, ◌^◌, ◌≤◌, ◌<◌}
use native.Mathlib.Omega.{arith}
use lib.IntN.{pos}
use lib.ListN.{length, set, length-append}
use Rattle.lists.specs.Slice.{filled, Wrote}
use Rattle.lists.proofs.Slices.{filled_set}
use Rattle.decimals.specs.Decimals.{digit, decimal, signed}
use Rattle.decimals.proofs.Laws.{decimal_more, length_more, length_most, length_any}
use Rattle.dimacs.specs.Text.{ended, after, word_text}

-- ---- numbers
pub put_more : (x r : ℕ) (f l : List ℕ) → 10 ≤ x → r ≡ length (decimal (x / 10)) → length (decimal x) ≤ length l → f ≡ filled (decimal (x / 10)) l
    → Wrote (decimal x) l (set f r (digit (x % 10))) (r + 1)
put_more x r f l h er hr ef =
    let n = length_more x h in (
      omega arith,
      ap (λ (g : List ℕ). set g r (digit (x % 10))) ef
          ∙ filled_set (decimal (x / 10)) l r (digit (x % 10)) 0 (sym er) (omega arith)
          ∙ ap (λ (ds : List ℕ). filled ds l) (sym (decimal_more x h)),
    )

-- one byte behind a number
pub put_after : (x b r : ℕ) (f l : List ℕ) → r ≡ length (decimal x) → length (decimal x) < length l → f ≡ filled (decimal x) l
    → x < 2 ^ 64 → Wrote (ended x b) l (set f r b) (r + 1) × (r + 1 ≤ 21)
put_after x b r f l er h ef k = (
  (rw (length-append, er), ap (λ (g : List ℕ). set g r b) ef ∙ filled_set (decimal x) l r b 0 (sym er) (omega arith)),
  omega (arith, length_any x k),
)

-- ---- words
pub word_size : (x : ℕ) → word_text (pos x) ≡ ended x (after (pos x))
unfolding word_text signed
word_size x = refl

pub length_word : (w x : ℕ) → x < 10 ^ suc w → length (word_text (pos x)) ≤ suc (suc w)
length_word w x h = omega (arith, ap length (word_size x), length-append (decimal x) (after (pos x) ∷ []), length_most w x h)

pub end_space : (x : ℕ) → (x ≡ 0 → ⊥) → 32 ≡ after (pos x)
end_space zero d = absurd (d refl)
end_space (suc x) d = refl
