-- Decimal digits one by one, and how many there are.
use mathlib.Core.Path.{◌≡◌, refl, ◌∙◌, ap}
use mathlib.Core.Logic.{by_cases}
use mathlib.Core.List.{List, [], ◌∷◌, ◌++◌}
use Prim.Native.Nat.{ℕ, zero, suc, ◌+◌, ◌/◌, ◌%◌, ◌^◌, ◌≤◌, ◌<◌}
use native.Mathlib.Nat.{div-lt_iff_lt-mul, pow-suc}
use native.Mathlib.Decide.{dec_lt}
use native.Mathlib.Omega.{arith}
use borrow.Author.Tests.{lt-ltb, le-ltb}
use lib.Dec.{lit<}
use lib.ListN.{length, length-append}
use Rattle.decimals.specs.Decimals.{digit, digits, decimal}

-- what is counted down from makes no difference, where it is large enough
fuel : (p q x : ℕ) → x ≤ p → x ≤ q → digits p x ≡ digits q x
unfolding digits
fuel zero zero x h k = refl
fuel zero (suc q) x h k = rw (lt-ltb x 10 (omega arith))
fuel (suc p) zero x h k = rw (lt-ltb x 10 (omega arith))
fuel (suc p) (suc q) x h k =
    by_cases (dec_lt x 10)
    (λ l. rw (lt-ltb x 10 l))
    (λ d. rw (le-ltb x 10 (omega arith)) (ap (λ (l : List ℕ). l ++ digit (x % 10) ∷ []) (fuel p q (x / 10) (omega arith) (omega arith))))

pub decimal_one : (x : ℕ) → x < 10 → decimal x ≡ digit x ∷ []
unfolding decimal digits
decimal_one zero h = refl
decimal_one (suc x) h = rw (lt-ltb (suc x) 10 h)

pub decimal_more : (x : ℕ) → 10 ≤ x → decimal x ≡ decimal (x / 10) ++ digit (x % 10) ∷ []
unfolding decimal digits
decimal_more zero h = absurd (let z : ⊥ = omega arith in z)
decimal_more (suc x) h =
    rw (le-ltb (suc x) 10 h) (ap (λ (l : List ℕ). l ++ digit (suc x % 10) ∷ []) (fuel x (suc x / 10) (suc x / 10) (omega arith) (omega arith)))

-- one digit more behind those of a tenth
pub length_more : (x : ℕ) → 10 ≤ x → length (decimal x) ≡ length (decimal (x / 10)) + 1
length_more x h = ap length (decimal_more x h) ∙ length-append (decimal (x / 10)) _

-- a number below 10 ^ w has at most w digits
pub length_most : (w x : ℕ) → x < 10 ^ suc w → length (decimal x) ≤ suc w
length_most zero x h = let e = ap length (decimal_one x (rw pow-suc at h)) in omega arith
length_most (suc w) x h =
    by_cases (dec_lt x 10)
    (λ l. let e = ap length (decimal_one x l) in omega arith)
    (λ d.
    let b : x / 10 < 10 ^ suc w = (div-lt_iff_lt-mul (lit< tt)).1 (rw (pow-suc 10 (suc w)) at h) in
    omega (arith, length_more x (omega arith), length_most w (x / 10) b))

pub length_any : (x : ℕ) → x < 2 ^ 64 → length (decimal x) ≤ 20
length_any x h = length_most 19 x (omega arith)
