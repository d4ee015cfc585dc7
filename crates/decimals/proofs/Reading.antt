-- What digits say: a number's digits give the number back, and none of them is a 0 in front.
use mathlib.Core.Path.{◌≡◌, refl, sym, ◌∙◌, ap, ap₂}
use mathlib.Core.Logic.{by_cases}
use mathlib.Core.List.{List, [], ◌∷◌, ◌++◌, append-nil, append_assoc}
use Prim.Native.Nat.{ℕ, zero, suc, ◌+◌, ◌-◌, ◌*◌, ◌/◌, ◌%◌, ◌≤◌, ◌<◌}
use native.Mathlib.Nat.{le_refl}
use native.Mathlib.Decide.{dec_lt}
use native.Mathlib.Omega.{arith}
use borrow.Author.Tests.{lt-ltb, le-ltb}
use lib.Dec.{T, leb}
use lib.ListN.{length, get_or, length-append, get_or-append}
use Rattle.lists.specs.Loop.{all}
use Rattle.lists.proofs.Tests.{leb_iff, and_iff}
use Rattle.lists.proofs.Loops.{all_append, one_all}
use Rattle.decimals.specs.Decimals.{digit, digit?, digits, decimal, read_on}
use Rattle.decimals.proofs.Laws.{decimal_one, decimal_more}

read_append : (x : ℕ) (s t : List ℕ) → read_on x (s ++ t) ≡ read_on (read_on x s) t
read_append x [] t = refl
read_append x (d ∷ s) t = read_append (10 * x + (d - 48)) s t

read_digits : (p x : ℕ) → x ≤ p → read_on 0 (digits p x) ≡ x
unfolding digits
read_digits zero x h = omega arith
read_digits (suc p) x h =
    by_cases (dec_lt x 10)
    (λ l. rw (lt-ltb x 10 l) (omega arith))
    (λ d. rw (le-ltb x 10 (omega arith), read_append 0 (digits p (x / 10)) (digit (x % 10) ∷ []), read_digits p (x / 10) (omega arith)) (omega arith))

-- no digits take anything away
pub read_most : (x : ℕ) (l : List ℕ) → x ≤ read_on x l
read_most x [] = le_refl x
read_most x (d ∷ l) = omega (arith, read_most (10 * x + (d - 48)) l)

-- read back, a number's digits say the number
pub read_decimal : (x : ℕ) → read_on 0 (decimal x) ≡ x
unfolding decimal
read_decimal x = read_digits x x (omega arith)

some_digits : (p x : ℕ) → 0 < length (digits p x)
unfolding digits
some_digits zero x = omega arith
some_digits (suc p) x =
    by_cases (dec_lt x 10)
    (λ l. rw (lt-ltb x 10 l) (omega arith))
    (λ d. rw (le-ltb x 10 (omega arith)) (omega (arith, length-append (digits p (x / 10)) (digit (x % 10) ∷ []))))

front : (p x : ℕ) → 0 < x → x ≤ p → 48 < get_or (digits p x) 0 0
unfolding digits
front zero x k h = omega arith
front (suc p) x k h =
    by_cases (dec_lt x 10)
    (λ l. rw (lt-ltb x 10 l) (omega arith))
    (λ d.
    rw (le-ltb x 10 (omega arith), get_or-append (digits p (x / 10)) (digit (x % 10) ∷ []) 0 0 (some_digits p (x / 10)))
    (front p (x / 10) (omega arith) (omega arith)))

-- no 0 stands in front: the first digit of a number that is not 0 is above "0"
pub no_zero_in_front : (x : ℕ) → 0 < x → 48 < get_or (decimal x) 0 0
unfolding decimal
no_zero_in_front x h = front x x h (omega arith)

one_digit : (d : ℕ) → d < 10 → T (all digit? (digit d ∷ []))
one_digit d h = (one_all digit? (digit d)).1 ((and_iff (leb 48 (48 + d)) _).1 ((leb_iff 48 (48 + d)).1 (omega arith), (leb_iff (48 + d) 57).1 (omega arith)))

only_digits : (p x : ℕ) → x ≤ p → T (all digit? (digits p x))
unfolding digits
only_digits zero x h = one_digit x (omega arith)
only_digits (suc p) x h =
    by_cases (dec_lt x 10)
    (λ l. rw (lt-ltb x 10 l) (one_digit x l))
    (λ d.
    rw (le-ltb x 10 (omega arith))
    ((all_append digit? (digits p (x / 10)) (digit (x % 10) ∷ [])).1 (only_digits p (x / 10) (omega arith), one_digit (x % 10) (omega arith))))

-- each byte of a number's text is a digit
pub decimal_digits : (x : ℕ) → T (all digit? (decimal x))
unfolding decimal
decimal_digits x = only_digits x x (omega arith)

-- ---- the other way round: digits that begin with no 0 are those of the number that they say
one_more : (x d : ℕ) → 1 ≤ x → T (digit? d) → decimal (10 * x + (d - 48)) ≡ decimal x ++ d ∷ []
one_more x d h t =
    let (a, b) = (and_iff (leb 48 d) (leb d 57)).0 t in
    let low = (leb_iff 48 d).0 a in
    let high = (leb_iff d 57).0 b in
    let q : (10 * x + (d - 48)) / 10 ≡ x = omega arith in
    let r : digit ((10 * x + (d - 48)) % 10) ≡ d = omega arith in
    decimal_more (10 * x + (d - 48)) (omega arith) ∙ ap₂ (λ (y : ℕ) (z : ℕ). decimal y ++ z ∷ []) q r

more : (x : ℕ) (t : List ℕ) → 1 ≤ x → T (all digit? t) → decimal (read_on x t) ≡ decimal x ++ t
more x [] h a = sym (append-nil (decimal x))
more x (d ∷ t) h a =
    let (b, c) = (and_iff (digit? d) _).0 a in
    more (10 * x + (d - 48)) t (omega arith) c
    ∙ ap (λ (l : List ℕ). l ++ t) (one_more x d h b)
    ∙ append_assoc (decimal x) (d ∷ []) t

pub decimal_read : (d : ℕ) (t : List ℕ) → T (all digit? (d ∷ t)) → (d ≡ 48 → ⊥) → decimal (read_on 0 (d ∷ t)) ≡ d ∷ t
decimal_read d t a f =
    let (b, c) = (and_iff (digit? d) _).0 a in
    let (l, m) = (and_iff (leb 48 d) (leb d 57)).0 b in
    let low = (leb_iff 48 d).0 l in
    let high = (leb_iff d 57).0 m in
    let e : 10 * 0 + (d - 48) ≡ d - 48 = omega arith in
    let back : digit (d - 48) ≡ d = omega arith in
    ap (λ (x : ℕ). decimal (read_on x t)) e
    ∙ more (d - 48) t (omega (arith, low, f)) c
    ∙ ap (λ (l : List ℕ). l ++ t) (decimal_one (d - 48) (omega arith) ∙ ap (λ (x : ℕ). x ∷ []) back)
