-- Words of bits: each bit, how many are set, and that the bits make the word.
use mathlib.Core.Path.{◌≡◌, refl, sym, ◌∙◌, ap, ap₂, subst}
use mathlib.Core.Logic.{◌≢◌, ⊎_elim, by_cases}
use mathlib.Core.List.{[], ◌∷◌}
use mathlib.Core.Bool.{Bool, true, false, not, cond, ◌&&◌, ◌||◌}
use Prim.Native.Nat.{ℕ, zero, suc, ◌+◌, ◌-◌, ◌*◌, ◌/◌, ◌%◌, ◌^◌, ◌≤◌, ◌<◌, min, max}
use native.Mathlib.Nat.{add-zero, add-suc, add_comm, one-mul, zero-mul, div_self, div-eq_of_lt, div-one, pow-suc, mul-div_cancel_left, mod-eq_of_lt, eq-or-lt_of_le, le_of_suc-le-suc, not-suc-le-zero}
use native.Mathlib.Numerals.{one-add, add-one}
use native.Mathlib.Decide.{dec_lt, ℕ_discrete}
use native.Mathlib.Omega.{arith}
use borrow.Author.Tests.{eqb-false, eq-eqb, ne_eqb, le-leb, lt-leb, lt-ltb, le-ltb}
use lib.Bits.{bit_and, bit_or, bit_xor, and_shr, and_step, or_shr, or_step, or_shifted, xor_shr, xor_step, xor_lt, differ}
use lib.Count.{ones, ones_cat}
use lib.Dec.{leb, ltb, eqb}
use lib.ListN.{length}
use lib.Pow.{pow_pos, pow-lt, pow-add, pow_mono, shr-shr}
use Rattle.lists.specs.Loop.{for, when, sum}
use Rattle.lists.proofs.Tests.{and_true, and_false}
use Rattle.lists.proofs.Sums.{ind, when_count}
use Rattle.bits.specs.Bits.{bit, set?, word, Others}

bit_most : (x w : ℕ) → bit x w ≤ 1
unfolding bit
bit_most x w = omega arith

-- ---- the bits of a number, of an `or` and of a power
pub bit_first : (x : ℕ) → bit x 0 ≡ x % 2
unfolding bit
bit_first x = ap (λ (q : ℕ). q % 2) (div-one x)

pub bit_half : (x w : ℕ) → bit x (suc w) ≡ bit (x / 2) w
unfolding bit
bit_half x w = ap (λ (q : ℕ). q % 2) (ap (λ (k : ℕ). x / 2 ^ k) (sym (one-add w)) ∙ sym (shr-shr x 1 w))

pub bit_beyond : (x n w : ℕ) → x < 2 ^ n → n ≤ w → bit x w ≡ 0
unfolding bit
bit_beyond x n w h l = let q : x < 2 ^ w = omega (arith, pow_mono l) in rw (div-eq_of_lt q) refl

pub bit_zero : (w : ℕ) → bit 0 w ≡ 0
bit_zero w = bit_beyond 0 0 w (omega arith) (omega arith)

bit_or_lem : (a b w : ℕ) → bit (bit_or a b) w ≡ max (bit a w) (bit b w)
unfolding bit
bit_or_lem a b w = rw (or_shr, or_step) (omega arith)

bit_pow_same : (w : ℕ) → bit (2 ^ w) w ≡ 1
unfolding bit
bit_pow_same w = rw (div_self (pow_pos w))

bit_pow_below : (u d : ℕ) → bit (2 ^ (u + suc d)) u ≡ 0
unfolding bit
bit_pow_below u d = rw (pow-add 2 u (suc d), mul-div_cancel_left (2 ^ suc d) (pow_pos u), pow-suc) (omega arith)

bit_pow_other : (w u : ℕ) → u ≢ w → bit (2 ^ w) u ≡ 0
unfolding bit
bit_pow_other w u n = go (dec_lt w u)
  where
    go : Dec (w < u) → bit (2 ^ w) u ≡ 0
    go (yes h) = rw (div-eq_of_lt (pow-lt h))
    go (no h) =
        let e : u + suc (w - suc u) ≡ w = omega arith in
        rw e at (bit_pow_below u (w - suc u))

-- what holds of two bits
two_bits : (P : ℕ → ℕ → Type 0) → P 0 0 → P 0 1 → P 1 0 → P 1 1 → (a b : ℕ) → a ≤ 1 → b ≤ 1 → P a b
two_bits P p q r s zero zero h l = p
two_bits P p q r s zero (suc zero) h l = q
two_bits P p q r s (suc zero) zero h l = r
two_bits P p q r s (suc zero) (suc zero) h l = s
two_bits P p q r s zero (suc (suc b)) h l = absurd (let f : ⊥ = omega arith in f)
two_bits P p q r s (suc zero) (suc (suc b)) h l = absurd (let f : ⊥ = omega arith in f)
two_bits P p q r s (suc (suc a)) b h l = absurd (let f : ⊥ = omega arith in f)

-- the same as tests
one_or : (a b : ℕ) → a ≤ 1 → b ≤ 1 → eqb (max a b) 1 ≡ eqb a 1 || eqb b 1
one_or = two_bits (λ a b. eqb (max a b) 1 ≡ eqb a 1 || eqb b 1) refl refl refl refl

pub set_or : (a b w : ℕ) → set? (bit_or a b) w ≡ set? a w || set? b w
set_or a b w = rw bit_or_lem (one_or (bit a w) (bit b w) (bit_most a w) (bit_most b w))

pub set_pow : (w u : ℕ) → set? (2 ^ w) u ≡ eqb w u
set_pow w u =
    by_cases (ℕ_discrete u w)
    (λ e. rw (e, bit_pow_same w, eq-eqb w w refl) refl)
    (λ d. rw (bit_pow_other w u d, ne_eqb w u (λ e. d (sym e))) refl)

pub unset_bit : (x w : ℕ) → set? x w ≡ false → bit x w ≡ 0
unset_bit x w e = let d = eqb-false (bit x w) 1 e in omega (arith, bit_most x w, d)

-- what a shift of 1 gives
pub shifted : (w : ℕ) → w < 64 → 1 * 2 ^ w % 2 ^ 64 ≡ 2 ^ w
shifted w h = rw (one-mul, mod-eq_of_lt (pow-lt h))

-- ---- a test as a word
ind_set : (b : Bool) → eqb (ind b) 1 ≡ b
ind_set true = refl
ind_set false = refl

ones_ind : (b : Bool) → ones (ind b) ≡ ind b
unfolding ones
ones_ind true = refl
ones_ind false = refl

top : (b : Bool) (p : ℕ) → cond b p 0 ≡ ind b * p
top true p = sym (one-mul p)
top false p = sym (zero-mul p)

top_most : (b : Bool) (p : ℕ) → cond b p 0 ≤ p
top_most true p = omega arith
top_most false p = omega arith

pub word_lt : (n : ℕ) (p : ℕ → Bool) → word n p < 2 ^ n
unfolding word
word_lt zero p = omega arith
word_lt (suc n) p = omega (arith, word_lt n p, pow-suc 2 n, top_most (p n) (2 ^ n))

word_split : (n : ℕ) (p : ℕ → Bool) → word (suc n) p ≡ ind (p n) * 2 ^ n + word n p
unfolding word
word_split n p = add_comm (word n p) (cond (p n) (2 ^ n) 0) ∙ ap (λ (x : ℕ). x + word n p) (top (p n) (2 ^ n))

-- how many bits are set
word_ones : (n : ℕ) (p : ℕ → Bool) → ones (word n p) ≡ sum n (λ w. ind (p w))
unfolding word
word_ones zero p = ones_ind false
word_ones (suc n) p =
    ap ones (word_split n p)
    ∙ ones_cat n (ind (p n)) (word n p) (word_lt n p)
    ∙ ap₂ ◌+◌ (ones_ind (p n)) (word_ones n p)
    ∙ add_comm (ind (p n)) (sum n (λ w. ind (p w)))

-- each bit
bit_top : (b : Bool) (n w : ℕ) → w < n → bit (cond b (2 ^ n) 0) w ≡ 0
bit_top true n w h = bit_pow_other n w (omega arith)
bit_top false n w h = bit_zero w

bit_top_same : (b : Bool) (n : ℕ) → bit (cond b (2 ^ n) 0) n ≡ ind b
bit_top_same true n = bit_pow_same n
bit_top_same false n = bit_zero n

word_or : (n : ℕ) (p : ℕ → Bool) → word (suc n) p ≡ bit_or (cond (p n) (2 ^ n) 0) (word n p)
word_or n p =
    word_split n p
    ∙ sym (or_shifted (ind (p n)) n (word n p) (word_lt n p))
    ∙ ap (λ (x : ℕ). bit_or x (word n p)) (sym (top (p n) (2 ^ n)))

bit_word : (n : ℕ) (p : ℕ → Bool) (w : ℕ) → w < n → bit (word n p) w ≡ ind (p w)
bit_word zero p w h = absurd (not-suc-le-zero h)
bit_word (suc n) p w h =
    rw (word_or n p, bit_or_lem)
    (⊎_elim
    (λ q. rw (q, bit_top_same (p n) n, bit_beyond (word n p) n n (word_lt n p) (omega arith)) (omega arith))
    (λ l. rw (bit_top (p n) n w l, bit_word n p w l) (omega arith))
    (eq-or-lt_of_le (le_of_suc-le-suc h)))

pub word_set : (n : ℕ) (p : ℕ → Bool) (w : ℕ) → w < n → set? (word n p) w ≡ p w
word_set n p w h = ap (λ (x : ℕ). eqb x 1) (bit_word n p w h) ∙ ind_set (p w)

-- ---- numbers with the same bits are the same
same_below : (k x y : ℕ) → x < 2 ^ k → y < 2 ^ k → ((w : ℕ) → w < k → bit x w ≡ bit y w) → x ≡ y
same_below zero x y h l f = omega arith
same_below (suc k) x y h l f =
    let p = same_below k (x / 2) (y / 2) (omega (arith, pow-suc 2 k)) (omega (arith, pow-suc 2 k)) (λ w q. sym (bit_half x w) ∙ f (suc w) (omega arith) ∙ bit_half y w) in
    let q = f 0 (omega arith) in
    omega (arith, bit_first x, bit_first y)

below_pow : (x : ℕ) → x < 2 ^ x
below_pow zero = omega arith
below_pow (suc x) = omega (arith, below_pow x, pow-suc 2 x)

same_bits : (x y : ℕ) → ((w : ℕ) → bit x w ≡ bit y w) → x ≡ y
same_bits x y f =
    let p : 2 ^ x ≤ 2 ^ (x + y) = pow_mono (omega arith) in
    let q : 2 ^ y ≤ 2 ^ (x + y) = pow_mono (omega arith) in
    same_below (x + y) x y (omega (arith, below_pow x)) (omega (arith, below_pow y)) (λ w l. f w)

-- a word is that of its bits, and its ones are counted by them
ind_bit : (x w : ℕ) → ind (set? x w) ≡ bit x w
ind_bit x w = go (bit x w) (bit_most x w)
  where
    go : (b : ℕ) → b ≤ 1 → ind (eqb b 1) ≡ b
    go zero h = refl
    go (suc zero) h = refl
    go (suc (suc b)) h = absurd (let f : ⊥ = omega arith in f)

pub same_set : (x y : ℕ) → ((w : ℕ) → set? x w ≡ set? y w) → x ≡ y
same_set x y f = same_bits x y (λ w. sym (ind_bit x w) ∙ ap ind (f w) ∙ ind_bit y w)

word_of : (n x : ℕ) → x < 2 ^ n → word n (set? x) ≡ x
word_of n x h =
    same_bits _ x (λ w.
    by_cases (dec_lt w n)
    (λ l. bit_word n (set? x) w l ∙ ind_bit x w)
    (λ l. bit_beyond (word n (set? x)) n w (word_lt n (set? x)) (omega arith) ∙ sym (bit_beyond x n w h (omega arith))))

pub ones_count : {L : Type 0} (n x : ℕ) (f : ℕ → L) → x < 2 ^ n → length (for n λ w. when (set? x w) (f w ∷ [])) ≡ ones x
ones_count n x f h = when_count n (set? x) f ∙ sym (word_ones n (set? x)) ∙ ap ones (word_of n x h)

-- ---- the bits from one on
below_from : (from m : ℕ) → m ≤ from → word m (leb from) ≡ 0
unfolding word
below_from from zero h = refl
below_from from (suc m) h = rw (below_from from m (omega arith), lt-leb from m (omega arith))

word_from : (from d : ℕ) → word (from + d) (leb from) + 2 ^ from ≡ 2 ^ (from + d)
unfolding word
word_from from zero = rw (add-zero, below_from from from (omega arith)) (omega arith)
word_from from (suc d) =
    rw (add-suc, le-leb from (from + d) (omega arith), pow-suc) (omega (arith, word_from from d))

pub word_between : (from to : ℕ) → from ≤ to → word to (leb from) + 2 ^ from ≡ 2 ^ to
word_between from to h =
    let e : from + (to - from) ≡ to = omega arith in
    subst (λ (x : ℕ). word x (leb from) + 2 ^ from ≡ 2 ^ x) e (word_from from (to - from))

pub set_between : (from to w : ℕ) → set? (word to (leb from)) w ≡ leb from w && ltb w to
set_between from to w =
    by_cases (dec_lt w to)
    (λ l. rw (lt-ltb w to l, and_true) (word_set to (leb from) w l))
    (λ l. rw (le-ltb w to (omega arith), and_false, bit_beyond (word to (leb from)) to w (word_lt to (leb from)) (omega arith)) refl)

-- ---- the other bits
full_bit : (x n w : ℕ) → x + 1 ≡ 2 ^ n → w < n → bit x w ≡ 1
full_bit x n w e l =
    let q : word n (leb 0) ≡ x = omega (arith, word_between 0 n (omega arith), e) in
    subst (λ (y : ℕ). bit y w ≡ 1) q (bit_word n (leb 0) w l ∙ ap ind (le-leb 0 w (omega arith)))

one_differs : (b : ℕ) → b ≤ 1 → differ 1 b + b ≡ 1
one_differs zero h = refl
one_differs (suc zero) h = refl
one_differs (suc (suc b)) h = absurd (let f : ⊥ = omega arith in f)

xor_bit : (a b : ℕ) → a % 2 ≡ 1 → bit_xor a b % 2 + b % 2 ≡ 1
xor_bit a b e =
    let q = one_differs (b % 2) (omega arith) in
    let z : (bit_xor (a / 2) (b / 2) * 2 + differ 1 (b % 2)) % 2 + b % 2 ≡ 1 = omega arith in
    rw (xor_step a b, e) z

pub other_bits : (n x full : ℕ) → full + 1 ≡ 2 ^ n → x < 2 ^ n → Others n x (bit_xor full x)
unfolding bit
other_bits n x full e h =
    record {
      fits = xor_lt n full x (omega arith) h;
      exchanged = λ w l. rw xor_shr (xor_bit (full / 2 ^ w) (x / 2 ^ w) (full_bit full n w e l));
    }

-- ---- the bits that another word has not
bit_xor_lem : (a b w : ℕ) → bit (bit_xor a b) w ≡ differ (bit a w) (bit b w)
unfolding bit
bit_xor_lem a b w = rw (xor_shr, xor_step) (low _ _ (one (bit a w) (bit b w) (bit_most a w) (bit_most b w)))
  where
    low : (x d : ℕ) → d ≤ 1 → (x * 2 + d) % 2 ≡ d
    low x d h = omega arith

    one : (a b : ℕ) → a ≤ 1 → b ≤ 1 → differ a b ≤ 1
    one = two_bits (λ a b. differ a b ≤ 1) (omega arith) (omega arith) (omega arith) (omega arith)

pub set_without : (x y w : ℕ) → set? (bit_xor (bit_or x y) y) w ≡ set? x w && not (set? y w)
set_without x y w =
    rw (bit_xor_lem, bit_or_lem)
    (two_bits (λ a b. eqb (differ (max a b) b) 1 ≡ eqb a 1 && not (eqb b 1)) refl refl refl refl (bit x w) (bit y w) (bit_most x w) (bit_most y w))

-- ---- the bits above one
bit_and_lem : (a b w : ℕ) → bit (bit_and a b) w ≡ min (bit a w) (bit b w)
unfolding bit
bit_and_lem a b w = rw (and_shr, and_step) (omega arith)

set_and : (a b w : ℕ) → set? (bit_and a b) w ≡ set? a w && set? b w
set_and a b w =
    rw bit_and_lem (two_bits (λ a b. eqb (min a b) 1 ≡ eqb a 1 && eqb b 1) refl refl refl refl (bit a w) (bit b w) (bit_most a w) (bit_most b w))

pub set_above : (x u w : ℕ) → x < 2 ^ 64 → set? (bit_and (word 64 (leb (u + 1))) x) w ≡ ltb u w && set? x w
set_above x u w h =
    set_and (word 64 (leb (u + 1))) x w
    ∙ by_cases (dec_lt w 64)
    (λ l. rw (word_set 64 (leb (u + 1)) w l, add-one) refl)
    (λ l. rw (bit_beyond x 64 w h (omega arith), and_false, and_false) refl)
