-- The bits of a word one after another, the lowest first: a slice is filled by what each stands for.
use mathlib.Core.Path.{◌≡◌, refl, sym, ◌∙◌, ap, subst}
use mathlib.Core.Logic.{by_cases}
use mathlib.Core.Bool.{true, false}
use mathlib.Core.List.{List, [], ◌++◌, append-nil}
use Prim.Native.Nat.{ℕ, zero, suc, ◌+◌, ◌-◌, ◌*◌, ◌/◌, ◌%◌, ◌^◌, ◌≤◌, ◌<◌}
use native.Mathlib.Nat.{pow-suc, not-suc-le-zero}
use native.Mathlib.Decide.{dec_lt}
use native.Mathlib.Omega.{arith}
use lib.Bits.{bit_and, and_step, and_self, and_le_l}
use lib.Count.{count_trailing_zeros, under}
use lib.Pow.{pow_mono}
use Rattle.lists.specs.Loop.{for}
use Rattle.lists.proofs.Loops.{for_split, for_nil}
use Rattle.lists.proofs.Slices.{Filling}
use Rattle.bits.specs.Bits.{bit, set?, Others}
use Rattle.bits.proofs.Bits.{bit_beyond, bit_half, bit_first, bit_zero}

-- ---- the lowest bit
pub tz_below : (d x u : ℕ) → u < count_trailing_zeros d x → bit x u ≡ 0
unfolding count_trailing_zeros
tz_below zero x u h = absurd (not-suc-le-zero h)
tz_below (suc d) x u h = go (x % 2) refl u h (tz_below d (x / 2))
  where
    go : (r : ℕ) → x % 2 ≡ r → (u : ℕ) → u < under r (count_trailing_zeros d (x / 2)) → ((u : ℕ) → u < count_trailing_zeros d (x / 2) → bit (x / 2) u ≡ 0) → bit x u ≡ 0
    go zero e zero l more = bit_first x ∙ e
    go zero e (suc u) l more = bit_half x u ∙ more u (omega arith)
    go (suc r) e u l more = absurd (not-suc-le-zero l)

tz_set : (d x : ℕ) → 0 < x → x < 2 ^ d → bit x (count_trailing_zeros d x) ≡ 1
unfolding count_trailing_zeros
tz_set zero x h l = absurd (let f : ⊥ = omega arith in f)
tz_set (suc d) x h l = go (x % 2) refl (λ p. tz_set d (x / 2) p (omega (arith, pow-suc 2 d)))
  where
    go : (r : ℕ) → x % 2 ≡ r → (0 < x / 2 → bit (x / 2) (count_trailing_zeros d (x / 2)) ≡ 1) → bit x (under r (count_trailing_zeros d (x / 2))) ≡ 1
    go zero e more = bit_half x (count_trailing_zeros d (x / 2)) ∙ more (omega arith)
    go (suc r) e more = omega (arith, bit_first x)

-- ---- the word without its lowest bit
clear_odd : (x : ℕ) → x % 2 ≡ 1 → bit_and x (x - 1) ≡ x / 2 * 2
clear_odd x o =
    let p : (x - 1) / 2 ≡ x / 2 = omega arith in
    let q : (x - 1) % 2 ≡ 0 = omega arith in
    and_step x (x - 1) ∙ rw (p, q, o, and_self) (omega arith)

clear_even : (x : ℕ) → 0 < x → x % 2 ≡ 0 → bit_and x (x - 1) ≡ bit_and (x / 2) (x / 2 - 1) * 2
clear_even x h o =
    let p : (x - 1) / 2 ≡ x / 2 - 1 = omega arith in
    let q : (x - 1) % 2 ≡ 1 = omega arith in
    and_step x (x - 1) ∙ rw (p, q, o) (omega arith)

double_half : (x : ℕ) → x * 2 / 2 ≡ x
double_half x = omega arith

bit_double : (x u : ℕ) → bit (x * 2) (suc u) ≡ bit x u
bit_double x u = bit_half (x * 2) u ∙ ap (λ (y : ℕ). bit y u) (double_half x)

bit_even : (x : ℕ) → bit (x * 2) 0 ≡ 0
bit_even x = bit_first (x * 2) ∙ (let h : x * 2 % 2 ≡ 0 = omega arith in h)

-- up to the lowest bit there is none left, beyond it nothing changes
clear_upto : (d x u : ℕ) → 0 < x → x < 2 ^ d → u ≤ count_trailing_zeros d x → bit (bit_and x (x - 1)) u ≡ 0
unfolding count_trailing_zeros
clear_upto zero x u p h l = absurd (let f : ⊥ = omega arith in f)
clear_upto (suc d) x u p h l = go (x % 2) refl u l (λ u q. clear_upto d (x / 2) u q (omega (arith, pow-suc 2 d)))
  where
    go : (r : ℕ) → x % 2 ≡ r → (u : ℕ) → u ≤ under r (count_trailing_zeros d (x / 2))
        → ((u : ℕ) → 0 < x / 2 → u ≤ count_trailing_zeros d (x / 2) → bit (bit_and (x / 2) (x / 2 - 1)) u ≡ 0) → bit (bit_and x (x - 1)) u ≡ 0
    go zero e zero l more = ap (λ (y : ℕ). bit y 0) (clear_even x p e) ∙ bit_even _
    go zero e (suc u) l more = ap (λ (y : ℕ). bit y (suc u)) (clear_even x p e) ∙ bit_double _ u ∙ more u (omega arith) (omega arith)
    go (suc r) e zero l more = ap (λ (y : ℕ). bit y 0) (clear_odd x (omega arith)) ∙ bit_even _
    go (suc r) e (suc u) l more = absurd (not-suc-le-zero l)

clear_beyond : (d x u : ℕ) → 0 < x → x < 2 ^ d → count_trailing_zeros d x < u → bit (bit_and x (x - 1)) u ≡ bit x u
unfolding count_trailing_zeros
clear_beyond zero x u p h l = absurd (let f : ⊥ = omega arith in f)
clear_beyond (suc d) x u p h l = go (x % 2) refl u l (λ u q. clear_beyond d (x / 2) u q (omega (arith, pow-suc 2 d)))
  where
    go : (r : ℕ) → x % 2 ≡ r → (u : ℕ) → under r (count_trailing_zeros d (x / 2)) < u
        → ((u : ℕ) → 0 < x / 2 → count_trailing_zeros d (x / 2) < u → bit (bit_and (x / 2) (x / 2 - 1)) u ≡ bit (x / 2) u) → bit (bit_and x (x - 1)) u ≡ bit x u
    go zero e zero l more = absurd (not-suc-le-zero l)
    go zero e (suc u) l more = ap (λ (y : ℕ). bit y (suc u)) (clear_even x p e) ∙ bit_double _ u ∙ more u (omega arith) (omega arith) ∙ sym (bit_half x u)
    go (suc r) e zero l more = absurd (not-suc-le-zero l)
    go (suc r) e (suc u) l more = ap (λ (y : ℕ). bit y (suc u)) (clear_odd x (omega arith)) ∙ bit_double _ u ∙ sym (bit_half x u)

-- ---- turns that write nothing may be left out
module _ {A : Type 0} (g : ℕ → List A) where
  pub skip_for : (i d : ℕ) → ((u : ℕ) → i ≤ u → u < i + d → g u ≡ []) → for (i + d) g ≡ for i g
  skip_for i d f =
      for_split i d g
      ∙ ap (λ (l : List A). for i g ++ l) ((for_nil d (λ u. g (i + u))).1 (λ u l. f (i + u) (omega arith) (omega arith)))
      ∙ append-nil (for i g)

module _ {A : Type 0} (g : ℕ → List A) {n : ℕ} {s : List A} where
  pub filling_skip : {i at : ℕ} {f : List A} (d : ℕ) → Filling g n s i at f → i + d ≤ n → ((u : ℕ) → i ≤ u → u < i + d → g u ≡ []) → Filling g n s (i + d) at f
  filling_skip {i} d w l e =
      record {
        within = l;
        room = w.room;
        fits = w.fits;
        same = w.same;
        here = rw (skip_for g i d e) w.here;
        slice = rw (skip_for g i d e) w.slice;
      }

-- ---- one turn over a word: `rest` has its bits from `from` on
pub record Left (x rest from : ℕ) : Type 0 where
  pub fits : rest < 2 ^ 64
  pub below : (u : ℕ) → u < from → bit rest u ≡ 0
  pub above : (u : ℕ) → from ≤ u → bit rest u ≡ bit x u

pub left_all : (x : ℕ) → x < 2 ^ 64 → Left x x 0
left_all x h = record { fits = h; below = λ u l. absurd (not-suc-le-zero l); above = λ u l. refl }

module _ (n x : ℕ) (h : x < 2 ^ n) (rest from : ℕ) (e : Left x rest from) (p : 0 < rest) where
  abbrev low : ℕ
  low = count_trailing_zeros 64 rest

  pub low_past : from ≤ count_trailing_zeros 64 rest
  low_past =
      by_cases (dec_lt low from)
      (λ l. absurd (let z : ⊥ = omega (arith, tz_set 64 rest p e.fits, e.below low l) in z))
      (λ l. omega arith)

  pub low_set : bit x (count_trailing_zeros 64 rest) ≡ 1
  low_set = sym (e.above low low_past) ∙ tz_set 64 rest p e.fits

  pub low_below : count_trailing_zeros 64 rest < n
  low_below = by_cases (dec_lt low n) (λ l. l) (λ l. absurd (let z : ⊥ = omega (arith, low_set, bit_beyond x n low h (omega arith)) in z))

  pub low_first : (u : ℕ) → from ≤ u → u < count_trailing_zeros 64 rest → bit x u ≡ 0
  low_first u a l = sym (e.above u a) ∙ tz_below 64 rest u l

  pub left_next : Left x (bit_and rest (rest - 1)) (count_trailing_zeros 64 rest + 1)
  left_next =
      record {
        fits = omega (arith, and_le_l rest (rest - 1), e.fits);
        below = λ u l. clear_upto 64 rest u p e.fits (omega arith);
        above = λ u l. clear_beyond 64 rest u p e.fits (omega arith) ∙ e.above u (omega (arith, low_past));
      }

-- a loop whose turn u writes g u, which is nothing where bit u is not set
module _ {A : Type 0} {g : ℕ → List A} (n x : ℕ) (unset : (u : ℕ) → bit x u ≡ 0 → g u ≡ [])
    {rest from at : ℕ} {s l : List A} (w : Filling g n s from at l) (e : Left x rest from) where
  filling_to : (i : ℕ) → from ≤ i → i ≤ n → ((u : ℕ) → from ≤ u → u < i → bit x u ≡ 0) → Filling g n s i at l
  filling_to i a b f =
      let k : from + (i - from) ≡ i = omega arith in
      subst (λ (j : ℕ). Filling g n s j at l) k (filling_skip g (i - from) w (omega arith) (λ u c d. unset u (f u c (omega arith))))

  -- the next turn is that of the lowest bit left
  pub filling_low : x < 2 ^ n → 0 < rest → Filling g n s (count_trailing_zeros 64 rest) at l
  filling_low h p =
      filling_to (count_trailing_zeros 64 rest) (low_past n x h rest from e p) (omega (arith, low_below n x h rest from e p)) (low_first n x h rest from e p)

  -- nothing is left
  pub filling_end : rest ≡ 0 → Filling g n s n at l
  filling_end q = filling_to n w.within (omega arith) (λ u a b. sym (e.above u a) ∙ ap (λ (r : ℕ). bit r u) q ∙ bit_zero u)

-- ---- one turn over the bits that are not set: `gaps` has those of the other bits y of x from `from` on
module _ {n x y : ℕ} (o : Others n x y) where
  pub all_left : n ≤ 64 → Left y y 0
  all_left h = left_all y (omega (arith, o.fits, pow_mono h))

  -- a bit that `gaps` has not is set
  pub other_set : {gaps from : ℕ} → Left y gaps from → (u : ℕ) → from ≤ u → u < n → bit gaps u ≡ 0 → set? x u ≡ true
  other_set e u h l z = let q : bit x u ≡ 1 = omega (arith, o.exchanged u l, e.above u h) in rw q

  module _ {gaps from : ℕ} (e : Left y gaps from) (p : 0 < gaps) where
    pub gap_past : from ≤ count_trailing_zeros 64 gaps
    gap_past = low_past n y o.fits gaps from e p

    pub gap_below : count_trailing_zeros 64 gaps < n
    gap_below = low_below n y o.fits gaps from e p

    pub gap_unset : set? x (count_trailing_zeros 64 gaps) ≡ false
    gap_unset =
        let q : bit x (count_trailing_zeros 64 gaps) ≡ 0 = omega (arith, o.exchanged (count_trailing_zeros 64 gaps) gap_below, low_set n y o.fits gaps from e p) in
        rw q

    pub gaps_next : Left y (bit_and gaps (gaps - 1)) (count_trailing_zeros 64 gaps + 1)
    gaps_next = left_next n y o.fits gaps from e p
