-- The pairs v < w of numbers below n: how many begin below v, and where each stands in a list that goes by them.
use mathlib.Core.Path.{◌≡◌, refl, sym, ◌∙◌, ap, ap₂}
use mathlib.Core.Logic.{◌↔◌, ⊎_elim, by_cases}
use mathlib.Core.List.{List, [], ◌∷◌, ◌++◌, append-nil}
use mathlib.Core.Bool.{Bool, true, false}
use Prim.Native.Nat.{ℕ, zero, suc, ◌+◌, ◌*◌, ◌-◌, ◌/◌, ◌≤◌, ◌<◌}
use native.Mathlib.Nat.{suc-mul, mul-suc, zero-mul, mul-le-mul, le_refl, eq-or-lt_of_le}
use native.Mathlib.Decide.{dec_lt}
use native.Mathlib.Omega.{arith}
use borrow.Author.Tests.{lt-ltb, le-ltb}
use lib.ListN.{length, get_or}
use lib.Dec.{ltb}
use Rattle.lists.specs.Loop.{for, when, each, sum, pairs}
use Rattle.lists.specs.Pairs.{pair_list, pairs_below}
use Rattle.lists.proofs.Loops.{for_length, for_ext, for_split, for_nil, for_above, each_for, each_when}
use Rattle.lists.proofs.Blocks.{for1_length, for1_get_or}
use Rattle.lists.proofs.Sums.{for_sum, for_at, sum_ext, sum_mul, sum_le}

-- ---- what goes by the pairs, one element for each: those that begin with v
module _ {L : Type 0} (n : ℕ) (f : ℕ → ℕ → L) where
  abbrev pub beginning : ℕ → List L
  beginning v = for n λ w. when (ltb v w) (f v w ∷ [])

  pub beginning_length : (v : ℕ) → length (beginning v) ≡ n - suc v
  beginning_length v = ap length (for_above v n (λ w. f v w ∷ [])) ∙ for1_length (n - suc v) (λ i. f v (suc v + i))

  lower_length : (v : ℕ) → length (for v beginning) ≡ sum v (λ u. n - suc u)
  lower_length v = for_sum v beginning ∙ sum_ext v _ _ (λ u l. beginning_length u)

-- ---- how many pairs begin below v
when_nil : {L : Type 0} (b : Bool) → when {A = L} b [] ≡ []
when_nil true = refl
when_nil false = refl

module _ (n v : ℕ) (h : v ≤ n) where
  abbrev lower : ℕ × ℕ → List (ℕ × ℕ)
  lower p = when (ltb p.0 v) (p ∷ [])

  abbrev from : ℕ → List (ℕ × ℕ)
  from = beginning n λ u w. (u, w)

  kept : (u : ℕ) → u < v → each lower (from u) ≡ from u
  kept u l = simp (each_for, each_when) (rw (lt-ltb u v l) refl)

  dropped : (u : ℕ) → v ≤ u → each lower (from u) ≡ []
  dropped u l = simp (each_for, each_when) (rw (le-ltb u v l) ((for_nil n _).1 (λ w r. when_nil (ltb u w))))

  below_list : each lower (pair_list n) ≡ for v from
  unfolding pair_list
  below_list =
      let e : n ≡ v + (n - v) = omega arith in
      each_for lower n from
      ∙ ap (λ (x : ℕ). for x (λ u. each lower (from u))) e
      ∙ for_split v (n - v) _
      ∙ ap₂ ◌++◌ (for_ext v _ from kept) ((for_nil (n - v) _).1 (λ i l. dropped (v + i) (omega arith)))
      ∙ append-nil (for v from)

  below_sum : pairs_below n v ≡ sum v (λ u. n - suc u)
  unfolding pairs_below
  below_sum = ap length below_list ∙ lower_length n (λ u w. (u, w)) v

pub pairs_none : (n : ℕ) → pairs_below n 0 ≡ 0
pairs_none n = below_sum n 0 (omega arith)

pairs_next : (n v : ℕ) → v < n → pairs_below n (suc v) ≡ pairs_below n v + (n - suc v)
pairs_next n v l = below_sum n (suc v) l ∙ ap (λ x. x + (n - suc v)) (sym (below_sum n v (omega arith)))

pub pairs_rise : (n v w : ℕ) → v ≤ w → w ≤ n → pairs_below n v ≤ pairs_below n w
pairs_rise n v w o l =
    ⊎_elim
    (λ e. rw e (le_refl _))
    (λ b. omega (arith, below_sum n v (omega arith), below_sum n w l, sum_le w (λ u. n - suc u) v b))
    (eq-or-lt_of_le o)

-- twice their number is the product, so the half of the product is their number
pairs_double : (n v : ℕ) → v ≤ n → 2 * pairs_below n v ≡ v * (2 * n - v - 1)
pairs_double n zero h = rw (pairs_none n) (sym (zero-mul _))
pairs_double n (suc v) h =
    let e : 2 * n - v - 1 ≡ suc (2 * n - v - 2) = omega arith in
    let e' : 2 * n - suc v - 1 ≡ 2 * n - v - 2 = omega arith in
    rw e'
    (omega (
      arith,
      rw e at (pairs_double n v (omega arith)),
      pairs_next n v h,
      mul-suc v (2 * n - v - 2),
      suc-mul v (2 * n - v - 2),
    ))

pub pairs_below_lem : (n v : ℕ) → v ≤ n → pairs_below n v ≡ v * (2 * n - v - 1) / 2
pairs_below_lem n v h = omega (arith, pairs_double n v h)

pub pairs_all : (n : ℕ) → pairs_below n n ≡ pairs n
pairs_all n =
    let e : 2 * n - n - 1 ≡ n - 1 = omega arith in
    rw (← e) (pairs_below_lem n n (le_refl n))

pub pairs_most : (x y : ℕ) → x ≤ y → pairs x ≤ pairs y
pairs_most x y h = let q : x * (x - 1) ≤ y * (y - 1) = mul-le-mul h (omega arith) in omega arith

-- ---- where a pair stands
module _ {L : Type 0} where
  pub above_length : (n c : ℕ) (f : ℕ → ℕ → List L) → ((v w : ℕ) → length (f v w) ≡ c) → length (for n λ v. for n λ w. when (ltb v w) (f v w)) ≡ pairs n * c
  above_length n c f h =
      for_sum n _
      ∙ sum_ext n _ _ (λ v l. ap length (for_above v n (f v)) ∙ for_length (n - suc v) c _ (λ i r. h v (suc v + i)))
      ∙ sum_mul n (λ v. n - suc v) c
      ∙ ap (λ x. x * c) (sym (below_sum n n (le_refl n)) ∙ pairs_all n)

  module _ (n : ℕ) (f : ℕ → ℕ → L) where
    -- as many stand before those of v as pairs begin below v
    pub lower_below : (v : ℕ) → v ≤ n → length (for v (beginning n f)) ≡ pairs_below n v
    lower_below v h = lower_length n f v ∙ sym (below_sum n v h)

    pub above_one : length (for n (beginning n f)) ≡ pairs n
    above_one = lower_below n (le_refl n) ∙ pairs_all n

    pub above_get_or : (d : L) (v w : ℕ) → v < w → w < n → get_or (for n (beginning n f)) (pairs_below n v + (w - suc v)) d ≡ f v w
    above_get_or d v w o l =
        let e : suc v + (w - suc v) ≡ w = omega arith in
        ap (λ (x : ℕ). get_or (for n (beginning n f)) (x + (w - suc v)) d) (sym (lower_below v (omega arith)) ∙ for_sum v (beginning n f))
        ∙ for_at n (beginning n f) d v (w - suc v) (omega arith) (omega (arith, beginning_length n f v))
        ∙ ap (λ (r : List L). get_or r (w - suc v) d) (for_above v n (λ w. f v w ∷ []))
        ∙ for1_get_or (n - suc v) (λ i. f v (suc v + i)) d (w - suc v) (omega arith)
        ∙ ap (f v) e

-- ---- the pair at a place
module _ (n p : ℕ) where
  -- v is the greatest below which no more than p pairs begin: the pair at place p is v and a number below n
  pub pair_high : (v : ℕ) → v < n → pairs_below n v ≤ p → p < pairs_below n (suc v) → suc v + (p - pairs_below n v) < n
  pair_high v l a b = omega (arith, pairs_next n v l)

  begins : (j : ℕ) → j ≤ n → p < pairs_below n j → (v : ℕ) × (v < n) × (pairs_below n v ≤ p) × (p < pairs_below n (suc v))
  begins zero h l = absurd (let z : ⊥ = omega (arith, pairs_none n) in z)
  begins (suc j) h l = by_cases (dec_lt p (pairs_below n j)) (begins j (omega arith)) (λ g. (j, h, omega arith, l))

  pub pair_some : p < pairs n → (v w : ℕ) × (v < w) × (w < n) × (p ≡ pairs_below n v + (w - suc v))
  pair_some l =
      let (v, h, a, b) = begins n (le_refl n) (omega (arith, pairs_all n)) in
      let o = pair_high v h a b in
      (v, suc v + (p - pairs_below n v), omega arith, o, omega arith)

  pub greatest_low : (v w u : ℕ) → v < w → w < n → p ≡ pairs_below n v + (w - suc v) → u < n → (pairs_below n u ≤ p) ↔ (u ≤ v)
  greatest_low v w u o l e r = (
    (λ h. by_cases (dec_lt v u) (λ g. absurd (let z : ⊥ = omega (arith, pairs_rise n (suc v) u g (omega arith), pairs_next n v (omega arith)) in z)) (λ g. omega arith)),
    (λ h. omega (arith, pairs_rise n u v h (omega arith))),
  )

-- the place of a pair is below their number
pub pair_within : (n v w : ℕ) → v < w → w < n → pairs_below n v + (w - suc v) < pairs n
pair_within n v w o l = omega (arith, pairs_next n v (omega arith), pairs_rise n (suc v) n (omega arith) (le_refl n), pairs_all n)

-- where there is a pair of numbers below n, n is not 0
pub pairs_some : (n p : ℕ) → p < pairs n → 0 < n
pairs_some zero p l = absurd (let z : ⊥ = omega arith in z)
pairs_some (suc n) p l = omega arith
