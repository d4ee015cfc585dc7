-- A number i * c + j with j < c: the place of element j of block i, where each block has c elements.
use mathlib.Core.Path.{◌≡◌, refl, sym, ◌∙◌, ap, ap₂, subst}
use mathlib.Core.List.{List, [], ◌∷◌, ◌++◌}
use Prim.Native.Nat.{ℕ, zero, suc, ◌+◌, ◌*◌, ◌/◌, ◌%◌, ◌<◌}
use native.Mathlib.Nat.{suc-mul, mul-zero, mul-one, mul-le-mul_right, div-lt_iff_lt-mul, mod-lt, div-add-mod', zero-lt-suc, not-suc-le-zero, mul_assoc, add-mul, add_assoc, add-zero, zero-mul, mul-add-div_right, mul-add-mod_self_right, div-eq_of_lt, mod-eq_of_lt}
use native.Mathlib.Omega.{arith}
use lib.ListN.{length, get_or}
use Rattle.lists.specs.Loop.{for}
use Rattle.lists.proofs.Loops.{for_length, for_get_or, for_ext, for_split}

pub place_lt : (n c i j : ℕ) → i < n → j < c → i * c + j < n * c
place_lt n c i j l r = omega (arith, suc-mul i c, mul-le-mul_right c l)

pub place_split : (n c x : ℕ) → x < n * c → (i j : ℕ) × (i < n) × (j < c) × (x ≡ i * c + j)
place_split n zero x h = absurd (not-suc-le-zero (subst (λ (y : ℕ). x < y) (mul-zero n) h))
place_split n (suc c) x h =
    (x / suc c, x % suc c, (div-lt_iff_lt-mul (zero-lt-suc c)).1 h, mod-lt x (zero-lt-suc c), sym (div-add-mod' x (suc c)))

-- one loop, two loops and three loops, the innermost with one element: element (i·b + j)·c + l is f i j l
module _ {A : Type 0} where
  pub for1_length : (c : ℕ) (f : ℕ → A) → length (for c λ l. f l ∷ []) ≡ c
  for1_length c f = for_length c 1 _ (λ l h. refl) ∙ mul-one c

  pub for1_get_or : (c : ℕ) (f : ℕ → A) (d : A) (l : ℕ) → l < c → get_or (for c λ l. f l ∷ []) l d ≡ f l
  for1_get_or c f d l h =
      let e : l ≡ l * 1 + 0 = omega arith in
      ap (λ x. get_or (for c λ l. f l ∷ []) x d) e ∙ for_get_or c 1 (λ l. f l ∷ []) d (λ l h. refl) l 0 h (zero-lt-suc 0)

  pub for2_length : (b c : ℕ) (f : ℕ → ℕ → A) → length (for b λ j. for c λ l. f j l ∷ []) ≡ b * c
  for2_length b c f = for_length b c _ (λ j h. for1_length c (f j))

  pub for2_get_or : (b c : ℕ) (f : ℕ → ℕ → A) (d : A) (j l : ℕ) → j < b → l < c → get_or (for b λ j. for c λ l. f j l ∷ []) (j * c + l) d ≡ f j l
  for2_get_or b c f d j l q r =
      for_get_or b c (λ j. for c λ l. f j l ∷ []) d (λ j h. for1_length c (f j)) j l q r ∙ for1_get_or c (f j) d l r

  pub for3_length : (a b c : ℕ) (f : ℕ → ℕ → ℕ → A) → length (for a λ i. for b λ j. for c λ l. f i j l ∷ []) ≡ a * (b * c)
  for3_length a b c f = for_length a (b * c) _ (λ i h. for2_length b c (f i))

  -- two loops of blocks: block j of i, with c elements, at its place l
  pub nested_get_or : (a b c : ℕ) (f : ℕ → ℕ → List A) (d : A) → ((i j : ℕ) → length (f i j) ≡ c)
      → (i j l : ℕ) → i < a → j < b → l < c → get_or (for a λ i. for b (f i)) ((i * b + j) * c + l) d ≡ get_or (f i j) l d
  nested_get_or a b c f d len i j l p q r =
      let e : (i * b + j) * c + l ≡ i * (b * c) + (j * c + l) = simp (add-mul, mul_assoc, add_assoc) in
      ap (λ x. get_or (for a λ i. for b (f i)) x d) e
      ∙ for_get_or a (b * c) (λ i. for b (f i)) d (λ i h. for_length b c (f i) (λ j h. len i j)) i (j * c + l) p (place_lt b c j l q r)
      ∙ for_get_or b c (f i) d (λ j h. len i j) j l q r

  pub for3_get_or : (a b c : ℕ) (f : ℕ → ℕ → ℕ → A) (d : A) (i j l : ℕ) → i < a → j < b → l < c
      → get_or (for a λ i. for b λ j. for c λ l. f i j l ∷ []) ((i * b + j) * c + l) d ≡ f i j l
  for3_get_or a b c f d i j l p q r =
      nested_get_or a b c (λ i j. for c λ l. f i j l ∷ []) d (λ i j. for1_length c (f i j)) i j l p q r ∙ for1_get_or c (f i j) d l r

-- ---- two loops as one: block i of n times c is block i % c of row i / c
pub quotient : (n c j : ℕ) → j < c → (n * c + j) / c ≡ n
quotient n c j l = mul-add-div_right (omega arith) n j ∙ ap (λ (x : ℕ). n + x) (div-eq_of_lt l) ∙ add-zero n

pub remainder : (n c j : ℕ) → j < c → (n * c + j) % c ≡ j
remainder n c j l = mul-add-mod_self_right n c j ∙ mod-eq_of_lt l

-- one place, one block and one element
pub place_inj : (c i j p q : ℕ) → j < c → q < c → i * c + j ≡ p * c + q → (i ≡ p) × (j ≡ q)
place_inj c i j p q l r e = (
  sym (quotient i c j l) ∙ ap (λ (x : ℕ). x / c) e ∙ quotient p c q r,
  sym (remainder i c j l) ∙ ap (λ (x : ℕ). x % c) e ∙ remainder p c q r,
)

pub for_flat : {A : Type 0} (n c : ℕ) (f : ℕ → ℕ → List A) → (for n λ i. for c λ j. f i j) ≡ for (n * c) λ x. f (x / c) (x % c)
for_flat zero c f = sym (ap (λ (x : ℕ). for x λ i. f (i / c) (i % c)) (zero-mul c))
for_flat (suc n) c f =
    ap₂ ◌++◌ (for_flat n c f) (for_ext c _ _ (λ j l. ap₂ f (sym (quotient n c j l)) (sym (remainder n c j l))))
    ∙ sym (for_split (n * c) c (λ i. f (i / c) (i % c)))
    ∙ ap (λ (x : ℕ). for x λ i. f (i / c) (i % c)) (sym (suc-mul n c))

pub cell_at : (n c x : ℕ) → x < n * c → (0 < c) × ((x / c < n) × (x % c < c))
cell_at n zero x h = absurd (not-suc-le-zero (subst (λ (y : ℕ). x < y) (mul-zero n) h))
cell_at n (suc c) x h = (zero-lt-suc c, ((div-lt_iff_lt-mul (zero-lt-suc c)).1 h, mod-lt x (zero-lt-suc c)))
