-- Sums, and lists whose blocks have different lengths; the numbers other than one.
use mathlib.Core.Path.{◌≡◌, refl, sym, ◌∙◌, ap, ap₂, subst}
use mathlib.Core.Logic.{◌↔◌, ⊎_elim, by_cases}
use mathlib.Core.List.{List, [], ◌∷◌}
use mathlib.Core.Bool.{Bool, true, false, not, ◌&&◌, ◌||◌}
use Prim.Native.Nat.{ℕ, zero, suc, ◌+◌, ◌*◌, ◌-◌, ◌≤◌, ◌<◌, max}
use native.Mathlib.Nat.{suc-mul, zero-mul, mul-zero, one-mul, add-mul, le_refl, not-suc-le-zero, eq-or-lt_of_le, le_of_suc-le-suc, add-zero}
use native.Mathlib.Decide.{dec_le, dec_lt}
use native.Mathlib.Omega.{arith}
use borrow.Author.Tests.{eq-eqb, ne_eqb}
use lib.ListN.{length, get_or, length-append, get_or-append}
use lib.Seq.{get_or-append-add}
use lib.Dec.{T, eqb}
use Rattle.lists.specs.Loop.{for, when, unless, sum, some, greatest}
use Rattle.lists.proofs.Tests.{some_iff}
use Rattle.lists.proofs.Loops.{for_length, for_get_or, for_others}
use Rattle.lists.proofs.Blocks.{place_lt}

pub sum_ext : (n : ℕ) (f g : ℕ → ℕ) → ((i : ℕ) → i < n → f i ≡ g i) → sum n f ≡ sum n g
sum_ext zero f g h = refl
sum_ext (suc n) f g h = ap₂ ◌+◌ (sum_ext n f g (λ i l. h i (omega arith))) (h n (le_refl (suc n)))

pub sum_const : (n c : ℕ) → sum n (λ i. c) ≡ n * c
sum_const zero c = sym (zero-mul c)
sum_const (suc n) c = rw (sum_const n c, suc-mul)

pub sum_mul : (n : ℕ) (f : ℕ → ℕ) (c : ℕ) → sum n (λ i. f i * c) ≡ sum n f * c
sum_mul zero f c = sym (zero-mul c)
sum_mul (suc n) f c = rw (sum_mul n f c, add-mul)

-- a sum of numbers that are at most c
pub sum_below : (n c : ℕ) (f : ℕ → ℕ) → ((i : ℕ) → i < n → f i ≤ c) → sum n f ≤ n * c
sum_below zero c f h = omega arith
sum_below (suc n) c f h = omega (arith, sum_below n c f (λ i l. h i (omega arith)), h n (le_refl (suc n)), suc-mul n c)

pub sum_le : (n : ℕ) (f : ℕ → ℕ) (i : ℕ) → i < n → sum i f + f i ≤ sum n f
sum_le zero f i l = absurd (not-suc-le-zero l)
sum_le (suc n) f i l =
    ⊎_elim (λ e. rw e (le_refl _)) (λ b. omega (arith, sum_le n f i b)) (eq-or-lt_of_le (le_of_suc-le-suc l))

-- ---- the greatest: as great as each, one of them, and no greater than what none exceeds
pub greatest_le : (n : ℕ) (f : ℕ → ℕ) (a : ℕ) → a < n → f a ≤ greatest n f
greatest_le zero f a l = absurd (not-suc-le-zero l)
greatest_le (suc n) f a l =
    ⊎_elim (λ e. let q = ap f e in omega arith) (λ k. let q = greatest_le n f a k in omega arith) (eq-or-lt_of_le (le_of_suc-le-suc l))

pub greatest_one : (n : ℕ) (f : ℕ → ℕ) → 0 < n → (a : ℕ) × (a < n) × (f a ≡ greatest n f)
greatest_one zero f l = absurd (not-suc-le-zero l)
greatest_one (suc zero) f l = (0, l, let e : f 0 ≡ greatest 1 f = omega arith in e)
greatest_one (suc (suc n)) f l =
    let (a, h, e) = greatest_one (suc n) f (omega arith) in
    by_cases (dec_le (f (suc n)) (greatest (suc n) f))
    (λ q. (a, omega arith, let z : f a ≡ greatest (suc (suc n)) f = omega arith in z))
    (λ q. (suc n, le_refl _, let z : f (suc n) ≡ greatest (suc (suc n)) f = omega arith in z))

pub greatest_most : (n : ℕ) (f : ℕ → ℕ) (x : ℕ) → ((a : ℕ) → a < n → f a ≤ x) → greatest n f ≤ x
greatest_most zero f x h = omega arith
greatest_most (suc n) f x h = omega (arith, greatest_most n f x (λ a l. h a (omega arith)), h n (le_refl (suc n)))

pub greatest_ext : (n : ℕ) (f g : ℕ → ℕ) → ((i : ℕ) → i < n → f i ≡ g i) → greatest n f ≡ greatest n g
greatest_ext zero f g h = refl
greatest_ext (suc n) f g h = ap₂ max (greatest_ext n f g (λ i l. h i (omega arith))) (h n (le_refl (suc n)))

module _ {A : Type 0} where
  pub for_sum : (n : ℕ) (f : ℕ → List A) → length (for n f) ≡ sum n (λ i. length (f i))
  for_sum zero f = refl
  for_sum (suc n) f = rw (length-append, for_sum n f)

  -- element j of block i, for blocks of any lengths
  pub for_at : (n : ℕ) (f : ℕ → List A) (d : A) (i j : ℕ) → i < n → j < length (f i)
      → get_or (for n f) (sum i (λ u. length (f u)) + j) d ≡ get_or (f i) j d
  for_at zero f d i j l r = absurd (not-suc-le-zero l)
  for_at (suc n) f d i j l r =
      ⊎_elim
      (λ e. rw e (rw (← (for_sum n f)) (get_or-append-add (for n f) (f n) j d)))
      (λ b.
      get_or-append (for n f) (f n) d (sum i (λ u. length (f u)) + j) (omega (arith, for_sum n f, sum_le n (λ u. length (f u)) i b))
      ∙ for_at n f d i j b r)
      (eq-or-lt_of_le (le_of_suc-le-suc l))

-- ---- the numbers other than one
sum_others : {a k : ℕ} → a < k → a + (k - suc a) ≡ k - 1
sum_others l = omega arith

module _ {L : Type 0} where
  pub others_length : (k c a : ℕ) → a < k → (f : ℕ → List L) → ((b : ℕ) → b < k → length (f b) ≡ c) → length (for k λ b. when (not (eqb a b)) (f b)) ≡ (k - 1) * c
  others_length k c a l f h =
      ap length (for_others a k l f)
      ∙ length-append (for a f) _
      ∙ ap₂ ◌+◌ (for_length a c f (λ i r. h i (omega arith))) (for_length (k - suc a) c _ (λ i r. h (suc a + i) (omega arith)))
      ∙ sym (add-mul a (k - suc a) c)
      ∙ ap (λ x. x * c) (sum_others l)

-- ---- counting where a test holds
abbrev pub ind : Bool → ℕ
ind true = 1
ind false = 0

pub when_count : {L : Type 0} (n : ℕ) (p : ℕ → Bool) (f : ℕ → L) → length (for n λ w. when (p w) (f w ∷ [])) ≡ sum n (λ w. ind (p w))
when_count {L} n p f = for_sum n _ ∙ sum_ext n _ _ (λ w l. go (p w) (f w))
  where
    go : (b : Bool) (x : L) → length (when b (x ∷ [])) ≡ ind b
    go true x = refl
    go false x = refl

pub unless_count : {L : Type 0} (b : Bool) (x : L) → length (unless b x) ≡ ind (not b)
unless_count true x = refl
unless_count false x = refl

pub sum_add : (n : ℕ) (f g : ℕ → ℕ) → sum n (λ i. f i + g i) ≡ sum n f + sum n g
sum_add zero f g = refl
sum_add (suc n) f g = omega (arith, sum_add n f g)

-- ---- double counting
pub sum_zero : (n : ℕ) (f : ℕ → ℕ) → ((i : ℕ) → i < n → f i ≡ 0) → sum n f ≡ 0
sum_zero n f h = sum_ext n f (λ i. 0) h ∙ sum_const n 0 ∙ mul-zero n

pub sum_swap : (a b : ℕ) (f : ℕ → ℕ → ℕ) → sum a (λ i. sum b (λ j. f i j)) ≡ sum b (λ j. sum a (λ i. f i j))
sum_swap zero b f = sym (sum_zero b (λ j. 0) (λ i l. refl))
sum_swap (suc a) b f = ap (λ x. x + sum b (f a)) (sum_swap a b f) ∙ sym (sum_add b (λ j. sum a (λ i. f i j)) (f a))

-- one place of n has the value x
pub sum_one : (n x : ℕ) → x < n → sum n (λ w. ind (eqb x w)) ≡ 1
sum_one zero x l = absurd (not-suc-le-zero l)
sum_one (suc n) x l =
    ⊎_elim
    (λ q. rw (eq-eqb x n q) (ap (λ s. s + 1) (sum_zero n _ (λ i h. rw (ne_eqb x i (omega arith))))))
    (λ h. rw (ne_eqb x n (omega arith)) (add-zero _ ∙ sum_one n x h))
    (eq-or-lt_of_le (le_of_suc-le-suc l))

pub ind_yes : (b : Bool) → T b → ind b ≡ 1
ind_yes true t = refl
ind_yes false t = absurd t

pub ind_no : (b : Bool) → (T b → ⊥) → ind b ≡ 0
ind_no true f = absurd (f tt)
ind_no false f = refl

-- a test that holds exactly below r holds at r numbers
pub count_below : (n r : ℕ) (p : ℕ → Bool) → r ≤ n → ((i : ℕ) → i < n → T (p i) ↔ (i < r)) → sum n (λ i. ind (p i)) ≡ r
count_below zero r p l h = omega arith
count_below (suc n) r p l h =
    by_cases (dec_le r n)
    (λ q. omega (arith, count_below n r p q (λ i k. h i (omega arith)), ind_no (p n) (λ t. let z = (h n (le_refl (suc n))).0 t in omega arith)))
    (λ q.
    let s : sum n (λ i. ind (p i)) ≡ n = count_below n n p (le_refl n) (λ i k. ((λ t. k), (λ o. (h i (omega arith)).1 (omega arith)))) in
    omega (arith, s, ind_yes (p n) ((h n (le_refl (suc n))).1 (omega arith))))

-- how many numbers pass: at most all, and more where more do
pub count_most : (n : ℕ) (p : ℕ → Bool) → sum n (λ i. ind (p i)) ≤ n
count_most zero p = omega arith
count_most (suc n) p = omega (arith, count_most n p, go (p n))
  where
    go : (b : Bool) → ind b ≤ 1
    go true = omega arith
    go false = omega arith

ind_le : (a b : Bool) → (T a → T b) → ind a ≤ ind b
ind_le true true h = omega arith
ind_le true false h = absurd (h tt)
ind_le false b h = omega arith

count_le : (n : ℕ) (p q : ℕ → Bool) → ((i : ℕ) → i < n → T (p i) → T (q i)) → sum n (λ i. ind (p i)) ≤ sum n (λ i. ind (q i))
count_le zero p q h = omega arith
count_le (suc n) p q h = omega (arith, count_le n p q (λ i l. h i (omega arith)), ind_le (p n) (q n) (h n (le_refl (suc n))))

pub count_less : (n : ℕ) (p q : ℕ → Bool) → ((i : ℕ) → i < n → T (p i) → T (q i)) → (j : ℕ) → j < n → (T (p j) → ⊥) → T (q j)
    → sum n (λ i. ind (p i)) < sum n (λ i. ind (q i))
count_less zero p q h j l f t = absurd (not-suc-le-zero l)
count_less (suc n) p q h j l f t =
    ⊎_elim
    (λ e.
    let c = ind_no (p n) (λ x. f (subst (λ (i : ℕ). T (p i)) (sym e) x)) in
    let d = ind_yes (q n) (subst (λ (i : ℕ). T (q i)) e t) in
    omega (arith, count_le n p q (λ i k. h i (omega arith))))
    (λ k. omega (arith, count_less n p q (λ i k. h i (omega arith)) j k f t, ind_le (p n) (q n) (h n (le_refl (suc n)))))
    (eq-or-lt_of_le (le_of_suc-le-suc l))

pub ind_and : (a b : Bool) → ind (a && b) ≡ ind a * ind b
ind_and true true = refl
ind_and true false = refl
ind_and false true = refl
ind_and false false = refl

pub ind_or : (a b : Bool) → (T a → T b → ⊥) → ind (a || b) ≡ ind a + ind b
ind_or true true h = absurd (h tt tt)
ind_or true false h = refl
ind_or false true h = refl
ind_or false false h = refl

-- at most one number below n passes the test
pub some_count : (n : ℕ) (p : ℕ → Bool) → ((i j : ℕ) → i < n → j < n → T (p i) → T (p j) → i ≡ j) → ind (some n p) ≡ sum n (λ j. ind (p j))
some_count zero p h = refl
some_count (suc n) p h =
    ind_or (some n p) (p n) (λ a b. let (i, l, t) = (some_iff n p).0 a in let q = h i n (omega (arith, l)) (le_refl (suc n)) t b in omega (arith, l))
    ∙ ap (λ x. x + ind (p n)) (some_count n p (λ i j l r. h i j (omega arith) (omega arith)))

module _ {L : Type 0} where
  -- the agents other than a, in order: those below a keep their places, those above move up by one
  others_below : (k c a b i : ℕ) (f : ℕ → List L) (d : L) → a < k → b < a → i < c → ((b : ℕ) → b < k → length (f b) ≡ c)
      → get_or (for k λ b. when (not (eqb a b)) (f b)) (b * c + i) d ≡ get_or (f b) i d
  others_below k c a b i f d l r s h =
      let len : length (for a f) ≡ a * c = for_length a c f (λ j q. h j (omega arith)) in
      ap (λ x. get_or x (b * c + i) d) (for_others a k l f)
      ∙ get_or-append (for a f) _ d (b * c + i) (omega (arith, len, place_lt a c b i r s))
      ∙ for_get_or a c f d (λ j q. h j (omega arith)) b i r s

  others_above : (k c a j i : ℕ) (f : ℕ → List L) (d : L) → a < k → suc a + j < k → i < c → ((b : ℕ) → b < k → length (f b) ≡ c)
      → get_or (for k λ b. when (not (eqb a b)) (f b)) ((a + j) * c + i) d ≡ get_or (f (suc a + j)) i d
  others_above k c a j i f d l r s h =
      let g : ℕ → List L = λ j. f (suc a + j) in
      let len : length (for a f) ≡ a * c = for_length a c f (λ j q. h j (omega arith)) in
      let e : (a + j) * c + i ≡ length (for a f) + (j * c + i) = omega (arith, len, add-mul a j c) in
      let b : j < k - suc a = omega arith in
      ap₂ (λ x y. get_or x y d) (for_others a k l f) e
      ∙ get_or-append-add (for a f) (for (k - suc a) g) (j * c + i) d
      ∙ for_get_or (k - suc a) c g d (λ j q. h (suc a + j) (omega arith)) j i b s

  -- b is at place o among them
  pub others_at : (k c a : ℕ) (f : ℕ → List L) (d : L) → a < k → ((b : ℕ) → b < k → length (f b) ≡ c)
      → (o b i : ℕ) → o < k - 1 → i < c → (o < a → b ≡ o) → (a ≤ o → b ≡ suc o)
      → get_or (for k λ b. when (not (eqb a b)) (f b)) (o * c + i) d ≡ get_or (f b) i d
  others_at k c a f d l h o b i r s low high =
      by_cases (dec_lt o a)
      (λ q. rw (low q) (others_below k c a o i f d l q s h))
      (λ q.
      let e : a + (o - a) ≡ o = omega arith in
      let z : b ≡ suc a + (o - a) = omega (arith, high (omega arith)) in
      rw z
      (ap (λ (x : ℕ). get_or (for k λ b. when (not (eqb a b)) (f b)) (x * c + i) d) (sym e)
      ∙ others_above k c a (o - a) i f d l (omega arith) s h))

-- blocks of c elements where a test holds
pub when_length : {L : Type 0} (n c : ℕ) (p : ℕ → Bool) (f : ℕ → List L) → ((i : ℕ) → length (f i) ≡ c)
    → length (for n λ i. when (p i) (f i)) ≡ length (for n λ i. when (p i) (i ∷ [])) * c
when_length {L} n c p f h =
    for_sum n _
    ∙ sum_ext n _ (λ i. ind (p i) * c) (λ i l. go (p i) (f i) (h i))
    ∙ sum_mul n (λ i. ind (p i)) c
    ∙ ap (λ (x : ℕ). x * c) (sym (when_count n p (λ i. i)))
  where
    go : (b : Bool) (l : List L) → length l ≡ c → length (when b l) ≡ ind b * c
    go true l e = e ∙ sym (one-mul c)
    go false l e = sym (zero-mul c)
