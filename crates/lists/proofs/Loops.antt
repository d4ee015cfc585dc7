-- Laws of the words of `Loop`: lengths, elements, tests, membership.
use mathlib.Core.Path.{◌≡◌, refl, sym, ◌∙◌, ap, ap₂, subst}
use mathlib.Core.Logic.{◌↔◌, ◌⊎◌, inl, inr, ⊎_elim, by_cases}
use mathlib.Core.List.Memᴰ
use mathlib.Core.List.{List, [], ◌∷◌, ◌++◌, append-nil, append_assoc, cons≢nil, Memᴰ}
use mathlib.Core.Bool.{Bool, true, false, not}
use Prim.Native.Nat.{ℕ, zero, suc, ◌+◌, ◌*◌, ◌-◌, ◌<◌, suc-le-suc}
use native.Mathlib.Nat.{suc-mul, zero-mul, zero-sub, not-suc-le-zero, zero-lt-suc, le_refl, eq-or-lt_of_le, le_of_suc-le-suc, add-zero, add-suc, mul-le-mul_right}
use native.Mathlib.Decide.{dec_lt}
use native.Mathlib.Omega.{arith}
use borrow.Author.Tests.{lt-ltb, le-ltb, eq-eqb, ne_eqb}
use lib.ListN.{length, get_or, length-append, get_or-append}
use lib.Seq.{get_or-append-add}
use lib.Dec.{T, ltb, eqb}
use Rattle.lists.specs.Loop.{for, when, unless, any, all, each}
use Rattle.lists.proofs.Tests.{below_zero, below_suc, and_iff, or_iff, or_imp}

module _ {A : Type 0} where
  -- ---- lengths
  pub for_length : (n c : ℕ) (f : ℕ → List A) → ((i : ℕ) → i < n → length (f i) ≡ c) → length (for n f) ≡ n * c
  for_length zero c f h = sym (zero-mul c)
  for_length (suc n) c f h =
      rw (length-append, for_length n c f (λ i l. h i (omega arith)), h n (le_refl (suc n)), suc-mul)

  pub for_ext : (n : ℕ) (f g : ℕ → List A) → ((i : ℕ) → i < n → f i ≡ g i) → for n f ≡ for n g
  for_ext zero f g h = refl
  for_ext (suc n) f g h = ap₂ ◌++◌ (for_ext n f g (λ i l. h i (omega arith))) (h n (le_refl (suc n)))

  pub for_split : (n m : ℕ) (f : ℕ → List A) → for (n + m) f ≡ for n f ++ for m (λ i. f (n + i))
  for_split n zero f = rw (add-zero, append-nil)
  for_split n (suc m) f = rw add-suc (ap (λ l. l ++ f (n + m)) (for_split n m f) ∙ append_assoc (for n f) (for m (λ i. f (n + i))) (f (n + m)))

  -- ---- elements: block i of c elements, at its place j
  pub for_get_or : (n c : ℕ) (f : ℕ → List A) (d : A) → ((i : ℕ) → i < n → length (f i) ≡ c)
      → (i j : ℕ) → i < n → j < c → get_or (for n f) (i * c + j) d ≡ get_or (f i) j d
  for_get_or zero c f d h i j l k = absurd (not-suc-le-zero l)
  for_get_or (suc n) c f d h i j l k =
      let len : length (for n f) ≡ n * c = for_length n c f (λ i l. h i (omega arith)) in
      ⊎_elim
      (λ e. rw e (rw (← len) (get_or-append-add (for n f) (f n) j d)))
      (λ b.
      get_or-append (for n f) (f n) d (i * c + j) (omega (arith, len, suc-mul i c, mul-le-mul_right c b))
      ∙ for_get_or n c f d (λ i l. h i (omega arith)) i j b k)
      (eq-or-lt_of_le (le_of_suc-le-suc l))

  -- ---- tests over a family
  pub all_append : (p : A → Bool) (s t : List A) → T (all p (s ++ t)) ↔ (T (all p s) × T (all p t))
  all_append p [] t = ((λ h. (tt, h)), (λ h. h.1))
  all_append p (x ∷ s) t = (
    (λ h. let (a, b) = (and_iff (p x) _).0 h in let (c, d) = (all_append p s t).0 b in ((and_iff (p x) _).1 (a, c), d)),
    (λ h. let (a, c) = (and_iff (p x) _).0 h.0 in (and_iff (p x) _).1 (a, (all_append p s t).1 (c, h.1))),
  )

  pub for_all : (p : A → Bool) (n : ℕ) (f : ℕ → List A) → T (all p (for n f)) ↔ ((i : ℕ) → i < n → T (all p (f i)))
  for_all p zero f = ((λ h. below_zero _), (λ h. tt))
  for_all p (suc n) f = (
    (λ h. let (a, b) = (all_append p (for n f) (f n)).0 h in below_suc _ n ((for_all p n f).0 a) b),
    (λ h. (all_append p (for n f) (f n)).1 ((for_all p n f).1 (λ i l. h i (omega arith)), h n (le_refl (suc n)))),
  )

  pub when_all : (p : A → Bool) (b : Bool) (l : List A) → T (all p (when b l)) ↔ (T b → T (all p l))
  when_all p true l = ((λ h t. h), (λ h. h tt))
  when_all p false l = ((λ h t. absurd t), (λ h. tt))

  pub one_all : (p : A → Bool) (x : A) → T (all p (x ∷ [])) ↔ T (p x)
  one_all p x = ((λ h. ((and_iff (p x) true).0 h).0), (λ h. (and_iff (p x) true).1 (h, tt)))

  pub any_append : (p : A → Bool) (s t : List A) → T (any p (s ++ t)) ↔ (T (any p s) ⊎ T (any p t))
  any_append p [] t = (inr, ⊎_elim (λ h. absurd h) (λ h. h))
  any_append p (x ∷ s) t = (
    (λ h. ⊎_elim (λ a. inl ((or_iff (p x) _).1 (inl a))) (λ b. ⊎_elim (λ c. inl ((or_iff (p x) _).1 (inr c))) inr ((any_append p s t).0 b)) ((or_iff (p x) _).0 h)),
    ⊎_elim (λ h. ⊎_elim (λ a. (or_iff (p x) _).1 (inl a)) (λ b. (or_iff (p x) _).1 (inr ((any_append p s t).1 (inl b)))) ((or_iff (p x) _).0 h)) (λ h. (or_iff (p x) _).1 (inr ((any_append p s t).1 (inr h)))),
  )

  pub for_any : (p : A → Bool) (n : ℕ) (f : ℕ → List A) → T (any p (for n f)) ↔ ((i : ℕ) × (i < n) × T (any p (f i)))
  for_any p zero f = ((λ h. absurd h), (λ h. absurd (not-suc-le-zero h.1)))
  for_any p (suc n) f = (
    (λ h. ⊎_elim (λ a. let r = (for_any p n f).0 a in (r.0, omega (arith, r.1), r.2)) (λ b. (n, le_refl (suc n), b)) ((any_append p (for n f) (f n)).0 h)),
    (λ h. (any_append p (for n f) (f n)).1
        (⊎_elim (λ e. inr (subst (λ (i : ℕ). T (any p (f i))) e h.2)) (λ k. inl ((for_any p n f).1 (h.0, k, h.2))) (eq-or-lt_of_le (le_of_suc-le-suc h.1)))),
  )

  pub when_any : (p : A → Bool) (b : Bool) (l : List A) → T (any p (when b l)) ↔ (T b × T (any p l))
  when_any p true l = ((λ h. (tt, h)), (λ h. h.1))
  when_any p false l = ((λ h. absurd h), (λ h. h.0))

  pub any_one : (p : A → Bool) (x : A) → T (any p (x ∷ [])) ↔ T (p x)
  any_one p x = ((λ h. ⊎_elim (λ t. t) (λ t. absurd t) ((or_iff (p x) false).0 h)), (λ h. (or_iff (p x) false).1 (inl h)))

  pub any_two : (p : A → Bool) (x y : A) → T (any p (x ∷ y ∷ [])) ↔ ((T (p x) → ⊥) → T (p y))
  any_two p x y = (
    (λ h f. (any_one p y).0 ((or_imp (p x) _).0 h f)),
    (λ h. (or_imp (p x) _).1 (λ f. (any_one p y).1 (h f))),
  )

  pub any_four : (p : A → Bool) (w x y z : A) → T (any p (w ∷ x ∷ y ∷ z ∷ [])) ↔ ((T (p w) → ⊥) → (T (p x) → ⊥) → (T (p y) → ⊥) → T (p z))
  any_four p w x y z = (
    (λ h f g. (any_two p y z).0 ((or_imp (p x) _).0 ((or_imp (p w) _).0 h f) g)),
    (λ h. (or_imp (p w) _).1 (λ f. (or_imp (p x) _).1 (λ g. (any_two p y z).1 (h f g)))),
  )

  pub any_get_or : (d : A) (p : A → Bool) (l : List A) → T (any p l) ↔ ((i : ℕ) × (i < length l) × T (p (get_or l i d)))
  any_get_or d p [] = ((λ h. absurd h), (λ h. absurd (not-suc-le-zero h.1)))
  any_get_or d p (x ∷ l) = (
    (λ h. ⊎_elim (λ t. (0, zero-lt-suc _, t)) (λ t. let r = (any_get_or d p l).0 t in (suc r.0, suc-le-suc r.1, r.2)) ((or_iff (p x) _).0 h)),
    (λ h. go (any_get_or d p l).1 h.0 h.1 h.2),
  )
    where
      go : ((i : ℕ) × (i < length l) × T (p (get_or l i d)) → T (any p l)) → (i : ℕ) → i < length (x ∷ l) → T (p (get_or (x ∷ l) i d)) → T (any p (x ∷ l))
      go rec zero h t = (or_iff (p x) _).1 (inl t)
      go rec (suc i) h t = (or_iff (p x) _).1 (inr (rec (i, le_of_suc-le-suc h, t)))

  pub all_get_d : (d : A) (p : A → Bool) (l : List A) → T (all p l) ↔ ((i : ℕ) → i < length l → T (p (get_or l i d)))
  all_get_d d p [] = ((λ h. below_zero _), (λ h. tt))
  all_get_d d p (x ∷ l) = (
    (λ h. let (a, b) = (and_iff (p x) _).0 h in go a ((all_get_d d p l).0 b)),
    (λ h. (and_iff (p x) _).1 (h 0 (zero-lt-suc _), (all_get_d d p l).1 (λ i r. h (suc i) (suc-le-suc r)))),
  )
    where
      go : T (p x) → ((i : ℕ) → i < length l → T (p (get_or l i d))) → (i : ℕ) → i < length (x ∷ l) → T (p (get_or (x ∷ l) i d))
      go a b zero r = a
      go a b (suc i) r = b i (le_of_suc-le-suc r)

  -- ---- the tests and membership
  pub any_mem : (p : A → Bool) (l : List A) → T (any p l) ↔ ((x : A) × Memᴰ x l × T (p x))
  any_mem p [] = ((λ h. absurd h), (λ h. absurd (Memᴰ.not-nil h.1)))
  any_mem p (y ∷ l) = (
    (λ h. ⊎_elim (λ t. (y, Memᴰ.head refl, t)) (λ t. let r = (any_mem p l).0 t in (r.0, Memᴰ.tail r.1, r.2)) ((or_iff (p y) _).0 h)),
    (λ h. (or_iff (p y) _).1
        (⊎_elim (λ e. inl (subst (λ x. T (p x)) e h.2)) (λ i. inr ((any_mem p l).1 (h.0, i, h.2))) (Memᴰ.cases_cons h.1))),
  )

  pub all_mem : (p : A → Bool) (l : List A) → T (all p l) ↔ ((x : A) → Memᴰ x l → T (p x))
  all_mem p [] = ((λ h x i. absurd (Memᴰ.not-nil i)), (λ h. tt))
  all_mem p (y ∷ l) = (
    (λ h x i. let (a, b) = (and_iff (p y) _).0 h in
        ⊎_elim (λ e. subst (λ x. T (p x)) (sym e) a) (λ j. (all_mem p l).0 b x j) (Memᴰ.cases_cons i)),
    (λ h. (and_iff (p y) _).1 (h y (Memᴰ.head refl), (all_mem p l).1 (λ x i. h x (Memᴰ.tail i)))),
  )

  pub get_or_mem : (d : A) (l : List A) (i : ℕ) → i < length l → Memᴰ (get_or l i d) l
  get_or_mem d [] i h = absurd (not-suc-le-zero h)
  get_or_mem d (x ∷ l) zero h = Memᴰ.head refl
  get_or_mem d (x ∷ l) (suc i) h = Memᴰ.tail (get_or_mem d l i (le_of_suc-le-suc h))

  -- ---- questions
  pub unless_nil : (b : Bool) (x : A) → (unless b x ≡ []) ↔ T b
  unless_nil true x = ((λ e. tt), (λ t. refl))
  unless_nil false x = ((λ e. cons≢nil e), (λ t. absurd t))

  pub unless_all : (p : A → Bool) (b : Bool) (x : A) → T (all p (unless b x)) ↔ ((T b → ⊥) → T (p x))
  unless_all p true x = ((λ h f. absurd (f tt)), (λ h. tt))
  unless_all p false x = ((λ h f. (one_all p x).0 h), (λ h. (one_all p x).1 (h (λ t. t))))

  pub unless_one : (b : Bool) (x : A) → (T b → ⊥) → unless b x ≡ x ∷ []
  unless_one true x f = absurd (f tt)
  unless_one false x f = refl

  pub append_nil_iff : (s t : List A) → (s ++ t ≡ []) ↔ ((s ≡ []) × (t ≡ []))
  append_nil_iff [] t = ((λ e. (refl, e)), (λ e. e.1))
  append_nil_iff (x ∷ s) t = ((λ e. absurd (cons≢nil e)), (λ e. absurd (cons≢nil e.0)))

  pub for_nil : (n : ℕ) (f : ℕ → List A) → (for n f ≡ []) ↔ ((i : ℕ) → i < n → f i ≡ [])
  for_nil zero f = ((λ e. below_zero _), (λ h. refl))
  for_nil (suc n) f = (
    (λ e. let (a, b) = (append_nil_iff (for n f) (f n)).0 e in below_suc _ n ((for_nil n f).0 a) b),
    (λ h. (append_nil_iff (for n f) (f n)).1 ((for_nil n f).1 (λ i l. h i (omega arith)), h n (le_refl (suc n)))),
  )

  -- "w with v < w" runs from v + 1 on; "b with a ≠ b" runs below a, then from a + 1 on
  pub for_above : (v n : ℕ) (f : ℕ → List A) → for n (λ w. when (ltb v w) (f w)) ≡ for (n - suc v) (λ i. f (suc v + i))
  for_above v zero f = rw zero-sub
  for_above v (suc n) f =
      by_cases (dec_lt v n)
      (λ l.
      let e : suc v + (n - suc v) ≡ n = omega arith in
      let e' : suc n - suc v ≡ suc (n - suc v) = omega arith in
      rw (lt-ltb v n l, e') (ap₂ ◌++◌ (for_above v n f) (ap f (sym e))))
      (λ g.
      let e : suc n - suc v ≡ n - suc v = omega arith in
      rw (le-ltb v n (omega arith), e, append-nil) (for_above v n f))

  pub for_others : (a n : ℕ) → a < n → (f : ℕ → List A)
      → for n (λ b. when (not (eqb a b)) (f b)) ≡ for a f ++ for (n - suc a) (λ i. f (suc a + i))
  for_others a n l f =
      let g : ℕ → List A = λ b. when (not (eqb a b)) (f b) in
      let r : ℕ = n - suc a in
      let e : n ≡ suc a + r = omega arith in
      let low : for (suc a) g ≡ for a f =
      rw (eq-eqb a a refl, append-nil) (for_ext a g f (λ b h. rw (ne_eqb a b (omega arith)))) in
      ap (λ x. for x g) e
      ∙ for_split (suc a) r g
      ∙ ap₂ ◌++◌
      low
      (for_ext r (λ i. g (suc a + i)) (λ i. f (suc a + i)) (λ i h. rw (ne_eqb a (suc a + i) (omega arith))))

  pub each_append : {B : Type 0} (g : A → List B) (s t : List A) → each g (s ++ t) ≡ each g s ++ each g t
  each_append g [] t = refl
  each_append g (x ∷ s) t = rw (each_append g s t, append_assoc)

  pub each_for : {B : Type 0} (g : A → List B) (n : ℕ) (f : ℕ → List A) → each g (for n f) ≡ for n (λ i. each g (f i))
  each_for g zero f = refl
  each_for g (suc n) f = each_append g (for n f) (f n) ∙ ap (λ l. l ++ each g (f n)) (each_for g n f)

  pub each_when : {B : Type 0} (g : A → List B) (b : Bool) (l : List A) → each g (when b l) ≡ when b (each g l)
  each_when g true l = refl
  each_when g false l = refl
