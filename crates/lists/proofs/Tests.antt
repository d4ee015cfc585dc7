-- Tests as propositions, and what holds of each number below n.
use mathlib.Core.Path.{◌≡◌, refl, sym, ◌∙◌, ap, ap₂, subst}
use mathlib.Core.Logic.{◌↔◌, ◌⊎◌, inl, inr, ⊎_elim}
use mathlib.Core.Bool.{Bool, true, false, not, ◌&&◌, ◌||◌, cond}
use Prim.Native.Nat.{ℕ, zero, suc, ◌+◌, ◌≤◌, ◌<◌}
use native.Mathlib.Nat.{not-suc-le-zero, le_refl, eq-or-lt_of_le, le_of_suc-le-suc, add-zero, add-suc}
use native.Mathlib.Omega.{arith}
use lib.Dec.{T, leb, ltb, eqb, leb→le, le→leb, ltb→lt, lt→ltb, eqb→eq, eqb_refl}
use Rattle.lists.specs.Loop.{some, every, first}

-- ---- a property of each number below n + 1
module _ (P : ℕ → Type 0) where
  pub below_zero : (i : ℕ) → i < 0 → P i
  below_zero i h = absurd (not-suc-le-zero h)

  pub below_suc : (n : ℕ) → ((i : ℕ) → i < n → P i) → P n → (i : ℕ) → i < suc n → P i
  below_suc n h p i l = ⊎_elim (λ e. subst P (sym e) p) (λ k. h i k) (eq-or-lt_of_le (le_of_suc-le-suc l))

-- ---- tests beside true and false
pub either : (a : Bool) → T a ⊎ (T a → ⊥)
either true = inl tt
either false = inr (λ t. t)

pub or_false : (a : Bool) → a || false ≡ a
or_false true = refl
or_false false = refl

pub and_true : (a : Bool) → a && true ≡ a
and_true true = refl
and_true false = refl

pub and_false : (a : Bool) → a && false ≡ false
and_false true = refl
and_false false = refl

-- ---- tests as propositions
pub T_ext : (a b : Bool) → (T a ↔ T b) → a ≡ b
T_ext true true h = refl
T_ext true false h = absurd (h.0 tt)
T_ext false true h = absurd (h.1 tt)
T_ext false false h = refl

pub and_iff : (a b : Bool) → T (a && b) ↔ (T a × T b)
and_iff true true = ((λ t. (tt, tt)), (λ t. tt))
and_iff true false = ((λ t. absurd t), (λ t. t.1))
and_iff false true = ((λ t. absurd t), (λ t. t.0))
and_iff false false = ((λ t. absurd t), (λ t. t.0))

pub or_iff : (a b : Bool) → T (a || b) ↔ (T a ⊎ T b)
or_iff true true = ((λ t. inl tt), (λ t. tt))
or_iff true false = ((λ t. inl tt), (λ t. tt))
or_iff false true = ((λ t. inr tt), (λ t. tt))
or_iff false false = ((λ t. absurd t), ⊎_elim (λ t. t) (λ t. t))

-- the form that `simp` goes into
pub or_imp : (a b : Bool) → T (a || b) ↔ ((T a → ⊥) → T b)
or_imp true b = ((λ t f. absurd (f tt)), (λ h. tt))
or_imp false b = ((λ t f. t), (λ h. h (λ x. x)))

pub not_iff : (a : Bool) → T (not a) ↔ (T a → ⊥)
not_iff true = ((λ t. absurd t), (λ f. f tt))
not_iff false = ((λ t u. u), (λ f. tt))

pub ltb_iff : (a b : ℕ) → T (ltb a b) ↔ (a < b)
ltb_iff a b = (ltb→lt a b, lt→ltb a b)

pub leb_iff : (a b : ℕ) → T (leb a b) ↔ (a ≤ b)
leb_iff a b = (leb→le a b, le→leb a b)

pub eqb_iff : (a b : ℕ) → T (eqb a b) ↔ (a ≡ b)
eqb_iff a b = (eqb→eq a b, λ e. subst (λ (x : ℕ). T (eqb a x)) e (eqb_refl a))

pub every_iff : (n : ℕ) (p : ℕ → Bool) → T (every n p) ↔ ((i : ℕ) → i < n → T (p i))
every_iff zero p = ((λ h. below_zero _), (λ h. tt))
every_iff (suc n) p = (
  (λ h. let (a, b) = (and_iff (every n p) (p n)).0 h in below_suc _ n ((every_iff n p).0 a) b),
  (λ h. (and_iff (every n p) (p n)).1 ((every_iff n p).1 (λ i l. h i (omega arith)), h n (le_refl (suc n)))),
)

pub every_ext : (n : ℕ) (p q : ℕ → Bool) → ((i : ℕ) → i < n → p i ≡ q i) → every n p ≡ every n q
every_ext zero p q h = refl
every_ext (suc n) p q h = ap₂ ◌&&◌ (every_ext n p q (λ i l. h i (omega arith))) (h n (le_refl (suc n)))

pub some_iff : (n : ℕ) (p : ℕ → Bool) → T (some n p) ↔ ((i : ℕ) × (i < n) × T (p i))
some_iff zero p = ((λ h. absurd h), (λ h. absurd (not-suc-le-zero h.1)))
some_iff (suc n) p = (
  (λ h. ⊎_elim (λ a. let r = (some_iff n p).0 a in (r.0, omega (arith, r.1), r.2)) (λ b. (n, le_refl (suc n), b)) ((or_iff (some n p) (p n)).0 h)),
  (λ h. (or_iff (some n p) (p n)).1
      (⊎_elim (λ e. inr (subst (λ (i : ℕ). T (p i)) e h.2)) (λ k. inl ((some_iff n p).1 (h.0, k, h.2))) (eq-or-lt_of_le (le_of_suc-le-suc h.1)))),
)

pub first_iff : (n : ℕ) (p : ℕ → Bool) → T (some n p) → (first n p < n) × T (p (first n p))
first_iff zero p h = absurd h
first_iff (suc n) p h = go (first_iff n p) (some n p) refl
  where
    go : (T (some n p) → (first n p < n) × T (p (first n p))) → (b : Bool) → some n p ≡ b → (cond b (first n p) n < suc n) × T (p (cond b (first n p) n))
    go rec true e = let r = rec (subst T (sym e) tt) in (omega (arith, r.0), r.1)
    go rec false e = (le_refl (suc n), ⊎_elim (λ t. absurd (subst T e t)) (λ t. t) ((or_iff (some n p) (p n)).0 h))

-- no lower number passes
pub first_least : (n : ℕ) (p : ℕ → Bool) (i : ℕ) → i < n → T (p i) → first n p ≤ i
first_least zero p i l t = absurd (not-suc-le-zero l)
first_least (suc n) p i l t = go (some n p) refl (first_least n p i)
  where
    go : (b : Bool) → some n p ≡ b → (i < n → T (p i) → first n p ≤ i) → cond b (first n p) n ≤ i
    go true e rec =
        ⊎_elim
        (λ q. let r = (first_iff n p (subst T (sym e) tt)).0 in omega arith)
        (λ k. rec k t)
        (eq-or-lt_of_le (le_of_suc-le-suc l))
    go false e rec =
        ⊎_elim (λ q. omega arith) (λ k. absurd (subst T e ((some_iff n p).1 (i, k, t)))) (eq-or-lt_of_le (le_of_suc-le-suc l))

pub some_ext : (n : ℕ) (p q : ℕ → Bool) → ((i : ℕ) → i < n → p i ≡ q i) → some n p ≡ some n q
some_ext zero p q h = refl
some_ext (suc n) p q h = ap₂ ◌||◌ (some_ext n p q (λ i l. h i (omega arith))) (h n (le_refl (suc n)))

pub some_none : (n : ℕ) (p : ℕ → Bool) → ((i : ℕ) → i < n → p i ≡ false) → some n p ≡ false
some_none zero p h = refl
some_none (suc n) p h = ap₂ ◌||◌ (some_none n p (λ i l. h i (omega arith))) (h n (le_refl (suc n)))

-- numbers that do not pass may be left out at the end
pub some_skip : (n d : ℕ) (p : ℕ → Bool) → ((i : ℕ) → n ≤ i → i < n + d → p i ≡ false) → some (n + d) p ≡ some n p
some_skip n zero p h = ap (λ (x : ℕ). some x p) (add-zero n)
some_skip n (suc d) p h =
    rw add-suc
    (ap₂ ◌||◌ (some_skip n d p (λ i a b. h i a (omega arith))) (h (n + d) (omega arith) (omega arith)) ∙ or_false (some n p))
