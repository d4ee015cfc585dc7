-- Rising numbers, taken one after another, are the numbers that occur among them, from the lowest on.
use mathlib.Core.Path.{◌≡◌, refl, sym, ◌∙◌, ap, ap₂}
use mathlib.Core.Logic.{by_cases}
use mathlib.Core.List.{List, [], ◌++◌, append-nil}
use mathlib.Core.Bool.{Bool, true, false}
use Prim.Native.Nat.{ℕ, zero, suc, ◌≤◌, ◌<◌}
use native.Mathlib.Nat.{not-suc-le-zero, le_refl}
use native.Mathlib.Decide.{ℕ_discrete, dec_lt}
use native.Mathlib.Omega.{arith}
use lib.Dec.{T, eqb}
use Rattle.lists.specs.Loop.{for, when, some}
use Rattle.lists.proofs.Tests.{some_iff, eqb_iff}

module _ {A : Type 0} where
  pub when_yes : (b : Bool) (l : List A) → T b → when b l ≡ l
  when_yes true l t = refl
  when_yes false l t = absurd t

  pub when_no : (b : Bool) (l : List A) → (T b → ⊥) → when b l ≡ []
  when_no true l f = absurd (f tt)
  when_no false l f = refl

module _ {A : Type 0} (e : ℕ) (q : ℕ → ℕ) (f : ℕ → List A) (rise : (i j : ℕ) → i < j → j < e → q i < q j) where
  abbrev one? : ℕ → Bool
  one? x = some e λ j. eqb (q j) x

  abbrev among : ℕ → List A
  among x = when (one? x) (f x)

  is_among : (j : ℕ) → j < e → among (q j) ≡ f (q j)
  is_among j l = when_yes (one? (q j)) (f (q j)) ((some_iff e (λ i. eqb (q i) (q j))).1 (j, l, (eqb_iff (q j) (q j)).1 refl))

  not_among : (x : ℕ) → ((j : ℕ) → j < e → q j ≡ x → ⊥) → among x ≡ []
  not_among x h = when_no (one? x) (f x) (λ t. let (j, l, u) = (some_iff e (λ j. eqb (q j) x)).0 t in h j l ((eqb_iff (q j) x).0 u))

  -- the first c of them are those below x
  first_among : (x c : ℕ) → c ≤ e → ((j : ℕ) → j < c → q j < x) → ((j : ℕ) → c ≤ j → j < e → x ≤ q j)
      → for c (λ j. f (q j)) ≡ for x among
  first_among zero zero most low high = refl
  first_among zero (suc c) most low high = absurd (not-suc-le-zero (low c (le_refl (suc c))))
  first_among (suc x) zero most low high =
      first_among x zero most (λ j l. absurd (not-suc-le-zero l)) (λ j h l. omega (arith, high j h l))
      ∙ sym (append-nil (for x among))
      ∙ ap (λ (l : List A). for x among ++ l) (sym (not_among x (λ j l u. omega (arith, high j (omega arith) l))))
  first_among (suc x) (suc c) most low high =
      by_cases (ℕ_discrete (q c) x)
      (λ u.
      ap₂ ◌++◌
      (first_among x c (omega arith)
      (λ j l. omega (arith, rise j c l most))
      (λ j h l. by_cases (ℕ_discrete c j) (λ v. omega (arith, ap q v)) (λ d. omega (arith, rise c j (omega arith) l))))
      (sym (ap among (sym u) ∙ is_among c most)))
      (λ d.
      first_among x (suc c) most
      (λ j l. by_cases (ℕ_discrete j c) (λ v. omega (arith, ap q v, low c (le_refl (suc c)))) (λ o. omega (arith, rise j c (omega arith) most, low c (le_refl (suc c)))))
      (λ j h l. omega (arith, high j h l))
      ∙ sym (append-nil (for x among))
      ∙ ap (λ (l : List A). for x among ++ l) (sym (not_among x (λ j l u.
      by_cases (ℕ_discrete j c) (λ v. d (ap q (sym v) ∙ u)) (λ o.
      by_cases (dec_lt j c) (λ h. omega (arith, rise j c h most, low c (le_refl (suc c)))) (λ h. omega (arith, high j (omega arith) l)))))))

  -- all of them, where they are below x
  pub rising_for : (x : ℕ) → ((j : ℕ) → j < e → q j < x) → for e (λ j. f (q j)) ≡ for x among
  rising_for x low = first_among x e (le_refl e) low (λ j h l. omega arith)
