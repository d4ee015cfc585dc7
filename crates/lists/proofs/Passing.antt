-- How many numbers below i pass a test, and which of them stands at a place, as the library's filter finds them.
use mathlib.Core.Path.{◌≡◌, refl, sym, ◌∙◌, ap, subst}
use mathlib.Core.List.{List, [], ◌∷◌, ◌++◌}
use mathlib.Core.Bool.{Bool, true, false, cond}
use Prim.Native.Nat.{ℕ, zero, suc, ◌+◌, ◌<◌}
use native.Mathlib.Nat.{add-zero, zero-add, add-suc, add_assoc}
use native.Mathlib.Numerals.{add-one}
use native.Mathlib.Omega.{arith}
use lib.ListN.{length}
use lib.Dec.{T}
use Rattle.std.specs.Prelude.{Option, None, Some}
use Rattle.std.specs.List.{filter, range_with_len, slice_get}
use Rattle.std.proofs.lemmas.List.Elements.{filter-append}
use Rattle.std.proofs.lemmas.Option.{none-some, slice_get-get_or}
use Rattle.lists.specs.Loop.{for, when}

-- one more number at the end of a range
range_last : (a n : ℕ) → range_with_len a (suc n) ≡ range_with_len a n ++ (a + n) ∷ []
range_last a zero = rw add-zero refl
range_last a (suc n) = ap (λ (l : List ℕ). a ∷ l) (range_last (a + 1) n ∙ ap (λ (x : ℕ). range_with_len (a + 1) n ++ x ∷ []) (omega arith))

module _ (p : ℕ → Bool) where
  abbrev pub passing : ℕ → ℕ
  passing i = length (for i λ j. when (p j) (j ∷ []))

  -- the numbers from a on that pass
  abbrev among : ℕ → ℕ → List ℕ
  among a n = filter p (range_with_len a n)

  alone : (b : Bool) (x : ℕ) → cond b (x ∷ []) [] ≡ when b (x ∷ [])
  alone true x = refl
  alone false x = refl

  among_for : (n : ℕ) → among 0 n ≡ for n λ j. when (p j) (j ∷ [])
  among_for zero = refl
  among_for (suc n) =
      ap (filter p) (range_last 0 n ∙ ap (λ (x : ℕ). range_with_len 0 n ++ x ∷ []) (zero-add n))
      ∙ filter-append p (range_with_len 0 n) (n ∷ [])
      ∙ ap (λ (l : List ℕ). l ++ filter p (n ∷ [])) (among_for n)
      ∙ ap (λ (l : List ℕ). (for n λ j. when (p j) (j ∷ [])) ++ l) (alone (p n) n)

  pub among_count : (n : ℕ) → length (among 0 n) ≡ passing n
  among_count n = ap length (among_for n)

  -- w is the one at place k among n numbers from a on
  abbrev At : ℕ → ℕ → ℕ → ℕ → Type 0
  At a n k w = (i : ℕ) × (i < n) × (w ≡ a + i) × T (p w) × (length (among a i) ≡ k)

  at_place : (a n k w : ℕ) → slice_get (among a n) k ≡ Some w → At a n k w
  at_place a zero k w e = absurd (none-some w e)
  at_place a (suc n) k w e = go (at_place (a + 1) n) (p a) refl k e
    where
      go : ((k w : ℕ) → slice_get (among (a + 1) n) k ≡ Some w → At (a + 1) n k w) → (b : Bool) → p a ≡ b → (k : ℕ) → slice_get (cond b (a ∷ among (a + 1) n) (among (a + 1) n)) k ≡ Some w → At a (suc n) k w
      go rec true h zero e =
          let s : a ≡ w = cc in
          (0, omega arith, sym s ∙ sym (add-zero a), subst (λ (x : ℕ). T (p x)) s (subst T (sym h) tt), refl)
      go rec true h (suc k) e =
          let (i, l, q, t, c) = rec k w e in
          (suc i, omega arith, omega arith, t, rw h (ap suc c))
      go rec false h k e =
          let (i, l, q, t, c) = rec k w e in
          (suc i, omega arith, omega arith, t, rw h c)

  pub among_at : (n k w : ℕ) → slice_get (among 0 n) k ≡ Some w → (w < n) × T (p w) × (passing w ≡ k)
  among_at n k w e =
      let (i, l, q, t, c) = at_place 0 n k w e in
      let s : i ≡ w = omega arith in
      (omega arith, t, sym (among_count w) ∙ ap (λ (x : ℕ). length (among 0 x)) (sym s) ∙ c)

  pub among_none : (n k : ℕ) → slice_get (among 0 n) k ≡ None → k < passing n → ⊥
  among_none n k e l = none-some _ (sym e ∙ slice_get-get_or (among 0 n) k 0 (omega (arith, among_count n)))
