-- The truth of a variable is the entry at its place.
use mathlib.Core.Path.{◌≡◌, refl, sym, ◌∙◌, ap, subst}
use mathlib.Core.Logic.{◌↔◌, ◌⊎◌, inl, inr, ⊎_elim}
use mathlib.Core.List.{List, [], ◌∷◌}
use mathlib.Core.Bool.{Bool, true, not, ◌&&◌, ◌||◌}
use Prim.Native.Nat.{ℕ, zero, suc, ◌+◌, ◌-◌, ◌≤◌, ◌<◌}
use native.Mathlib.Omega.{arith}
use lib.ListN.{length, get_or, take, drop}
use lib.Dec.{T}
use Rattle.std.specs.Prelude.{fold}
use Rattle.lists.specs.Loop.{every}
use lib.IntN.{ℤ, pos, neg_ℤ}
use lib.Signed.{lt_z}
use borrow.Author.Tests.{lt-ltb, eq-eqb}
use Rattle.lists.proofs.Tests.{T_ext, and_iff, or_iff, or_imp, not_iff, every_iff}
use Rattle.lists.proofs.Loops.{any_two}
use Rattle.lists.proofs.Slices.{part_get_or, part_length}
use Rattle.answers.proofs.Faults.{holds, T_true}
use Rattle.valuation.specs.Valuation.{entry, right_entry, same_number, true?, satisfied?}
use Rattle.valuation.specs.Satisfying.{Valuation}
use Rattle.valuation.proofs.Entries.{same_number_iff}
use Rattle.ceiling.specs.Tree.{on, off}
use Rattle.ceiling.proofs.Tree.{one_of}
use Rattle.ceiling.proofs.Entries.{true_at, true_here, either}

-- a literal of variable n + 1 is positive where it is the variable itself
sign : (e : ℤ) (n : ℕ) → (e ≡ pos (suc n)) ⊎ (e ≡ neg_ℤ (pos (suc n))) → lt_z (pos 0) e ≡ same_number e (pos (suc n))
sign e n (inl h) = rw h (lt-ltb 0 (suc n) (omega arith) ∙ sym (eq-eqb (suc n) (suc n) refl))
sign e n (inr h) = rw h refl

-- an assignment's entries are those of a valuation
module _ (es : List ℤ) where
  right_iff : (i : ℕ) → T (right_entry es i) ↔ ((entry es i ≡ pos (suc i)) ⊎ (entry es i ≡ neg_ℤ (pos (suc i))))
  right_iff i =
      let two = or_iff (same_number (entry es i) (pos (suc i))) (same_number (entry es i) (neg_ℤ (pos (suc i)))) in (
        (λ t. ⊎_elim (λ u. inl ((same_number_iff (entry es i) (pos (suc i))).0 u)) (λ u. inr ((same_number_iff (entry es i) (neg_ℤ (pos (suc i)))).0 u)) (two.0 t)),
        (λ o. two.1 (⊎_elim (λ e. inl ((same_number_iff (entry es i) (pos (suc i))).1 e)) (λ e. inr ((same_number_iff (entry es i) (neg_ℤ (pos (suc i)))).1 e)) o)),
      )

  pub valuation : ((i : ℕ) → i < length es → right_entry es i ≡ true) → Valuation (length es) es
  valuation r = record { size = refl; each = λ i l. (right_iff i).0 (holds refl (r i l)) }

  pub right_entries : {n : ℕ} → Valuation n es → (i : ℕ) → i < length es → right_entry es i ≡ true
  right_entries w i l = T_true (right_entry es i) ((right_iff i).1 (w.each i (omega (arith, w.size))))

module _ (es : List ℤ) (w : Valuation (length es) es) (z : ℕ) (p : 1 ≤ z) (q : z ≤ length es) where
  pub read_at : same_number (get_or es (z - 1) (pos 0)) (pos z) ≡ true? es (on z)
  read_at =
      T_ext (same_number (get_or es (z - 1) (pos 0)) (pos z)) (true? es (on z)) (
        (λ t. subst (λ (l : ℤ). T (true? es l)) ((same_number_iff (get_or es (z - 1) (pos 0)) (pos z)).0 t) (true_here _ es w (z - 1) (omega arith))),
        (λ t.
            let (i, l, a, e) = true_at _ es w (pos z) t in
            let a' : z ≡ suc i = a in
            let q : i ≡ z - 1 = omega arith in
            (same_number_iff (get_or es (z - 1) (pos 0)) (pos z)).1 (ap (λ (j : ℕ). get_or es j (pos 0)) (sym q) ∙ e)),
      )

  pub positive : lt_z (pos 0) (get_or es (z - 1) (pos 0)) ≡ true? es (on z)
  positive =
      let e : suc (z - 1) ≡ z = omega arith in
      sign (get_or es (z - 1) (pos 0)) (z - 1) (w.each (z - 1) (omega (arith, w.size))) ∙ ap (λ (u : ℕ). same_number (get_or es (z - 1) (pos 0)) (pos u)) e ∙ read_at

  -- its negation is true where it is not
  pub off_iff : T (true? es (off z)) ↔ (T (true? es (on z)) → ⊥)
  off_iff =
      let e : suc (z - 1) ≡ z = omega arith in
      subst (λ (u : ℕ). T (true? es (off u)) ↔ (T (true? es (on u)) → ⊥)) e (either _ es w (z - 1) (omega arith))

  -- the clause of its negation and another variable
  pub two_iff : (u : ℕ) → T (satisfied? es (off z ∷ on u ∷ [])) ↔ (T (true? es (on z)) → T (true? es (on u)))
  two_iff u =
      let two = any_two (true? es) (off z) (on u) in (
        (λ t y. two.0 t (λ n. off_iff.0 n y)),
        (λ h. two.1 (λ f. h (⊎_elim (λ y. y) (λ n. absurd (f (off_iff.1 n))) (one_of (true? es (on z))).0))),
      )

  pub says_or : (u : ℕ) → not (true? es (on z)) || true? es (on u) ≡ satisfied? es (off z ∷ on u ∷ [])
  says_or u =
      T_ext (not (true? es (on z)) || true? es (on u)) (satisfied? es (off z ∷ on u ∷ [])) (
        (λ t. (two_iff u).1 (λ y. (or_imp (not (true? es (on z))) _).0 t (λ n. (not_iff (true? es (on z))).0 n y))),
        (λ t. (or_imp (not (true? es (on z))) _).1 (λ n. (two_iff u).0 t (⊎_elim (λ y. y) (λ f. absurd (n ((not_iff (true? es (on z))).1 f))) (one_of (true? es (on z))).0))),
      )

-- entry j of the n after z
module _ (es : List ℤ) (w : Valuation (length es) es) (z n : ℕ) (fit : z + n ≤ length es) where
  pub part_true : (j : ℕ) → j < n → lt_z (pos 0) (get_or (take (z + n - z) (drop z es)) j (pos 0)) ≡ true? es (on (z + (j + 1)))
  part_true j l =
      let m : z + n - z ≡ n = omega arith in
      let e : z + j ≡ z + (j + 1) - 1 = omega arith in
      rw (m, part_get_or es z n j (pos 0) l, e) (positive es w (z + (j + 1)) (omega arith) (omega arith))

  pub part_size : length (take (z + n - z) (drop z es)) ≡ n
  part_size = let m : z + n - z ≡ n = omega arith in rw m (part_length es z n fit)

-- ---- a fold that asks a test of each element
module _ {A : Type 0} (t : A → Bool) (d : A) where
  each_at : (x : A) (xs : List A) → T (t x) → ((j : ℕ) → j < length xs → T (t (get_or xs j d))) → (j : ℕ) → j < length (x ∷ xs) → T (t (get_or (x ∷ xs) j d))
  each_at x xs h r zero l = h
  each_at x xs h r (suc j) l = r j (omega arith)

  fold_all : (b : Bool) (xs : List A) → T (fold (λ a x. a && t x) b xs) → T b × ((j : ℕ) → j < length xs → T (t (get_or xs j d)))
  fold_all b [] h = (h, λ j l. absurd (let f : ⊥ = omega arith in f))
  fold_all b (x ∷ xs) h = let (u, r) = fold_all (b && t x) xs h in let (v, w) = (and_iff b (t x)).0 u in (v, each_at x xs w r)

  all_fold : (b : Bool) (xs : List A) → T b → ((j : ℕ) → j < length xs → T (t (get_or xs j d))) → T (fold (λ a x. a && t x) b xs)
  all_fold b [] h r = h
  all_fold b (x ∷ xs) h r = all_fold (b && t x) xs ((and_iff b (t x)).1 (h, r 0 (omega arith))) (λ j l. r (suc j) (omega arith))

  pub fold_every : (xs : List A) (n : ℕ) (p : ℕ → Bool) → length xs ≡ n → ((j : ℕ) → j < n → t (get_or xs j d) ≡ p j) → fold (λ a x. a && t x) true xs ≡ every n p
  fold_every xs n p e same =
      T_ext (fold (λ a x. a && t x) true xs) (every n p) (
        (λ h. (every_iff n p).1 (λ j l. subst T (same j l) ((fold_all true xs h).1 j (omega arith)))),
        (λ h. all_fold true xs tt (λ j l. subst T (sym (same j (omega arith))) ((every_iff n p).0 h j (omega arith)))),
      )
