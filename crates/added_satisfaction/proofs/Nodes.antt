-- A node's clauses under a valuation: one of them, a row of them, and all in one list.
use mathlib.Core.Path.{◌≡◌, refl, ◌∙◌, ap, ap₂, subst}
use mathlib.Core.Logic.{◌↔◌, ◌⊎◌, inl, inr, ⊎_elim, by_cases}
use mathlib.Core.List.{List, [], ◌∷◌, ◌++◌}
use Prim.Native.Nat.{ℕ, suc, ◌+◌, ◌-◌, ◌*◌, ◌/◌, ◌%◌, ◌≤◌, ◌<◌, min}
use native.Mathlib.Nat.{div-add-mod', mod-lt, suc-mul, mul-le-mul, mul-le-mul_right, zero-div, zero-mod, zero-mul}
use native.Mathlib.Numerals.{add-one}
use native.Mathlib.Decide.{dec_lt}
use native.Mathlib.Omega.{arith}
use borrow.Author.Tests.{lt-ltb}
use lib.ListN.{length}
use Rattle.std.specs.Prelude.{Option, None, Some}
use lib.Dec.{T, ltb, leb}
use lib.IntN.{ℤ}
use Rattle.lists.specs.Loop.{for, when}
use Rattle.lists.proofs.Tests.{or_iff, leb_iff}
use Rattle.lists.proofs.Loops.{for_ext, for_split}
use Rattle.lists.proofs.Blocks.{place_lt, quotient, remainder, for_flat, cell_at}
use Rattle.answers.specs.Fault.{FirstFault}
use Rattle.answers.proofs.Faults.{fault_at, fault_none}
use Rattle.formula.specs.Formula.{Clause}
use Rattle.valuation.specs.Valuation.{true?, satisfied?}
use Rattle.valuation.specs.Satisfying.{Valuation}
use Rattle.satisfaction.specs.Rows.{Fault, Stop}
use Rattle.satisfaction.proofs.Laws.{singles}
use Rattle.ceiling.specs.Tree.{join, joins, on, off}
use Rattle.ceiling.proofs.Tree.{join_iff, one_of}
use Rattle.ceiling.proofs.Counts.{count_joins}
use Rattle.ceiling.proofs.Entries.{clash}
use Rattle.counting.specs.declared.Node.{Node}
use Rattle.added_satisfaction.specs.Search.{Passes, Fails, Stops, FirstOf, cell, follows, Within}
use Rattle.added_satisfaction.proofs.Truth.{off_iff, two_iff}

module _ (es : List ℤ) (w : Valuation (length es) es) (d : Node) (fit : Within es d) where
  open d use {a, b, p, q, o}

  abbrev c : ℕ
  c = d.ceiling.c

  -- output i is true, or its negation is
  decided : (p i : ℕ) → p + i ≤ length es → (0 < i → T (true? es (on (p + i)))) ⊎ ((0 < i) × T (true? es (off (p + i))))
  decided p i l =
      ⊎_elim
      (λ t. inl (λ h. t))
      (λ f. by_cases (dec_lt 0 i) (λ h. inr (h, (off_iff es w (p + i) (omega arith) l).1 f)) (λ h. inl (λ g. absurd (h g))))
      (one_of (true? es (on (p + i)))).0

  -- the clause of i and j: where the two outputs are true, the node's is
  cell_iff : (i j : ℕ) → i ≤ a → j ≤ b → T (cell es d i j)
      ↔ (0 < i + j → (0 < i → T (true? es (on (p + i)))) → (0 < j → T (true? es (on (q + j)))) → T (true? es (on (o + min (i + j) (c + 1)))))
  cell_iff i j x y =
      let l = fit.left.1 in
      let r = fit.right.1 in
      let says = join_iff c (true? es) p q o i j in
      rw add-one (
        (λ t h f g. ⊎_elim
            (λ u. absurd (let z = (leb_iff (i + j) 0).0 u in let n : ⊥ = omega arith in n))
            (λ u. ⊎_elim
            (⊎_elim (λ (z, v). absurd (clash _ es w (p + i) (f z) v)) (λ (z, v). absurd (clash _ es w (q + j) (g z) v)))
            (λ v. v)
            (says.0 u))
            ((or_iff (leb (i + j) 0) (satisfied? es (join c p q o i j))).0 t)),
        (λ t. (or_iff (leb (i + j) 0) (satisfied? es (join c p q o i j))).1
            (by_cases (dec_lt 0 (i + j))
            (λ h. inr (says.1 (⊎_elim
            (λ f. ⊎_elim (λ g. inr (t h f g)) (λ v. inl (inr v)) (decided q j (omega arith)))
            (λ v. inl (inl v))
            (decided p i (omega arith)))))
            (λ h. inl ((leb_iff (i + j) 0).1 (omega arith))))),
      )

  -- none is true behind i on the left, nor behind j on the right, and the node's are up to the sum
  pub all_cells : (i j : ℕ) → ((u : ℕ) → i < u → u ≤ a → T (true? es (on (p + u))) → ⊥) → ((v : ℕ) → j < v → v ≤ b → T (true? es (on (q + v))) → ⊥)
      → ((z : ℕ) → z < min (i + j) (c + 1) → T (true? es (on (o + (z + 1))))) → (u v : ℕ) → u ≤ a → v ≤ b → T (cell es d u v)
  all_cells i j left right own u v x y =
      (cell_iff u v x y).1 (λ h f g.
      by_cases (dec_lt i u) (λ l. absurd (left u l x (f (omega arith)))) (λ l.
      by_cases (dec_lt j v) (λ r. absurd (right v r y (g (omega arith)))) (λ r.
      let e : o + (min (u + v) (c + 1) - 1 + 1) ≡ o + min (u + v) (c + 1) = omega arith in
      subst (λ (x : ℕ). T (true? es (on x))) e (own (min (u + v) (c + 1) - 1) (omega arith)))))

  -- ---- row i
  module _ (i : ℕ) (x : i ≤ a) where
    -- output i of the left is false
    pub row_skipped : 0 < i → (T (true? es (on (p + i))) → ⊥) → FirstFault (b + 1) (cell es d i) (b + 1)
    row_skipped h f = fault_none {r = b + 1} refl (λ j l. (cell_iff i j x (omega arith)).1 (λ z u v. absurd (f (u h))))

    -- it is true, and the node's is false
    pub row_first : 0 < i → T (true? es (on (p + i))) → (T (true? es (on (o + i))) → ⊥) → FirstFault (b + 1) (cell es d i) 0
    row_first h t f =
        let l = fit.left.0 in
        let e : min (i + 0) (c + 1) ≡ i = omega arith in
        fault_at (omega arith) (λ j r. absurd (let n : ⊥ = omega arith in n))
        (λ u. f (subst (λ (z : ℕ). T (true? es (on (o + z)))) e ((cell_iff i 0 x (omega arith)).0 u (omega arith) (λ z. t) (λ z. absurd (let n : ⊥ = omega arith in n)))))

    -- both are true, or i is 0
    row_rest : (0 < i → T (true? es (on (p + i)))) → (0 < i → T (true? es (on (o + i)))) → (r : ℕ)
        → Stop (λ j. satisfied? es (off (q + j) ∷ on (o + min (i + j) (c + 1)) ∷ [])) 1 (b + 1) r → FirstFault (b + 1) (cell es d i) r
    row_rest t u r f =
        let g = fit.right.1 in
        let two : (j : ℕ) → 0 < j → j < b + 1 → T (satisfied? es (off (q + j) ∷ on (o + min (i + j) (c + 1)) ∷ [])) ↔ (T (true? es (on (q + j))) → T (true? es (on (o + min (i + j) (c + 1))))) =
        λ j h l. two_iff es w (q + j) (omega arith) (omega arith) (o + min (i + j) (c + 1)) in
        record {
          within = f.within;
          before = λ j l.
              let m = f.within in
              (cell_iff i j x (omega arith)).1 (λ h g v.
              by_cases (dec_lt 0 j)
              (λ z. (two j z (omega arith)).0 (f.before j z l) (v z))
              (λ z.
              let k = fit.left.0 in
              let e : i ≡ min (i + j) (c + 1) = omega arith in
              subst (λ (y : ℕ). T (true? es (on (o + y)))) e (u (omega arith))));
          here = λ l y.
              let m = f.least in
              f.here l ((two r m l).1 (λ v. (cell_iff i r x (omega arith)).0 y (omega arith) t (λ z. v)));
        }

    pub row_found : (0 < i → T (true? es (on (p + i)))) → (0 < i → T (true? es (on (o + i)))) → (r : Option ℕ)
        → Stops (follows es d i) 1 (b + 1) r → FirstOf (b + 1) (cell es d i) r
    row_found t u None f = row_rest t u (b + 1) f
    row_found t u (Some j) (f, l) = (row_rest t u j f, l)

-- ---- a node's clauses in one list: number n is that of the n + 1st pair i, j
module _ (c p q o a b : ℕ) where
  abbrev pair : ℕ → List Clause
  pair n = when (ltb 0 (n / suc b + n % suc b)) (join c p q o (n / suc b) (n % suc b) ∷ [])

  first_none : pair 0 ≡ []
  first_none = rw (zero-div (suc b), zero-mod (suc b))

  -- the first pair is the only one of two zeros
  later_some : (n : ℕ) → 0 < suc n / suc b + suc n % suc b
  later_some n =
      by_cases (dec_lt 0 (suc n / suc b + suc n % suc b)) (λ h. h) (λ h.
      let u : suc n / suc b ≡ 0 = omega arith in
      let v : suc n % suc b ≡ 0 = omega arith in
      let z = zero-mul (suc b) in
      let e : 0 * suc b + 0 ≡ suc n = rw (u, v) at (div-add-mod' (suc n) (suc b)) in
      omega arith)

  later_one : (n : ℕ) → pair (1 + n) ≡ join c p q o (suc n / suc b) (suc n % suc b) ∷ []
  later_one n = let e : 1 + n ≡ suc n = omega arith in rw (e, lt-ltb 0 (suc n / suc b + suc n % suc b) (later_some n))

  joins_flat : joins c a b p q o ≡ (for (suc a * suc b - 1) λ n. join c p q o (suc n / suc b) (suc n % suc b) ∷ [])
  unfolding joins
  joins_flat =
      let e : suc a * suc b ≡ 1 + (suc a * suc b - 1) = omega (arith, suc-mul a (suc b)) in
      for_flat (suc a) (suc b) (λ i j. when (ltb 0 (i + j)) (join c p q o i j ∷ []))
      ∙ ap (λ (n : ℕ). for n pair) e
      ∙ for_split 1 (suc a * suc b - 1) pair
      ∙ ap₂ ◌++◌ first_none (for_ext (suc a * suc b - 1) _ _ (λ n l. later_one n))

module _ (es : List ℤ) (d : Node) where
  open d use {a, b, p, q, o}

  -- the pair of number n, and its clause
  sat_at : (n : ℕ) → T (cell es d (suc n / suc b) (suc n % suc b)) → T (satisfied? es (join d.ceiling.c p q o (suc n / suc b) (suc n % suc b)))
  sat_at n t =
      ⊎_elim
      (λ u. absurd (let z = (leb_iff (suc n / suc b + suc n % suc b) 0).0 u in let s = later_some d.ceiling.c p q o a b n in let f : ⊥ = omega arith in f))
      (λ u. u)
      ((or_iff (leb (suc n / suc b + suc n % suc b) 0) _).0 t)

  -- what a loop over the rows finds
  module _ (i j : ℕ) (rows : (u : ℕ) → u < i → (v : ℕ) → v < b + 1 → T (cell es d u v)) (f : FirstFault (b + 1) (cell es d i) j) (l : j < b + 1) where
    pub place_some : 1 ≤ i * (b + 1) + j
    place_some =
        by_cases (dec_lt 0 i)
        (λ h. omega (arith, mul-le-mul {n₁ = 1} {m₁ = 1} {n₂ = i} {m₂ = b + 1} h (omega arith)))
        (λ h.
        by_cases (dec_lt 0 j)
        (λ g. omega arith)
        (λ g. absurd (f.here l ((or_iff (leb (i + j) 0) _).1 (inl ((leb_iff (i + j) 0).1 (omega arith)))))))

    before_place : (n : ℕ) → suc n < i * (b + 1) + j → T (cell es d (suc n / suc b) (suc n % suc b))
    before_place n h =
        let u : ℕ = suc n / suc b in
        let v : ℕ = suc n % suc b in
        let e : u * suc b + v ≡ suc n = div-add-mod' (suc n) (suc b) in
        let r : v < suc b = mod-lt (suc n) (omega arith) in
        let w : i * (b + 1) ≡ i * suc b = rw add-one in
        by_cases (dec_lt u i)
        (λ g. rows u g v (omega arith))
        (λ g.
        by_cases (dec_lt i u)
        (λ k. absurd (let m = mul-le-mul_right (suc b) k in let s = suc-mul i (suc b) in let n : ⊥ = omega arith in n))
        (λ k. let x : i ≡ u = omega arith in let y : i * suc b ≡ u * suc b = rw x in subst (λ (z : ℕ). T (cell es d z v)) x (f.before v (omega arith))))

    node_stops : i < a + 1 → Fault es (joins d.ceiling.c a b p q o) (i * (b + 1) + j - 1)
    node_stops h =
        let s = place_some in
        let w : i * (b + 1) ≡ i * suc b = rw add-one in
        let e : suc (i * (b + 1) + j - 1) ≡ i * suc b + j = omega arith in
        let m = place_lt (suc a) (suc b) i j (omega arith) (omega arith) in
        rw (joins_flat d.ceiling.c p q o a b)
        (singles es (suc a * suc b - 1) _ (i * (b + 1) + j - 1) (fault_at (omega arith)
        (λ n g. sat_at n (before_place n (omega arith)))
        (λ t.
        f.here l ((or_iff (leb (i + j) 0) _).1 (inr
        (subst (λ (u : ℕ). T (satisfied? es (join d.ceiling.c p q o u j))) (quotient i (suc b) j (omega arith))
        (subst (λ (v : ℕ). T (satisfied? es (join d.ceiling.c p q o ((i * suc b + j) / suc b) v))) (remainder i (suc b) j (omega arith))
        (subst (λ (x : ℕ). T (satisfied? es (join d.ceiling.c p q o (x / suc b) (x % suc b)))) e t))))))))

  node_size : length (joins d.ceiling.c a b p q o) ≡ (a + 1) * (b + 1) - 1
  node_size = count_joins d.ceiling.c p q o a b ∙ rw (add-one, add-one)

  pub node_fails : (i j : ℕ) → ((u : ℕ) → u < i → (v : ℕ) → v < b + 1 → T (cell es d u v)) → FirstFault (b + 1) (cell es d i) j → j < b + 1
      → i < a + 1 → Fails es (joins d.ceiling.c a b p q o) (i * (b + 1) + j - 1)
  node_fails i j rows f l h =
      record {
        first = node_stops i j rows f l h;
        within = omega (arith, node_size, place_some i j rows f l, place_lt (a + 1) (b + 1) i j h l);
      }

  pub node_passes : (i : ℕ) → i ≡ a + 1 → ((u : ℕ) → u < i → (v : ℕ) → v < b + 1 → T (cell es d u v)) → Passes es (joins d.ceiling.c a b p q o) ((a + 1) * (b + 1) - 1)
  node_passes i e rows =
      let x : (a + 1) * (b + 1) ≡ suc a * suc b = rw (add-one, add-one) in
      record {
        all =
            rw (joins_flat d.ceiling.c p q o a b, x)
            (singles es (suc a * suc b - 1) _ (suc a * suc b - 1) (fault_none {r = suc a * suc b - 1} refl (λ n l.
            let (h, (u, v)) = cell_at (suc a) (suc b) (suc n) (omega arith) in
            sat_at n (rows (suc n / suc b) (omega arith) (suc n % suc b) (omega arith)))));
        count = node_size;
      }
