-- The graph of an instance: its edges are distinct, and the degrees of its vertices add up to 2e.
use mathlib.Core.Path.{◌≡◌, sym, ◌∙◌, ap, ap₂}
use mathlib.Core.Logic.Iff
use mathlib.Core.Logic.{◌↔◌, ◌⊎◌, inl, inr, ⊎_elim, by_cases}
use mathlib.Core.List.{[], ◌∷◌}
use mathlib.Core.Bool.{Bool, ◌&&◌, ◌||◌}
use Prim.Native.Nat.{ℕ, zero, suc, ◌+◌, ◌*◌, ◌<◌}
use native.Mathlib.Nat.{mul_comm, one-mul, not-suc-le-zero, eq-or-lt_of_le, le_of_suc-le-suc}
use native.Mathlib.Decide.{dec_lt}
use native.Mathlib.Omega.{arith}
use lib.Dec.{T, eqb}
use lib.ListN.{length}
use Rattle.lists.specs.Loop.{for, when, sum}
use Rattle.lists.proofs.Tests.{and_iff, or_iff, eqb_iff, some_iff}
use Rattle.lists.proofs.Sums.{ind, ind_and, ind_or, sum_ext, sum_const, sum_mul, sum_add, sum_swap, sum_one, some_count, when_count}
use Rattle.instance.specs.Instance.{Instance, joins, adjacent, degree, Edge, Edges}

lt_irrefl' : {a b : ℕ} → a ≡ b → a < b → ⊥
lt_irrefl' p h = omega arith

module _ (I : Instance) where
  open I use {sizes, low, high}
  open sizes use {n, e}

  -- something for each neighbour of v makes as many as there are neighbours
  pub for_neighbours : {L : Type 0} (v : ℕ) (f : ℕ → L) → length (for n λ w. when (adjacent I v w) (f w ∷ [])) ≡ degree I v
  for_neighbours v f = when_count n (adjacent I v) f ∙ sym (when_count n (adjacent I v) (λ w. w))

  -- edge j has the low end v and the high end w
  abbrev ends? : ℕ → ℕ → ℕ → Bool
  ends? v w j = eqb (low j) v && eqb (high j) w

  ends?_iff : (v w j : ℕ) → T (ends? v w j) ↔ ((low j ≡ v) × (high j ≡ w))
  ends?_iff v w j = simp (and_iff, eqb_iff) Iff.rfl

  -- the test and the proposition
  pub adjacent_iff : (v w : ℕ) → T (adjacent I v w) ↔ Edge I v w
  unfolding adjacent
  adjacent_iff v w = (
    (λ h.
        let (j, l, t) = (some_iff e (joins I v w)).0 h in
        (j, l, ⊎_elim (λ x. inl ((ends?_iff v w j).0 x)) (λ x. inr ((ends?_iff w v j).0 x)) ((or_iff (ends? v w j) _).0 t))),
    (λ (j, l, t).
        (some_iff e (joins I v w)).1
        (j, l, (or_iff (ends? v w j) _).1 (⊎_elim (λ x. inl ((ends?_iff v w j).1 x)) (λ x. inr ((ends?_iff w v j).1 x)) t))),
  )

  module _ (g : Edges I) where
    pub rising : (i j : ℕ) → i < j → j < e → (low i < low j) ⊎ ((low i ≡ low j) × (high i < high j))
    rising i zero l r = absurd (not-suc-le-zero l)
    rising i (suc j) l r =
        ⊎_elim
        (λ q. rw q (g.order j r))
        (λ h.
        ⊎_elim
        (λ x. ⊎_elim (λ y. inl (omega arith)) (λ y. inl (omega arith)) (g.order j r))
        (λ x. ⊎_elim (λ y. inl (omega arith)) (λ y. inr (x.0 ∙ y.0, omega arith)) (g.order j r))
        (rising i j h (omega arith)))
        (eq-or-lt_of_le (le_of_suc-le-suc l))

    distinct : (i j : ℕ) → i < e → j < e → low i ≡ low j → high i ≡ high j → i ≡ j
    distinct i j l r p q =
        by_cases (dec_lt i j)
        (λ h. ⊎_elim (λ x. absurd (lt_irrefl' p x)) (λ x. absurd (lt_irrefl' q x.1)) (rising i j h r))
        (λ h.
        by_cases (dec_lt j i)
        (λ h'. ⊎_elim (λ x. absurd (lt_irrefl' (sym p) x)) (λ x. absurd (lt_irrefl' (sym q) x.1)) (rising j i h' l))
        (λ h'. omega arith))

    adjacent_count : (v w : ℕ) → ind (adjacent I v w) ≡ sum e (λ j. ind (ends? v w j) + ind (ends? w v j))
    unfolding adjacent
    adjacent_count v w =
        some_count e (λ j. ends? v w j || ends? w v j) one
        ∙ sum_ext e _ _ (λ j l. ind_or (ends? v w j) (ends? w v j) (λ x y.
        let (a, b) = (ends?_iff v w j).0 x in
        let (c, d) = (ends?_iff w v j).0 y in
        let o = (g.ends j l).0 in
        omega arith))
      where
        one : (i j : ℕ) → i < e → j < e → T (ends? v w i || ends? w v i) → T (ends? v w j || ends? w v j) → i ≡ j
        one i j l r x y =
            let o = (g.ends i l).0 in
            let o' = (g.ends j r).0 in
            ⊎_elim
            (λ x. let (a, b) = (ends?_iff v w i).0 x in
            ⊎_elim
            (λ y. let (c, d) = (ends?_iff v w j).0 y in distinct i j l r (a ∙ sym c) (b ∙ sym d))
            (λ y. let (c, d) = (ends?_iff w v j).0 y in let f : ⊥ = omega arith in absurd f)
            ((or_iff (ends? v w j) (ends? w v j)).0 y))
            (λ x. let (a, b) = (ends?_iff w v i).0 x in
            ⊎_elim
            (λ y. let (c, d) = (ends?_iff v w j).0 y in let f : ⊥ = omega arith in absurd f)
            (λ y. let (c, d) = (ends?_iff w v j).0 y in distinct i j l r (a ∙ sym c) (b ∙ sym d))
            ((or_iff (ends? v w j) (ends? w v j)).0 y))
            ((or_iff (ends? v w i) (ends? w v i)).0 x)

    single : (j : ℕ) → j < e → sum n (λ v. sum n (λ w. ind (ends? v w j))) ≡ 1
    single j l =
        let (o, h) = g.ends j l in
        sum_ext n _ _ (λ v r.
        sum_ext n _ (λ w. ind (eqb (high j) w) * ind (eqb (low j) v)) (λ w s. ind_and (eqb (low j) v) (eqb (high j) w) ∙ mul_comm _ _)
        ∙ sum_mul n (λ w. ind (eqb (high j) w)) (ind (eqb (low j) v))
        ∙ ap (λ x. x * ind (eqb (low j) v)) (sum_one n (high j) h)
        ∙ one-mul (ind (eqb (low j) v)))
        ∙ sum_one n (low j) (omega arith)

    pub handshake : sum n (degree I) ≡ 2 * e
    handshake =
        sum_ext n _ _ (λ v l. when_count n (adjacent I v) (λ w. w) ∙ sum_ext n _ _ (λ w r. adjacent_count v w) ∙ sum_swap n e (λ w j. ind (ends? v w j) + ind (ends? w v j)))
        ∙ sum_swap n e (λ v j. sum n (λ w. ind (ends? v w j) + ind (ends? w v j)))
        ∙ sum_ext e _ (λ j. 2) (λ j l.
        sum_ext n _ _ (λ v r. sum_add n (λ w. ind (ends? v w j)) (λ w. ind (ends? w v j)))
        ∙ sum_add n (λ v. sum n (λ w. ind (ends? v w j))) (λ v. sum n (λ w. ind (ends? w v j)))
        ∙ ap₂ ◌+◌ (single j l) (sum_swap n n (λ v w. ind (ends? w v j)) ∙ single j l))
        ∙ sum_const e 2
        ∙ mul_comm e 2
