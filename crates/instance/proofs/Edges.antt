-- The edges in stored order are the pairs u < v of adjacent vertices, by u, then v.
use mathlib.Core.Path.{◌≡◌, sym, ◌∙◌, ap, ap₂}
use mathlib.Core.Logic.{◌↔◌, inl, ⊎_elim}
use mathlib.Core.List.{List, [], ◌∷◌}
use mathlib.Core.Bool.{Bool}
use Prim.Native.Nat.{ℕ, ◌+◌, ◌*◌, ◌/◌, ◌%◌, ◌<◌}
use native.Mathlib.Nat.{suc-mul, mul-le-mul_right, div-add-mod', add-zero}
use native.Mathlib.Omega.{arith}
use lib.ListN.{length}
use lib.Dec.{T, ltb, eqb}
use Rattle.lists.specs.Loop.{for, when, some}
use Rattle.lists.proofs.Tests.{T_ext, and_iff, ltb_iff, eqb_iff, some_iff}
use Rattle.lists.proofs.Loops.{for_ext}
use Rattle.lists.proofs.Blocks.{for1_length, place_lt, place_inj, quotient, remainder, for_flat}
use Rattle.lists.proofs.Sums.{for_sum, sum_le}
use Rattle.lists.proofs.Rising.{when_yes, rising_for}
use Rattle.instance.specs.Instance.{Instance, adjacent, upward, higher, edges_before, Edges}
use Rattle.instance.proofs.Graph.{adjacent_iff, rising}

-- an edge comes before the low end n
pub edge_below : (near : ℕ → ℕ → Bool) (n u v : ℕ) → u < n → v < n → T (upward near u v) → edges_before near n u v < edges_before near n n 0
unfolding edges_before
edge_below near n u v l r t =
    let up : ℕ → List ℕ = λ w. when (upward near u w) (w ∷ []) in
    let one : length (up v) ≡ 1 = ap length (when_yes (upward near u v) (v ∷ []) t) in
    omega (arith, for_sum v up, for_sum n up, sum_le n (λ w. length (up w)) v r, sum_le n (λ x. length (higher near x n)) u l)

module _ (I : Instance) (g : Edges I) where
  open I use {sizes, low, high}
  open sizes use {n, e}

  -- the place of an edge's ends among all pairs
  abbrev place : ℕ → ℕ
  place j = low j * n + high j

  places_rise : (i j : ℕ) → i < j → j < e → place i < place j
  places_rise i j l r =
      let h = (g.ends i (omega arith)).1 in
      ⊎_elim
      (λ o. omega (arith, suc-mul (low i) n, mul-le-mul_right n o))
      (λ (u, o). omega (arith, ap (λ (x : ℕ). x * n) u))
      (rising I g i j l r)

  -- u and v are the low and the high end of an edge
  edge_iff : (u v : ℕ) → v < n → T (some e λ j. eqb (place j) (u * n + v)) ↔ T (upward (adjacent I) u v)
  edge_iff u v r = (
    (λ t.
        let (j, l, x) = (some_iff e (λ j. eqb (place j) (u * n + v))).0 t in
        let (o, h) = g.ends j l in
        let (y, z) = place_inj n (low j) (high j) u v h r ((eqb_iff (place j) (u * n + v)).0 x) in
        (and_iff (ltb u v) _).1 ((ltb_iff u v).1 (omega arith), (adjacent_iff I u v).1 (j, l, inl (y, z)))),
    (λ t.
        let (o, a) = (and_iff (ltb u v) (adjacent I u v)).0 t in
        let o' = (ltb_iff u v).0 o in
        let (j, l, x) = (adjacent_iff I u v).0 a in
        let h = (g.ends j l).0 in
        ⊎_elim
        (λ (y, z). (some_iff e (λ j. eqb (place j) (u * n + v))).1 (j, l, (eqb_iff (place j) (u * n + v)).1 (ap₂ (λ (x y : ℕ). x * n + y) y z)))
        (λ (y, z). let f : ⊥ = omega arith in absurd f)
        x),
  )

  pub edges_for : {A : Type 0} (f : ℕ → ℕ → List A)
      → for e (λ j. f (low j) (high j)) ≡ for n λ u. for n λ v. when (upward (adjacent I) u v) (f u v)
  edges_for f =
      for_ext e _ _ (λ j l. let h = (g.ends j l).1 in ap₂ f (sym (quotient (low j) n (high j) h)) (sym (remainder (low j) n (high j) h)))
      ∙ rising_for e place (λ x. f (x / n) (x % n)) places_rise (n * n) (λ j l. let (o, h) = g.ends j l in place_lt n n (low j) (high j) (omega arith) h)
      ∙ for_ext (n * n) _ _ (λ x l. ap (λ (y : ℕ). when (some e λ j. eqb (place j) y) (f (x / n) (x % n))) (sym (div-add-mod' x n)))
      ∙ sym (for_flat n n (λ u v. when (some e λ j. eqb (place j) (u * n + v)) (f u v)))
      ∙ for_ext n _ _ (λ u l. for_ext n _ _ (λ v r. ap (λ (t : Bool). when t (f u v)) (T_ext (some e λ j. eqb (place j) (u * n + v)) (upward (adjacent I) u v) (edge_iff u v r))))

  -- all of them come before a low end n
  pub edges_counted : e ≡ edges_before (adjacent I) n n 0
  unfolding edges_before
  edges_counted = sym (for1_length e high) ∙ ap length (edges_for (λ u v. v ∷ [])) ∙ for_sum n _ ∙ sym (add-zero _)
