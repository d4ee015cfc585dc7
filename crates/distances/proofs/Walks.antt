-- A distance is the length of a shortest walk, and the mark stands exactly where there is none.
use mathlib.Core.Path.{◌≡◌, subst}
use mathlib.Core.Logic.{◌↔◌, ◌≢◌, inl, inr, ⊎_elim, by_cases}
use mathlib.Core.Bool.{Bool}
use Prim.Native.Nat.{ℕ, zero, suc, ◌≤◌, ◌<◌}
use native.Mathlib.Nat.{le_refl}
use native.Mathlib.Decide.{ℕ_discrete}
use native.Mathlib.Omega.{arith}
use lib.Dec.{T}
use Rattle.lists.proofs.Tests.{eqb_iff}
use Rattle.instance.specs.Instance.{Instance, adjacent, Edge, Edges}
use Rattle.instance.proofs.Graph.{adjacent_iff}
use Rattle.distances.specs.Distance.{unreachable, further, within, distance}
use Rattle.distances.specs.Walk.{Walk, Shortest, Further, Unreachable}
use Rattle.distances.proofs.Within.{within_step, within_last, within_mono, within_back, below_is, distance_most, further_iff}

module _ (I : Instance) where
  open I use {sizes}
  open sizes use {n}

  abbrev near : ℕ → ℕ → Bool
  near = adjacent I

  -- an edge may be crossed either way
  pub edge_back : (u w : ℕ) → Edge I u w → Edge I w u
  edge_back u w (j, l, t) = (j, l, ⊎_elim (λ x. inr x) (λ x. inl x) t)

  module _ (g : Edges I) where
    edge_inside : (u w : ℕ) → Edge I u w → (u < n) × (w < n)
    edge_inside u w (j, l, t) =
        let (a, b) = g.ends j l in ⊎_elim (λ x. (omega (arith, x), omega (arith, x))) (λ x. (omega (arith, x), omega (arith, x))) t

    walk_within : (d v w : ℕ) → Walk I d v w → T (within n near d v w)
    unfolding Walk within
    walk_within zero v w e = (eqb_iff v w).1 e
    walk_within (suc d) v w (u, p, q) =
        within_step n near d v u w (edge_inside u w q).0 (walk_within d v u p) ((adjacent_iff I u w).1 q)

    within_sym : (d v w : ℕ) → T (within n near d v w) → T (within n near d w v)
    within_sym =
        within_back n near (λ u w t. let e = (adjacent_iff I u w).0 t in ((edge_inside u w e).1, (adjacent_iff I w u).1 (edge_back u w e)))

  within_walk : (d v w : ℕ) → T (within n near d v w) → (j : ℕ) × (j ≤ d) × Walk I j v w
  unfolding Walk within
  within_walk zero v w h = (0, le_refl 0, (eqb_iff v w).0 h)
  within_walk (suc d) v w h =
      ⊎_elim
      (λ p. let (j, l, q) = within_walk d v w p in (j, omega (arith, l), q))
      (λ (u, i, p, r). let (j, l, q) = within_walk d v u p in (suc j, omega (arith, l), (u, q, (adjacent_iff I u w).0 r)))
      (within_last n near d v w h)

  module _ (g : Edges I) (few : n ≤ unreachable) where
    module _ (v w : ℕ) (hv : v < n) (hw : w < n) where
      pub shortest : distance I v w ≢ unreachable → Shortest I v w (distance I v w)
      shortest f =
          let (b, p) = below_is n near n v w f in
          let (j, l, q) = within_walk (distance I v w) v w p in
          let least : (i : ℕ) → Walk I i v w → distance I v w ≤ i =
          λ i r. (distance_most n near few v w hv hw i (walk_within g i v w r)).0 in
          let e : j ≡ distance I v w = omega (arith, l, least j q) in
          record { walk = subst (λ (x : ℕ). Walk I x v w) e q; least = least }

      pub mark_iff : (distance I v w ≡ unreachable) ↔ Unreachable I v w
      mark_iff = (
        (λ e d p. let l = (distance_most n near few v w hv hw d (walk_within g d v w p)).1 in omega arith),
        (λ f.
            by_cases (ℕ_discrete (distance I v w) unreachable)
            (λ e. e)
            (λ d. let (i, p) = below_is n near n v w d in let (j, l, q) = within_walk (distance I v w) v w p in absurd (f j q))),
      )

    -- the test says what the proposition says
    pub further_walk : (v w t : ℕ) → v < n → w < n → T (further t (distance I v w)) ↔ Further I t v w
    further_walk v w t hv hw = (
      (λ f d l p. (further_iff n near few v w hv hw t).0 f (within_mono n near d t v w l (walk_within g d v w p))),
      (λ f. (further_iff n near few v w hv hw t).1 (λ p. let (d, l, q) = within_walk t v w p in f d l q)),
    )

    -- as far there as back
    back_most : (v w : ℕ) → v < n → w < n → distance I v w ≢ unreachable → distance I w v ≤ distance I v w
    back_most v w hv hw f =
        let (b, p) = below_is n near n v w f in (distance_most n near few w v hw hv (distance I v w) (within_sym g (distance I v w) v w p)).0

    pub distance_back : (v w : ℕ) → v < n → w < n → distance I v w ≡ distance I w v
    distance_back v w hv hw =
        by_cases (ℕ_discrete (distance I v w) unreachable)
        (λ e.
        by_cases (ℕ_discrete (distance I w v) unreachable)
        (λ f. omega arith)
        (λ f. let l = back_most w v hw hv f in let (b, p) = below_is n near n w v f in omega arith))
        (λ e.
        let l = back_most v w hv hw e in
        let (b, p) = below_is n near n v w e in
        let k = back_most w v hw hv (λ z. let c : ⊥ = omega arith in c) in omega arith)
