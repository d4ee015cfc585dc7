-- The rounds of a breadth-first search from one vertex: round d begins with the vertices that d edges reach and no fewer do.
use mathlib.Core.Path.{◌≡◌, refl, sym, ◌∙◌, ap, ap₂, subst}
use mathlib.Core.Logic.{inl, inr, ⊎_elim}
use mathlib.Core.Bool.{Bool, true, false, not, ◌&&◌, ◌||◌, cond}
use Prim.Native.Nat.{ℕ, zero, suc, ◌+◌, ◌≤◌, ◌<◌}
use native.Mathlib.Nat.{le_refl, add-zero, add-suc}
use native.Mathlib.Omega.{arith}
use borrow.Author.Tests.{ne_eqb}
use lib.Dec.{T, eqb}
use Rattle.lists.specs.Loop.{some, first}
use Rattle.lists.proofs.Tests.{T_ext, and_iff, or_iff, and_false, some_iff, some_none}
use Rattle.distances.specs.Distance.{unreachable, within, below}
use Rattle.distances.proofs.Within.{within_step, within_mono, within_last}

module _ (n : ℕ) (near : ℕ → ℕ → Bool) (v : ℕ) where
  -- w is reached by d edges, and by no fewer
  abbrev pub new : ℕ → ℕ → Bool
  new d w = within n near d v w && not (some d λ i. within n near i v w)

  -- w has a neighbour that is new at d
  abbrev pub spread : ℕ → ℕ → Bool
  spread d w = some n λ u. new d u && near u w

  -- fewer than d + 1 edges are at most d
  fewer : (d w : ℕ) → (some (suc d) λ i. within n near i v w) ≡ within n near d v w
  fewer d w =
      T_ext _ _ (
        (λ t. let (i, l, p) = (some_iff (suc d) (λ i. within n near i v w)).0 t in within_mono n near i d v w (omega arith) p),
        (λ t. (some_iff (suc d) (λ i. within n near i v w)).1 (d, le_refl (suc d), t)),
      )

  -- ---- the three that a round carries on
  pub below_next : (d w : ℕ) → below n near (suc d) v w ≡ cond (new d w) d (below n near d v w)
  unfolding below
  below_next d w = go (some d λ i. within n near i v w) (within n near d v w) (first d λ i. within n near i v w)
    where
      go : (b c : Bool) (x : ℕ) → cond (b || c) (cond b x d) unreachable ≡ cond (c && not b) d (cond b x unreachable)
      go true true x = refl
      go true false x = refl
      go false true x = refl
      go false false x = refl

  pub within_next : (d w : ℕ) → within n near (suc d) v w ≡ within n near d v w || spread d w
  within_next d w = T_ext _ _ (there, back)
    where
      here : (u : ℕ) → u < n → T (within n near d v u) → T (near u w) → (b : Bool) → (some d λ i. within n near i v u) ≡ b
          → T (within n near d v w || spread d w)
      here u l p q true e =
          let (i, k, r) = (some_iff d (λ i. within n near i v u)).0 (subst T (sym e) tt) in
          (or_iff (within n near d v w) _).1 (inl (within_mono n near (suc i) d v w k (within_step n near i v u w l r q)))
      here u l p q false e =
          (or_iff (within n near d v w) _).1 (inr
          ((some_iff n (λ u. new d u && near u w)).1
          (u, l, (and_iff (new d u) _).1 ((and_iff (within n near d v u) _).1 (p, subst (λ (b : Bool). T (not b)) (sym e) tt), q))))

      there : T (within n near (suc d) v w) → T (within n near d v w || spread d w)
      there t =
          ⊎_elim
          (λ p. (or_iff (within n near d v w) _).1 (inl p))
          (λ (u, l, p, q). here u l p q (some d λ i. within n near i v u) refl)
          (within_last n near d v w t)

      back : T (within n near d v w || spread d w) → T (within n near (suc d) v w)
      back t =
          ⊎_elim
          (λ p. within_mono n near d (suc d) v w (omega arith) p)
          (λ p.
          let (u, l, q) = (some_iff n (λ u. new d u && near u w)).0 p in
          let (r, s) = (and_iff (new d u) _).0 q in
          within_step n near d v u w l ((and_iff (within n near d v u) _).0 r).0 s)
          ((or_iff (within n near d v w) _).0 t)

  pub new_next : (d w : ℕ) → new (suc d) w ≡ spread d w && not (within n near d v w)
  new_next d w = ap₂ (λ (a b : Bool). a && not b) (within_next d w) (fewer d w) ∙ go (within n near d v w) (spread d w)
    where
      go : (a b : Bool) → (a || b) && not a ≡ b && not a
      go true true = refl
      go true false = refl
      go false true = refl
      go false false = refl

  -- ---- where nothing is new, nothing follows
  still : (d : ℕ) → ((w : ℕ) → w < n → new d w ≡ false) → (j w : ℕ) → w < n → new (d + j) w ≡ false
  still d h zero w l = ap (λ (x : ℕ). new x w) (add-zero d) ∙ h w l
  still d h (suc j) w l =
      ap (λ (x : ℕ). new x w) (add-suc d j)
      ∙ new_next (d + j) w
      ∙ ap (λ (b : Bool). b && not (within n near (d + j) v w)) (some_none n _ (λ u i. ap (λ (b : Bool). b && near u w) (still d h j u i)))

  pub below_done : (d : ℕ) → ((w : ℕ) → w < n → new d w ≡ false) → (j w : ℕ) → w < n → below n near (d + j) v w ≡ below n near d v w
  below_done d h zero w l = ap (λ (x : ℕ). below n near x v w) (add-zero d)
  below_done d h (suc j) w l =
      ap (λ (x : ℕ). below n near x v w) (add-suc d j)
      ∙ below_next (d + j) w
      ∙ ap (λ (b : Bool). cond b (d + j) (below n near (d + j) v w)) (still d h j w l)
      ∙ below_done d h j w l

  -- ---- nothing beyond n is reached
  module _ (inside : v < n) (beyond : (u w : ℕ) → u < n → n ≤ w → near u w ≡ false) where
    within_beyond : (d w : ℕ) → n ≤ w → within n near d v w ≡ false
    unfolding within
    within_beyond zero w l = ne_eqb v w (omega arith)
    within_beyond (suc d) w l =
        ap₂ ◌||◌ (within_beyond d w l)
        (some_none n _ (λ u i. ap (λ (b : Bool). within n near d v u && b) (beyond u w i l) ∙ and_false (within n near d v u)))

    pub new_beyond : (d w : ℕ) → n ≤ w → new d w ≡ false
    new_beyond d w l = ap (λ (b : Bool). b && not (some d λ i. within n near i v w)) (within_beyond d w l)

  -- ---- round 0
  pub within_none : (w : ℕ) → within n near 0 v w ≡ eqb v w
  unfolding within
  within_none w = refl

  pub below_none : (w : ℕ) → below n near 0 v w ≡ unreachable
  unfolding below
  below_none w = refl
