-- What is within a number of edges: a walk that leads anywhere leads there by fewer edges than there are vertices. What a distance is
-- then, and when it is further than a number.
use mathlib.Core.Path.{◌≡◌, refl, sym, subst}
use mathlib.Core.Logic.{◌↔◌, ◌≢◌, ◌⊎◌, inl, inr, ⊎_elim, by_cases}
use mathlib.Core.Bool.{Bool, true, false, not, ◌&&◌, cond}
use Prim.Native.Nat.{ℕ, zero, suc, ◌+◌, ◌-◌, ◌≤◌, ◌<◌}
use native.Mathlib.Nat.{le_refl, eq-or-lt_of_le, le_of_suc-le-suc}
use native.Mathlib.Decide.{ℕ_discrete, dec_lt}
use native.Mathlib.Omega.{arith}
use lib.Dec.{T, eqb}
use Rattle.lists.specs.Loop.{some, first, sum}
use Rattle.lists.proofs.Tests.{and_iff, or_iff, not_iff, eqb_iff, ltb_iff, some_iff, first_iff, first_least}
use Rattle.lists.proofs.Sums.{ind, count_most, count_less, greatest_most}
use Rattle.instance.specs.Instance.{Instance}
use Rattle.distances.specs.Distance.{unreachable, further, within, below, distance_in, start_to_goal, floor}

module _ (n : ℕ) (near : ℕ → ℕ → Bool) where
  pub within_step : (d v u w : ℕ) → u < n → T (within n near d v u) → T (near u w) → T (within n near (suc d) v w)
  unfolding within
  within_step d v u w l p q = (or_iff (within n near d v w) _).1 (inr ((some_iff n _).1 (u, l, (and_iff (within n near d v u) _).1 (p, q))))

  pub within_more : (d v w : ℕ) → T (within n near d v w) → T (within n near (suc d) v w)
  unfolding within
  within_more d v w p = (or_iff (within n near d v w) _).1 (inl p)

  pub within_last : (d v w : ℕ) → T (within n near (suc d) v w) → T (within n near d v w) ⊎ ((u : ℕ) × (u < n) × T (within n near d v u) × T (near u w))
  unfolding within
  within_last d v w h =
      ⊎_elim
      (λ p. inl p)
      (λ p. let (u, l, q) = (some_iff n _).0 p in let (r, s) = (and_iff (within n near d v u) _).0 q in inr (u, l, r, s))
      ((or_iff (within n near d v w) _).0 h)

  pub within_mono : (d e v w : ℕ) → d ≤ e → T (within n near d v w) → T (within n near e v w)
  within_mono d zero v w l h = let q : d ≡ 0 = omega arith in subst (λ (x : ℕ). T (within n near x v w)) q h
  within_mono d (suc e) v w l h =
      ⊎_elim
      (λ q. subst (λ (x : ℕ). T (within n near x v w)) q h)
      (λ k. within_more e v w (within_mono d e v w (le_of_suc-le-suc k) h))
      (eq-or-lt_of_le l)

  within_cons : (d v u w : ℕ) → v < n → T (near v u) → T (within n near d u w) → T (within n near (suc d) v w)
  unfolding within
  within_cons zero v u w l p q = within_step 0 v v w l ((eqb_iff v v).1 refl) (subst (λ (x : ℕ). T (near v x)) ((eqb_iff u w).0 q) p)
  within_cons (suc d) v u w l p q =
      ⊎_elim
      (λ q. within_more (suc d) v w (within_cons d v u w l p q))
      (λ (x, i, s, t). within_step (suc d) v x w i (within_cons d v u x l p s) t)
      (within_last d u w q)

  -- neighbours of each other, walked either way
  pub within_back : ((u w : ℕ) → T (near u w) → (w < n) × T (near w u)) → (d v w : ℕ) → T (within n near d v w) → T (within n near d w v)
  unfolding within
  within_back b zero v w h = (eqb_iff w v).1 (sym ((eqb_iff v w).0 h))
  within_back b (suc d) v w h =
      ⊎_elim
      (λ p. within_more d w v (within_back b d v w p))
      (λ (u, l, p, q). let (i, r) = b u w q in within_cons d w u v i r (within_back b d v u p))
      (within_last d v w h)

  -- ---- while d + 1 edges reach something new, d edges reach more than d vertices
  module _ (v : ℕ) (h : v < n) where
    -- one edge more reaches nothing new
    abbrev Still : ℕ → Type 0
    Still d = (w : ℕ) → w < n → T (within n near (suc d) v w) → T (within n near d v w)

    still_step : (d : ℕ) → Still d → Still (suc d)
    still_step d s w l p =
        ⊎_elim (λ q. q) (λ (u, i, q, r). within_step d v u w i (s u i q) r) (within_last (suc d) v w p)

    -- nor do more
    still_all : (d : ℕ) → Still d → (j : ℕ) → Still (d + j) × ((w : ℕ) → w < n → T (within n near (d + j) v w) → T (within n near d v w))
    still_all d s zero = let e : d ≡ d + 0 = omega arith in
        (subst Still e s, (λ w l p. subst (λ (x : ℕ). T (within n near x v w)) (sym e) p))
    still_all d s (suc j) =
        let (a, b) = still_all d s j in
        let e : suc (d + j) ≡ d + suc j = omega arith in
        (subst Still e (still_step (d + j) a), (λ w l p. b w l (a w l (subst (λ (x : ℕ). T (within n near x v w)) (sym e) p))))

    new? : (d : ℕ) → Still d ⊎ ((w : ℕ) × (w < n) × (T (within n near d v w) → ⊥) × T (within n near (suc d) v w))
    new? d = go (some n new) refl
      where
        new : ℕ → Bool
        new w = not (within n near d v w) && within n near (suc d) v w

        go : (b : Bool) → some n new ≡ b → Still d ⊎ ((w : ℕ) × (w < n) × (T (within n near d v w) → ⊥) × T (within n near (suc d) v w))
        go true e =
            let (w, l, p) = (some_iff n new).0 (subst T (sym e) tt) in
            let (q, r) = (and_iff (not (within n near d v w)) _).0 p in
            inr (w, l, (not_iff (within n near d v w)).0 q, r)
        go false e = inl (λ w l p. cases w l p (within n near d v w) refl)
          where
            cases : (w : ℕ) → w < n → T (within n near (suc d) v w) → (b : Bool) → within n near d v w ≡ b → T b
            cases w l p true q = tt
            cases w l p false q =
                subst T e ((some_iff n new).1 (w, l, (and_iff (not (within n near d v w)) _).1 (subst (λ (b : Bool). T (not b)) (sym q) tt, p)))

    grows : (d : ℕ) → ((j : ℕ) × (j < d) × Still j) ⊎ (suc d ≤ sum n (λ w. ind (within n near d v w)))
    unfolding within
    grows zero = inr (omega (arith, count_less n (λ w. false) (eqb v) (λ w l f. absurd f) v h (λ f. f) ((eqb_iff v v).1 refl)))
    grows (suc d) =
        ⊎_elim
        (λ (j, l, s). inl (j, omega (arith, l), s))
        (λ c.
        ⊎_elim
        (λ s. inl (d, le_refl (suc d), s))
        (λ (w, l, f, t). inr (omega (arith, c, count_less n (within n near d v) (within n near (suc d) v) (λ i k. within_more d v i) w l f t)))
        (new? d))
        (grows d)

    within_all : (d w : ℕ) → w < n → T (within n near d v w) → T (within n near (n - 1) v w)
    within_all d w l p =
        ⊎_elim
        (λ (j, k, s). within_mono j (n - 1) v w (omega (arith, k)) ((still_all j s d).1 w l (within_mono d (j + d) v w (omega arith) p)))
        (λ c. let f : ⊥ = omega (arith, c, count_most n (within n near n v)) in absurd f)
        (grows n)

  -- ---- the lowest number of edges below j, and the mark
  below_cases : (j v w : ℕ) → (T (some j λ d. within n near d v w) × (below n near j v w ≡ first j λ d. within n near d v w))
      ⊎ ((T (some j λ d. within n near d v w) → ⊥) × (below n near j v w ≡ unreachable))
  unfolding below
  below_cases j v w = go (some j λ d. within n near d v w) (first j λ d. within n near d v w)
    where
      go : (b : Bool) (x : ℕ) → (T b × (cond b x unreachable ≡ x)) ⊎ ((T b → ⊥) × (cond b x unreachable ≡ unreachable))
      go true x = inl (tt, refl)
      go false x = inr ((λ t. t), refl)

  -- where it is no mark, it is a number of edges
  pub below_is : (j v w : ℕ) → below n near j v w ≢ unreachable → (below n near j v w < j) × T (within n near (below n near j v w) v w)
  below_is j v w f =
      ⊎_elim
      (λ (t, e). rw e (first_iff j (λ d. within n near d v w) t))
      (λ (t, e). absurd (f e))
      (below_cases j v w)

  -- and none is lower
  below_least : (j v w d : ℕ) → d < j → T (within n near d v w) → below n near j v w ≤ d
  below_least j v w d l p =
      ⊎_elim
      (λ (t, e). rw e (first_least j (λ d. within n near d v w) d l p))
      (λ (t, e). absurd (t ((some_iff j (λ d. within n near d v w)).1 (d, l, p))))
      (below_cases j v w)

  -- ---- the distance
  module _ (few : n ≤ unreachable) (v w : ℕ) (hv : v < n) (hw : w < n) where
    -- where some number of edges leads there, the distance is at most that
    pub distance_most : (d : ℕ) → T (within n near d v w) → (distance_in n near v w ≤ d) × (distance_in n near v w < n)
    distance_most d p =
        let q = below_least n v w (n - 1) (omega arith) (within_all v hv d w hw p) in
        by_cases (dec_lt d n) (λ k. (below_least n v w d k p, omega arith)) (λ k. (omega arith, omega arith))

    -- further than t is what t edges do not reach
    pub further_iff : (t : ℕ) → T (further t (distance_in n near v w)) ↔ (T (within n near t v w) → ⊥)
    further_iff t = (
      (λ f p.
          let (q, r) = distance_most t p in
          ⊎_elim
          (λ e. let z = (eqb_iff (distance_in n near v w) unreachable).0 e in omega arith)
          (λ l. let z = (ltb_iff t (distance_in n near v w)).0 l in omega arith)
          ((or_iff (eqb (distance_in n near v w) unreachable) _).0 f)),
      (λ f.
          (or_iff (eqb (distance_in n near v w) unreachable) _).1
          (by_cases (ℕ_discrete (distance_in n near v w) unreachable)
          (λ e. inl ((eqb_iff (distance_in n near v w) unreachable).1 e))
          (λ d.
          let (l, p) = below_is n v w d in
          inr ((ltb_iff t (distance_in n near v w)).1
          (by_cases (dec_lt t (distance_in n near v w)) (λ o. o) (λ o. absurd (f (within_mono (distance_in n near v w) t v w (omega arith) p)))))))),
    )

-- ---- the floor is no more than what no distance from a start to its goal exceeds
pub floor_most : (I : Instance) (x : ℕ) → ((a : ℕ) → a < I.sizes.k → start_to_goal I a ≤ x) → floor I ≤ x
unfolding floor
floor_most I x h = greatest_most I.sizes.k (start_to_goal I) x h
