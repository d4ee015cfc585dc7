-- A fan of edges: those from one vertex to each from another on.
use mathlib.Core.Path.{◌≡◌, refl, sym, ◌∙◌, ap, ap₂, subst}
use mathlib.Core.Logic.Iff
use mathlib.Core.Logic.{◌↔◌, ◌⊎◌, inl, inr, ⊎_elim, by_cases}
use mathlib.Core.List.{List, ◌++◌}
use mathlib.Core.Bool.{Bool, ◌&&◌, ◌||◌, or_assoc}
use Prim.Native.Nat.{ℕ, zero, suc, ◌+◌, ◌-◌, ◌^◌, ◌≤◌, ◌<◌}
use native.Mathlib.Nat.{add-zero, add-suc}
use native.Mathlib.Decide.{ℕ_discrete, dec_lt}
use native.Mathlib.Omega.{arith}
use borrow.Author.Tests.{eq-eqb, ne_eqb, le-leb, lt-leb, lt-ltb, le-ltb}
use borrow.Rule.Slice.PartMut.{put_mid, post_of, mid_len, put_same}
use lib.Bits.{bit_or}
use lib.Dec.{T, leb, ltb, eqb}
use lib.ListN.{length, get_or, take, drop, set, length-set, get_or-append}
use lib.Seq.{get_or-set_same, get_or-set_other, get_or-append-add, length-take-le, set-append_left}
use Rattle.std.proofs.lemmas.List.{set-append_right}
use Rattle.lists.specs.Loop.{some}
use Rattle.lists.proofs.Tests.{or_false, and_true, and_false, T_ext, and_iff, or_iff, eqb_iff, leb_iff, ltb_iff, some_iff}
use Rattle.bits.specs.Bits.{set?, word}
use Rattle.bits.proofs.Bits.{set_or, set_pow, set_between}
use Rattle.instance.specs.Instance.{instance, vertices, edges, low_end, high_end, joins, joined, Edges}
use Rattle.instance.proofs.Graph.{rising}
use Rattle.instance_check.specs.Marked.{Marked, fan}

-- ---- k words from the a-th on, of which one is read or set
module _ (near ys : List ℕ) (a k j : ℕ) (h : a ≤ length near) (l : j < length ys) where
  part_get : get_or (put_mid a k near ys) (a + j) 0 ≡ get_or ys j 0
  part_get =
      let rest = post_of a k near in
      ap (λ (n : ℕ). get_or (put_mid a k near ys) (n + j) 0) (sym (length-take-le a near h))
      ∙ get_or-append-add (take a near) (ys ++ rest) j 0
      ∙ get_or-append ys rest 0 j l

  part_set : (x : ℕ) → put_mid a k near (set ys j x) ≡ set (put_mid a k near ys) (a + j) x
  part_set x =
      let rest = post_of a k near in
      let e : a + j - a ≡ j = omega arith in
      sym (set-append_right (take a near) (ys ++ rest) a (a + j) x (length-take-le a near h) (omega arith)
      ∙ ap (λ (n : ℕ). take a near ++ set (ys ++ rest) n x) e
      ∙ ap (λ (zs : List ℕ). take a near ++ zs) (set-append_left ys rest j x l))

-- ---- the words: the high ends below w are marked
pub record Fanned (near₀ : List ℕ) (low high w : ℕ) (near : List ℕ) : Type 0 where
  pub long : length near ≡ 64
  pub below : (v : ℕ) → v < high → get_or near v 0 ≡ get_or near₀ v 0
  pub marked : (v : ℕ) → high ≤ v → v < w → get_or near v 0 ≡ bit_or (get_or near₀ v 0) (2 ^ low)
  pub beyond : (v : ℕ) → w ≤ v → get_or near v 0 ≡ get_or near₀ v 0

fanned_none : (near : List ℕ) (low high : ℕ) → length near ≡ 64 → Fanned near low high high near
fanned_none near low high n =
    record { long = n; below = λ v l. refl; marked = λ v h l. absurd (let f : ⊥ = omega arith in f); beyond = λ v l. refl }

module _ {near₀ : List ℕ} {low high w : ℕ} {near : List ℕ} (f : Fanned near₀ low high w near) where
  fanned_more : high ≤ w → w < 64 → Fanned near₀ low high (w + 1) (set near w (bit_or (get_or near w 0) (2 ^ low)))
  fanned_more h l =
      record {
        long = simp length-set f.long;
        below = λ v q. get_or-set_other near w v _ 0 (λ e. omega arith) ∙ f.below v q;
        marked = λ v p q.
            by_cases (ℕ_discrete v w)
            (λ e. rw e (get_or-set_same near w _ 0 (omega (arith, f.long)) ∙ ap (λ (x : ℕ). bit_or x (2 ^ low)) (f.beyond w (omega arith))))
            (λ d. get_or-set_other near w v _ 0 d ∙ f.marked v p (omega arith));
        beyond = λ v q. get_or-set_other near w v _ 0 (λ e. omega arith) ∙ f.beyond v (omega arith);
      }

  -- and the low end's word is set
  module _ (o : low < high) (l : high ≤ 64) where
    abbrev last : List ℕ
    last = set near low (bit_or (get_or near low 0) (word w (leb high)))

    pub fanned_length : length last ≡ 64
    fanned_length = simp length-set f.long

    pub fanned_all : (v u : ℕ) → joined last v u ≡ joined near₀ v u || fan low high w v u
    fanned_all v u =
        by_cases (ℕ_discrete v low)
        (λ e.
        rw (e, get_or-set_same near low (bit_or (get_or near low 0) (word w (leb high))) 0 (omega (arith, f.long)), eq-eqb low low refl, lt-leb high low o, and_false, or_false)
        (set_or (get_or near low 0) (word w (leb high)) u ∙ ap₂ ◌||◌ (ap (λ (x : ℕ). set? x u) (f.below low o)) (set_between high w u)))
        (λ d.
        rw (get_or-set_other near low v (bit_or (get_or near low 0) (word w (leb high))) 0 d, ne_eqb low v (λ e. d (sym e)))
        (by_cases (dec_lt v high)
        (λ q. rw (lt-leb high v q, and_false, or_false, f.below v q))
        (λ q.
        by_cases (dec_lt v w)
        (λ r. rw (le-leb high v (omega arith), lt-ltb v w r, and_true, f.marked v (omega arith) r) (set_or (get_or near₀ v 0) (2 ^ low) u ∙ ap (λ (z : Bool). joined near₀ v u || z) (set_pow low u)))
        (λ r. rw (le-ltb v w (omega arith), and_false, and_false, or_false, f.beyond v (omega arith))))))

-- the words from the high end on, up to n, while i of them are marked
pub record Part (near₀ : List ℕ) (low high n i : ℕ) (words : List ℕ) : Type 0 where
  pub long : length words ≡ n - high
  pub within : i ≤ n - high
  pub fanned : Fanned near₀ low high (high + i) (put_mid high (n - high) near₀ words)

module _ (near : List ℕ) (low high n : ℕ) (h : high ≤ n) (l : n ≤ 64) (e : length near ≡ 64) where
  pub part_length : length (take (n - high) (drop high near)) ≡ n - high
  part_length = mid_len high n near (omega (arith, e))

  pub part_none : Part near low high n 0 (take (n - high) (drop high near))
  part_none =
      record {
        long = part_length;
        within = omega arith;
        fanned = rw (put_same high (n - high) near, add-zero) (fanned_none near low high e);
      }

  pub part_more : {i : ℕ} {words : List ℕ} → Part near low high n i words → i < n - high
      → Part near low high n (i + 1) (set words i (bit_or (get_or words i 0) (2 ^ low)))
  part_more {i} {words} w k =
      let a : high ≤ length near = omega (arith, e) in
      let b : i < length words = omega (arith, k, w.long) in
      let s : high + (i + 1) ≡ high + i + 1 = omega arith in
      record {
        long = length-set words i _ ∙ w.long;
        within = omega arith;
        fanned =
            rw (part_set near words high (n - high) i a b (bit_or (get_or words i 0) (2 ^ low)), s, sym (part_get near words high (n - high) i a b))
            (fanned_more w.fanned (omega arith) (omega (arith, k)));
      }

  pub part_all : {i : ℕ} {words : List ℕ} → Part near low high n i words → n - high ≤ i → Fanned near low high n (put_mid high (n - high) near words)
  part_all {i} {words} w k =
      let s : high + i ≡ n = omega (arith, k, w.within) in
      subst (λ (x : ℕ). Fanned near low high x (put_mid high (n - high) near words)) s w.fanned

-- ---- the edges
ends_iff : (a c v u : ℕ) → T (eqb a v && eqb c u) ↔ ((a ≡ v) × (c ≡ u))
ends_iff a c v u = simp (and_iff, eqb_iff) Iff.rfl

span_iff : (a h n v u : ℕ) → T (eqb a v && (leb h u && ltb u n)) ↔ ((a ≡ v) × (h ≤ u) × (u < n))
span_iff a h n v u = simp (and_iff, eqb_iff, leb_iff, ltb_iff) ((λ (x, (y, z)). (x, y, z)), (λ (x, y, z). (x, (y, z))))

some_split : (n m : ℕ) (p : ℕ → Bool) → some (n + m) p ≡ some n p || some m (λ i. p (n + i))
some_split n zero p = rw (add-zero, or_false)
some_split n (suc m) p = rw (add-suc, some_split n m p) (or_assoc (some n p) (some m (λ i. p (n + i))) (p (n + m)))

module _ (b : List ℕ) (g : Edges (instance b 0 1)) where
  pub ends_in : (j : ℕ) → j < edges b → (low_end b j < high_end b j) × (high_end b j < vertices b)
  unfolding instance
  ends_in = g.ends

  later : (i j : ℕ) → i < j → j < edges b → (low_end b i < low_end b j) ⊎ ((low_end b i ≡ low_end b j) × (high_end b i < high_end b j))
  unfolding instance
  later i j = rising (instance b 0 1) g i j

  -- between two edges with one low end, all have it
  same_low : (i d c : ℕ) → d ≤ c → i + c < edges b → low_end b i ≡ low_end b (i + c) → low_end b (i + d) ≡ low_end b i
  same_low i d c l h e =
      by_cases (ℕ_discrete d 0)
      (λ z. rw (z, add-zero))
      (λ z.
      by_cases (ℕ_discrete d c)
      (λ q. rw q (sym e))
      (λ q.
      let x = later i (i + d) (omega arith) (omega arith) in
      let y = later (i + d) (i + c) (omega arith) h in
      ⊎_elim
      (λ s. ⊎_elim (λ t. absurd (let f : ⊥ = omega arith in f)) (λ t. absurd (let f : ⊥ = omega (arith, t.0) in f)) y)
      (λ s. sym s.0)
      x))

  climbs : (i d : ℕ) → i + d < edges b → low_end b i ≡ low_end b (i + d) → high_end b i + d ≤ high_end b (i + d)
  climbs i zero h e = rw (add-zero, add-zero) (omega arith)
  climbs i (suc d) h e =
      let s = same_low i d (suc d) (omega arith) h e in
      let c = climbs i d (omega arith) (sym s) in
      ⊎_elim
      (λ x. absurd (let f : ⊥ = omega arith in f))
      (λ x. omega (arith, x.1))
      (later (i + d) (i + suc d) (omega arith) h)

  module _ (from d : ℕ) (p : 0 < d) (h : from + d ≤ edges b) (e : low_end b from ≡ low_end b (from + (d - 1))) (top : high_end b from + d ≡ vertices b) where
    low_at : (k : ℕ) → k < d → low_end b (from + k) ≡ low_end b from
    low_at k l = same_low from k (d - 1) (omega arith) (omega arith) e

    high_at : (k : ℕ) → k < d → high_end b (from + k) ≡ high_end b from + k
    high_at k l =
        let q : from + k + (d - 1 - k) ≡ from + (d - 1) = omega arith in
        let x = climbs from k (omega arith) (sym (low_at k l)) in
        let y = climbs (from + k) (d - 1 - k) (omega arith) (low_at k l ∙ e ∙ ap (low_end b) (sym q)) in
        let z = (ends_in (from + (d - 1)) (omega arith)).1 in
        omega (arith, ap (high_end b) q)

    fan_iff : (v u : ℕ) → T (some d λ i. joins (instance b 0 1) v u (from + i)) ↔ T (fan (low_end b from) (high_end b from) (vertices b) v u)
    unfolding instance
    fan_iff v u = (
      (λ h.
          let (i, l, t) = (some_iff d _).0 h in
          let x = low_at i l in
          let y = high_at i l in
          (or_iff (eqb (low_end b from) v && _) _).1
          (⊎_elim
          (λ t. let (s, r) = (ends_iff _ _ v u).0 t in inl ((span_iff _ _ _ v u).1 (omega arith, omega arith, omega arith)))
          (λ t. let (s, r) = (ends_iff _ _ u v).0 t in inr ((span_iff _ _ _ u v).1 (omega arith, omega arith, omega arith)))
          ((or_iff (eqb (low_end b (from + i)) v && _) _).0 t))),
      (λ h.
          (some_iff d _).1
          (⊎_elim
          (λ t.
          let (s, r, q) = (span_iff _ _ _ v u).0 t in
          let w = u - high_end b from in
          let x = low_at w (omega arith) in
          let y = high_at w (omega arith) in
          (w, omega arith, (or_iff (eqb (low_end b (from + w)) v && _) _).1 (inl ((ends_iff _ _ v u).1 (omega arith, omega arith)))))
          (λ t.
          let (s, r, q) = (span_iff _ _ _ u v).0 t in
          let w = v - high_end b from in
          let x = low_at w (omega arith) in
          let y = high_at w (omega arith) in
          (w, omega arith, (or_iff (eqb (low_end b (from + w)) v && _) _).1 (inr ((ends_iff _ _ u v).1 (omega arith, omega arith)))))
          ((or_iff (eqb (low_end b from) v && _) _).0 h))),
    )

    pub marked_fan : {near near' : List ℕ} → Marked b from near → length near' ≡ 64
        → ((v u : ℕ) → v < 64 → joined near' v u ≡ joined near v u || fan (low_end b from) (high_end b from) (vertices b) v u)
        → Marked b (from + d) near'
    marked_fan w n f =
        record {
          long = n;
          bits = λ v u l.
              f v u l
              ∙ ap₂ ◌||◌ (w.bits v u l) (sym (T_ext _ _ (fan_iff v u)))
              ∙ sym (some_split from d (joins (instance b 0 1) v u));
        }
