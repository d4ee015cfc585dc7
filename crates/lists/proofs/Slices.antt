-- A slice that is filled from its start.
use mathlib.Core.Path.{◌≡◌, refl, sym, ◌∙◌, ap, ap₂}
use mathlib.Core.Logic.{⊎_elim}
use mathlib.Core.List.{List, [], ◌∷◌, ◌++◌, append-nil, append_assoc}
use Prim.Native.Nat.{ℕ, zero, suc, ◌+◌, ◌-◌, ◌≤◌, ◌<◌}
use native.Mathlib.Nat.{zero-add, le_refl, eq-or-lt_of_le, le_of_suc-le-suc}
use native.Mathlib.Numerals.{add-one}
use native.Mathlib.Omega.{arith}
use borrow.Rule.Slice.PartMut.{put_mid}
use lib.ListN.{length, get_or, replicate, take, drop, set, length-set, length-append, length-take, length-drop, drop_of_length-le, take-append-drop}
use lib.Seq.{get_or-take, get_or-drop, length-take-le, drop-cons, set_at, take_at, drop_at, drop-drop, take_all, sets, sets-eq, take-append_seam, drop-append_seam}
use lib.Arith.{le-zero}
use Rattle.lists.specs.Loop.{for, each}
use Rattle.lists.specs.Slice.{filled, Wrote}
use Rattle.lists.proofs.Loops.{each_for, for_nil}

module _ {A : Type 0} where
  -- n elements from an offset on
  pub part_length : (l : List A) (from n : ℕ) → from + n ≤ length l → length (take n (drop from l)) ≡ n
  part_length l from n h = length-take-le n (drop from l) (simp length-drop (omega arith))

  pub part_get_or : (l : List A) (from n i : ℕ) (d : A) → i < n → get_or (take n (drop from l)) i d ≡ get_or l (from + i) d
  part_get_or l from n i d h = get_or-take n (drop from l) i d h ∙ get_or-drop from l i d

  pub filled_nil : (s : List A) → filled [] s ≡ s
  unfolding filled
  filled_nil s = refl

  -- a slice that holds one value throughout, and beyond its end by default
  pub get_or_alike : (n i : ℕ) (x : A) → get_or (replicate n x) i x ≡ x
  get_or_alike zero i x = refl
  get_or_alike (suc n) zero x = refl
  get_or_alike (suc n) (suc i) x = get_or_alike n i x

  -- what fits changes no length
  pub filled_length : (out s : List A) → length out ≤ length s → length (filled out s) ≡ length s
  unfolding filled
  filled_length out s h = simp (length-append, length-drop) (omega arith)

  -- all of out, however it is counted
  pub filled_copy : (out s f : List A) → f ≡ take (length out) out ++ drop (length out) s → f ≡ filled out s
  unfolding filled
  filled_copy out s f e = e ∙ ap (λ (k : List A). k ++ drop (length out) s) (take_all (length out) out (le_refl (length out)))

  pub take_filled : (out s : List A) → take (length out) (filled out s) ≡ out
  unfolding filled
  take_filled out s = take-append_seam out (drop (length out) s)

  pub drop_filled : (out s : List A) → drop (length out) (filled out s) ≡ drop (length out) s
  unfolding filled
  drop_filled out s = drop-append_seam out (drop (length out) s)

  -- stores at 0, 1, 2, ..
  pub sets_filled : (out s : List A) → length out ≤ length s → sets s 0 out ≡ filled out s
  unfolding filled
  sets_filled out s h = sets-eq out s 0 (omega arith) ∙ ap (λ (n : ℕ). out ++ drop n s) (zero-add (length out))

  -- one store at the place after out; d is any element
  pub filled_set : (out s : List A) (n : ℕ) (x d : A) → length out ≡ n → n < length s → set (filled out s) n x ≡ filled (out ++ x ∷ []) s
  unfolding filled
  filled_set out s n x d e h = rw (e, drop-cons s n d h, set_at out _ _ x n e, append_assoc, length-append, e, add-one)

  filled_same : (n : ℕ) (f : List A) → length (take n f) ≡ n → filled (take n f) f ≡ f
  unfolding filled
  filled_same n f e = rw e (take-append-drop n f)

  -- more, written to the part of the slice that starts after out: what comes back from a call on `&mut f[n..]` that left ys there
  pub filled_part : (f s out more ys : List A) (n : ℕ) → f ≡ filled out s → length out ≡ n → n ≤ length s
      → ys ≡ filled more (take (length f - n) (drop n f)) → put_mid n (length f - n) f ys ≡ filled (out ++ more) s
  unfolding filled
  filled_part f s out more ys n ef e hn ey =
      let p : take n f ≡ out = ap (take n) ef ∙ take_at out _ n e in
      let q : drop n f ≡ drop n s = ap (drop n) ef ∙ drop_at out _ n e ∙ ap (λ (k : ℕ). drop k s) e in
      let el : length f ≡ length s = ap length ef ∙ filled_length out s (omega arith) in
      let h : length (drop n s) ≤ length f - n = simp length-drop (omega arith) in
      rw (ey, p, q, take_all _ _ h, drop_of_length-le _ h, append-nil, append_assoc, length-append, e, drop-drop)

  -- what a call on `&mut f[n..]` left there, and answered r, together with what stands before it
  pub filled_behind : (f more ys : List A) (n : ℕ) {r : ℕ} → n ≤ length f → Wrote more (take (length f - n) (drop n f)) ys r
      → Wrote (take n f ++ more) f (put_mid n (length f - n) f ys) (n + r)
  filled_behind f more ys n {r} h o =
      let e : length (take n f) ≡ n = simp length-take (omega arith) in (
        simp length-append (rw (e, o.0)),
        filled_part f f (take n f) more ys n (sym (filled_same n f e)) e h o.1,
      )

  -- more than was written before, from the start on
  filled_over : (out more s : List A) → filled (out ++ more) (filled out s) ≡ filled (out ++ more) s
  unfolding filled
  filled_over out more s =
      ap (λ (k : List A). (out ++ more) ++ k)
      (ap (λ (k : ℕ). drop k (out ++ drop (length out) s)) (length-append out more)
      ∙ sym (drop-drop (length more) (length out) (out ++ drop (length out) s))
      ∙ ap (drop (length more)) (drop_at out _ (length out) refl)
      ∙ drop-drop (length more) (length out) s
      ∙ ap (λ (k : ℕ). drop k s) (sym (length-append out more)))

  -- ---- a loop whose turn i writes g i behind what the turns before it wrote, at an offset that it keeps
  module _ (g : ℕ → List A) where
    -- the slice after turn i, as it comes back from a call on `&mut f[at..]` that left ys there
    pub for_turn : (f s ys : List A) (i at : ℕ) → f ≡ filled (for i g) s → at ≡ length (for i g) → at ≤ length s
        → ys ≡ filled (g i) (take (length f - at) (drop at f)) → put_mid at (length f - at) f ys ≡ filled (for (i + 1) g) s
    for_turn f s ys i at ef e h ey = rw add-one (filled_part f s (for i g) (g i) ys at ef (sym e) h ey)

    -- the offset after it
    pub for_next : (i at r : ℕ) → at ≡ length (for i g) → r ≡ length (g i) → at + r ≡ length (for (i + 1) g)
    for_next i at r e er = rw (add-one, length-append, e, er)

    for_grows : (i n : ℕ) → i ≤ n → length (for i g) ≤ length (for n g)
    for_grows i zero h = rw (le-zero h) (le_refl _)
    for_grows i (suc n) h =
        ⊎_elim (λ e. rw e (le_refl _)) (λ l. omega (arith, for_grows i n (le_of_suc-le-suc l), length-append (for n g) (g n))) (eq-or-lt_of_le h)

    -- where there is room for all n turns, there is for turn i
    pub for_room : {i n : ℕ} → i < n → length (for i g) + length (g i) ≤ length (for n g)
    for_room {i} {n} h = omega (arith, for_grows (suc i) n h, length-append (for i g) (g i))

-- ---- The invariant of a loop of n turns, whose turn i writes g i behind what the turns before it wrote. The slice held s and
-- holds f; turn i is next, and it writes at `at`.
pub record Filling {A : Type 0} (g : ℕ → List A) (n : ℕ) (s : List A) (i at : ℕ) (f : List A) : Type 0 where
  pub within : i ≤ n
  pub room : length (for n g) ≤ length s
  pub fits : at ≤ length s
  pub same : length f ≡ length s
  pub here : at ≡ length (for i g)
  pub slice : f ≡ filled (for i g) s

module _ {A : Type 0} {g : ℕ → List A} {n : ℕ} {s : List A} where
  -- before the first turn; turns that write nothing may be left out
  pub filling_from : (i : ℕ) → i ≤ n → for i g ≡ [] → length (for n g) ≤ length s → Filling g n s i 0 s
  filling_from i l e r =
      record {
        within = l;
        room = r;
        fits = omega arith;
        same = refl;
        here = sym (ap length e);
        slice = sym (ap (λ (out : List A). filled out s) e ∙ filled_nil s);
      }

  module _ {i at : ℕ} {f : List A} (w : Filling g n s i at f) where
    -- turn i has room behind what is written
    pub filling_room : i < n → length (g i) ≤ length f - at
    filling_room l = omega (arith, for_room g l, w.room, w.here, w.same)

    -- so it fits into the whole slice
    pub filling_space : i < n → at + length (g i) ≤ length f
    filling_space l = omega (arith, filling_room l, w.fits, w.same)

    -- the turn: a call on `&mut f[at..]` left ys there and answered r
    pub filling_next : i < n → {ys : List A} {r : ℕ} → Wrote (g i) (take (length f - at) (drop at f)) ys r
        → Filling g n s (i + 1) (at + r) (put_mid at (length f - at) f ys)
    filling_next l {ys} {r} o =
        let e : put_mid at (length f - at) f ys ≡ filled (for (i + 1) g) s = for_turn g f s ys i at w.slice w.here w.fits o.1 in
        let q : at + r ≡ length (for (i + 1) g) = for_next g i at r w.here o.0 in
        let fit : at + r ≤ length s = omega (arith, for_room g l, w.room, w.here, o.0) in
        record {
          within = omega arith;
          room = w.room;
          fits = fit;
          same = ap length e ∙ filled_length (for (i + 1) g) s (omega arith);
          here = q;
          slice = e;
        }

    -- the turn: a call on the whole slice left f' there, with all that was written before it, and answered r
    pub filling_on : i < n → {f' : List A} {r : ℕ} → Wrote (take at f ++ g i) f f' r → Filling g n s (i + 1) r f'
    filling_on l {f'} {r} o =
        let p : take at f ≡ for i g = ap₂ take w.here w.slice ∙ take_filled (for i g) s in
        let q : r ≡ length (for (i + 1) g) = rw add-one (o.0 ∙ ap (λ (k : List A). length (k ++ g i)) p) in
        let e : f' ≡ filled (for (i + 1) g) s =
        rw add-one
        (o.1
        ∙ ap₂ (λ (k j : List A). filled (k ++ g i) j) p w.slice
        ∙ filled_over (for i g) (g i) s) in
        let fit : r ≤ length s = omega (arith, for_room g l, w.room, for_next g i (length (for i g)) (length (g i)) refl refl) in
        record {
          within = omega arith;
          room = w.room;
          fits = fit;
          same = ap length e ∙ filled_length (for (i + 1) g) s (omega arith);
          here = q;
          slice = e;
        }

    -- the turn: one element, stored at `at`
    pub filling_set : i < n → (x : A) → g i ≡ x ∷ [] → Filling g n s (i + 1) (at + 1) (set f at x)
    filling_set l x e =
        let one : length (g i) ≡ 1 = ap length e in
        let fit : at + 1 ≤ length s = omega (arith, for_room g l, w.room, w.here) in
        let q : set f at x ≡ filled (for (i + 1) g) s =
        rw add-one
        (ap (λ (k : List A). set k at x) w.slice
        ∙ filled_set (for i g) s at x x (sym w.here) (omega arith)
        ∙ ap (λ (k : List A). filled (for i g ++ k) s) (sym e)) in
        record {
          within = omega arith;
          room = w.room;
          fits = fit;
          same = length-set f at x ∙ w.same;
          here = for_next g i at 1 w.here (sym one);
          slice = q;
        }

    -- all n turns
    pub filling_done : n ≤ i → Wrote (for n g) s f at
    filling_done l =
        let e : i ≡ n = omega (arith, w.within) in
        (w.here ∙ ap (λ (j : ℕ). length (for j g)) e, w.slice ∙ ap (λ (j : ℕ). filled (for j g) s) e)

-- ---- the same, where turn i writes the items g i, each as the elements that h gives it
module _ {A B : Type 0} (h : B → List A) (g : ℕ → List B) {n : ℕ} {s : List A} where
  pub each_filling : length (each h (for n g)) ≤ length s → Filling (λ i. each h (g i)) n s 0 0 s
  each_filling r = filling_from 0 (omega arith) refl (rw (each_for h n g) at r)

  pub each_filling_from : (i : ℕ) → i ≤ n → ((j : ℕ) → j < i → g j ≡ []) → length (each h (for n g)) ≤ length s → Filling (λ i. each h (g i)) n s i 0 s
  each_filling_from i l e r =
      filling_from i l ((for_nil i (λ j. each h (g j))).1 (λ j p. ap (each h) (e j p))) (rw (each_for h n g) at r)

  pub each_filled : {i at : ℕ} {f : List A} → Filling (λ i. each h (g i)) n s i at f → n ≤ i → Wrote (each h (for n g)) s f at
  each_filled w l = rw (each_for h n g) (filling_done w l)
