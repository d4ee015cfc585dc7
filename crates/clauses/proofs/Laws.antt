-- The lengths of the longer clauses, and the loops that write them.
use mathlib.Core.Path.{◌≡◌, refl, sym, ◌∙◌, ap, ap₂}
use mathlib.Core.Bool.{Bool, true, false, cond}
use mathlib.Core.List.{List, [], ◌∷◌, ◌++◌, append-nil}
use Prim.Native.Nat.{ℕ, ◌+◌, ◌-◌, ◌≤◌, ◌<◌}
use native.Mathlib.Nat.{add-zero}
use native.Mathlib.Numerals.{add-one}
use native.Mathlib.Omega.{arith}
use borrow.Rule.Slice.PartMut.{put_mid}
use lib.ListN.{length, take, drop, set, length-append, length-set}
use lib.Seq.{set-set}
use lib.IntN.{ℤ, pos}
use Rattle.lists.specs.Loop.{for, when}
use Rattle.lists.specs.Slice.{filled, Wrote}
use Rattle.lists.proofs.Slices.{sets_filled, filled_set, filled_part, for_room, for_next}
use Rattle.lists.proofs.Blocks.{for1_length}
use Rattle.instance.specs.declared.Sizes.{Sizes}
use Rattle.formula.specs.Variables.{X}
use Rattle.formula.specs.Formula.{line, somewhere}

pub line_length : (c : List ℤ) → length (line c) ≡ length c + 1
line_length c = length-append c (pos 0 ∷ [])

pub somewhere_length : (s : Sizes) (t a : ℕ) → length (line (somewhere s t a)) ≡ s.n + 1
somewhere_length s t a = line_length (somewhere s t a) ∙ ap (λ (x : ℕ). x + 1) (for1_length s.n (X s t a))

-- ---- The invariant of a loop of n turns, whose turn i stores a literal at `at` and goes beyond it where a test holds. The slice held
-- s and holds f: with a 0 at `at`, it has the literals of the turns before i, and the 0.
pub record Closing (g : ℕ → List ℤ) (n : ℕ) (s : List ℤ) (i at : ℕ) (f : List ℤ) : Type 0 where
  pub within : i ≤ n
  pub room : length (for n g) + 1 ≤ length s
  pub fits : at < length s
  pub same : length f ≡ length s
  pub here : at ≡ length (for i g)
  pub slice : set f at (pos 0) ≡ filled (line (for i g)) s

module _ {g : ℕ → List ℤ} {n : ℕ} {s : List ℤ} where
  pub closing_from : length (line (for n g)) ≤ length s → Closing g n s 0 0 s
  closing_from r =
      let room : length (for n g) + 1 ≤ length s = omega (arith, line_length (for n g)) in
      record {
        within = omega arith;
        room = room;
        fits = omega arith;
        same = refl;
        here = refl;
        slice = sets_filled (pos 0 ∷ []) s (omega arith);
      }

  module _ {i at : ℕ} {f : List ℤ} (w : Closing g n s i at f) where
    -- the store, whatever stands at `at`
    stored : (x : ℤ) → set f at x ≡ filled (for i g ++ x ∷ []) s
    stored x =
        sym (set-set f at (pos 0) x)
        ∙ ap (λ (k : List ℤ). set k at x) (w.slice ∙ sym (filled_set (for i g) s at (pos 0) (pos 0) (sym w.here) w.fits))
        ∙ set-set (filled (for i g) s) at (pos 0) x
        ∙ filled_set (for i g) s at x x (sym w.here) w.fits

    pub closing_next : i < n → (test : Bool) (x : ℤ) → g i ≡ when test (x ∷ []) → Closing g n s (i + 1) (at + cond test 1 0) (set f at x)
    closing_next l true x e =
        let one : length (g i) ≡ 1 = ap length e in
        let fit : at + 1 < length s = omega (arith, for_room g l, w.room, w.here) in
        let here : at + 1 ≡ length (for (i + 1) g) = for_next g i at 1 w.here (sym one) in
        let all : for i g ++ x ∷ [] ≡ for (i + 1) g = rw add-one (ap (λ (k : List ℤ). for i g ++ k) (sym e)) in
        let end : at + 1 ≡ length (for i g ++ x ∷ []) = here ∙ ap length (sym all) in
        record {
          within = omega arith;
          room = w.room;
          fits = fit;
          same = length-set f at x ∙ w.same;
          here = here;
          slice =
              ap (λ (k : List ℤ). set k (at + 1) (pos 0)) (stored x)
              ∙ filled_set (for i g ++ x ∷ []) s (at + 1) (pos 0) (pos 0) (sym end) fit
              ∙ ap (λ (k : List ℤ). filled (line k) s) all;
        }
    closing_next l false x e =
        let all : for i g ≡ for (i + 1) g = rw (add-one, e, append-nil) in
        rw add-zero (
        record {
          within = omega arith;
          room = w.room;
          fits = w.fits;
          same = length-set f at x ∙ w.same;
          here = w.here ∙ ap length all;
          slice = set-set f at x (pos 0) ∙ w.slice ∙ ap (λ (k : List ℤ). filled (line k) s) all;
        })

    pub closing_done : n ≤ i → (at + 1 ≡ length (line (for n g))) × (set f at (pos 0) ≡ filled (line (for n g)) s)
    closing_done l =
        let e : i ≡ n = omega (arith, w.within) in (
          omega (arith, w.here, ap (λ (j : ℕ). length (for j g)) e, line_length (for n g)),
          w.slice ∙ ap (λ (j : ℕ). filled (line (for j g)) s) e,
        )

-- what was written behind what was written first, by a call on `&mut f[at..]` that left ys there and answered r
pub wrote_behind : (out more s f ys : List ℤ) {at r : ℕ} → Wrote out s f at → at ≤ length s → Wrote more (take (length f - at) (drop at f)) ys r
    → Wrote (out ++ more) s (put_mid at (length f - at) f ys) (at + r)
wrote_behind out more s f ys {at} w l o = (ap₂ (λ (i j : ℕ). i + j) w.0 o.0 ∙ sym (length-append out more), filled_part f s out more ys at w.1 (sym w.0) l o.1)
