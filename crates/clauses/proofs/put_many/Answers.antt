-- `clauses::put_many` meets its contract. The invariants: the literals of the set bits below w are written, and `gaps` has the bits from w on that are not set. Assumes nothing.
use mathlib.Core.Path.{◌≡◌, refl, sym, ◌∙◌, ap, subst}
use mathlib.Core.Bool.{Bool}
use mathlib.Core.List.{List, [], ◌∷◌}
use Prim.Native.Nat.{ℕ, ◌+◌, ◌-◌, ◌≤◌, ◌<◌}
use native.Mathlib.Omega.{arith}
use mir.Facts.{to_z-of_z}
use borrow.Author.Rules.{sfits_of}
use lib.Bits.{and_le_r}
use lib.Count.{count_trailing_zeros}
use lib.IntN.{ℤ, pos}
use lib.ListN.{length, set, length-set}
use Rattle.lists.specs.Loop.{when}
use Rattle.lists.proofs.Slices.{Filling, filling_from, filling_set, filled_set}
use Rattle.bits.specs.Bits.{bit, set?}
use Rattle.bits.proofs.Bits.{bit_zero}
use Rattle.bits.proofs.Lowest.{filling_skip, tz_below, all_left, other_set, gap_past, gap_below, gap_unset, gaps_next}
use Rattle.formula.specs.Variables.{Literal, X}
use Rattle.formula.specs.Formula.{nearby}
use Rattle.clauses.proofs.Laws.{line_length}
use borrow.Author.Rules.{rules}
use Rattle.clauses.proofs.put_many.Invariants.{lit}
use Rattle.clauses.proofs.put_many.Goals as goal

pub others-gaps-requires : goal.others-gaps-requires
others-gaps-requires c = (c.args.s.limits.n_most, c.requires.t_le_m.2)

pub loop-gaps-init : goal.loop-gaps-init
loop-gaps-init c =
    let room : length (nearby c.args.s.sizes (set? c.args.word) c.args.t.0 c.args.a.0) + 1 ≤ length c.args.f.now = omega (arith, c.requires.a_in_bounds, line_length (nearby c.args.s.sizes (set? c.args.word) c.args.t.0 c.args.a.0)) in
    (filling_from 0 (omega arith) refl (omega (arith, room)), all_left c.others-gaps.ensures c.args.s.limits.n_most)

pub overflow_cast-gap : goal.overflow_cast-gap
overflow_cast-gap c = omega (arith, gap_below c.others-gaps.ensures c.loop-gaps.invariant.1 (omega arith), c.args.s.limits.n_most)

pub loop-w-init : goal.loop-w-init
loop-w-init c = ((λ l h. h), gap_past c.others-gaps.ensures c.loop-gaps.invariant.1 (omega arith), omega arith)

pub positive-requires : goal.positive-requires
positive-requires c = (c.requires.t_le_m.0, c.requires.t_le_m.1, omega (arith, gap_below c.others-gaps.ensures c.loop-gaps.invariant.1 (omega arith)))

pub offset_bounds-f-at : goal.offset_bounds-f-at
offset_bounds-f-at c =
    let literal : ℕ → Literal = X c.args.s.sizes c.args.t.0 c.args.a.0 in
    let literals : ℕ → List Literal = lit c.args.s.sizes c.args.word c.args.t c.args.a in
    let turn2 : (l : List ℤ) → Filling literals c.args.s.sizes.n l c.loop-w.w c.loop-w.at c.loop-w.f
    → Filling literals c.args.s.sizes.n l (c.loop-w.w + 1) (c.loop-w.at + 1) (set c.loop-w.f c.loop-w.at (literal c.loop-w.w)) = λ k h. let l : c.loop-w.w < c.args.s.sizes.n = omega (arith, gap_below c.others-gaps.ensures c.loop-gaps.invariant.1 (omega arith)) in
    filling_set h l (literal c.loop-w.w)
    (ap (λ (b : Bool). when b (literal c.loop-w.w ∷ [])) (other_set c.others-gaps.ensures c.loop-gaps.invariant.1 c.loop-w.w c.loop-w.invariant.2 l (tz_below 64 c.loop-gaps.gaps c.loop-w.w c.loop-w-test.true))) in
    let here2 : Filling literals c.args.s.sizes.n c.args.f.now c.loop-w.w c.loop-w.at c.loop-w.f = c.loop-w.invariant.0 c.args.f.now c.loop-gaps.invariant.0 in
    let q = (turn2 _ here2).fits in let r = here2.same in search rules

pub bounds-f-at : goal.bounds-f-at
bounds-f-at c =
    let literal : ℕ → Literal = X c.args.s.sizes c.args.t.0 c.args.a.0 in
    let literals : ℕ → List Literal = lit c.args.s.sizes c.args.word c.args.t c.args.a in
    let turn2 : (l : List ℤ) → Filling literals c.args.s.sizes.n l c.loop-w.w c.loop-w.at c.loop-w.f
    → Filling literals c.args.s.sizes.n l (c.loop-w.w + 1) (c.loop-w.at + 1) (set c.loop-w.f c.loop-w.at (literal c.loop-w.w)) = λ k h. let l : c.loop-w.w < c.args.s.sizes.n = omega (arith, gap_below c.others-gaps.ensures c.loop-gaps.invariant.1 (omega arith)) in
    filling_set h l (literal c.loop-w.w)
    (ap (λ (b : Bool). when b (literal c.loop-w.w ∷ [])) (other_set c.others-gaps.ensures c.loop-gaps.invariant.1 c.loop-w.w c.loop-w.invariant.2 l (tz_below 64 c.loop-gaps.gaps c.loop-w.w c.loop-w-test.true))) in
    let here2 : Filling literals c.args.s.sizes.n c.args.f.now c.loop-w.w c.loop-w.at c.loop-w.f = c.loop-w.invariant.0 c.args.f.now c.loop-gaps.invariant.0 in
    omega (arith, (turn2 _ here2).fits, here2.same)

pub overflow_add-at : goal.overflow_add-at
overflow_add-at c =
    let literal : ℕ → Literal = X c.args.s.sizes c.args.t.0 c.args.a.0 in
    let literals : ℕ → List Literal = lit c.args.s.sizes c.args.word c.args.t c.args.a in
    let turn2 : (l : List ℤ) → Filling literals c.args.s.sizes.n l c.loop-w.w c.loop-w.at c.loop-w.f
    → Filling literals c.args.s.sizes.n l (c.loop-w.w + 1) (c.loop-w.at + 1) (set c.loop-w.f c.loop-w.at (literal c.loop-w.w)) = λ k h. let l : c.loop-w.w < c.args.s.sizes.n = omega (arith, gap_below c.others-gaps.ensures c.loop-gaps.invariant.1 (omega arith)) in
    filling_set h l (literal c.loop-w.w)
    (ap (λ (b : Bool). when b (literal c.loop-w.w ∷ [])) (other_set c.others-gaps.ensures c.loop-gaps.invariant.1 c.loop-w.w c.loop-w.invariant.2 l (tz_below 64 c.loop-gaps.gaps c.loop-w.w c.loop-w-test.true))) in
    let here2 : Filling literals c.args.s.sizes.n c.args.f.now c.loop-w.w c.loop-w.at c.loop-w.f = c.loop-w.invariant.0 c.args.f.now c.loop-gaps.invariant.0 in
    omega (arith, (turn2 _ here2).fits)

pub overflow_add-w : goal.overflow_add-w
overflow_add-w c = omega (arith, gap_below c.others-gaps.ensures c.loop-gaps.invariant.1 (omega arith), c.args.s.limits.n_most)

pub loop-w-preserved : goal.loop-w-preserved
loop-w-preserved c =
    let literal : ℕ → Literal = X c.args.s.sizes c.args.t.0 c.args.a.0 in
    let literals : ℕ → List Literal = lit c.args.s.sizes c.args.word c.args.t c.args.a in
    let turn2 : (l : List ℤ) → Filling literals c.args.s.sizes.n l c.loop-w.w c.loop-w.at c.loop-w.f
    → Filling literals c.args.s.sizes.n l (c.loop-w.w + 1) (c.loop-w.at + 1) (set c.loop-w.f c.loop-w.at (literal c.loop-w.w)) = λ k h. let l : c.loop-w.w < c.args.s.sizes.n = omega (arith, gap_below c.others-gaps.ensures c.loop-gaps.invariant.1 (omega arith)) in
    filling_set h l (literal c.loop-w.w)
    (ap (λ (b : Bool). when b (literal c.loop-w.w ∷ [])) (other_set c.others-gaps.ensures c.loop-gaps.invariant.1 c.loop-w.w c.loop-w.invariant.2 l (tz_below 64 c.loop-gaps.gaps c.loop-w.w c.loop-w-test.true))) in
    ((λ l h. rw (to_z-of_z (sfits_of c.positive.type_inv), c.positive.ensures) (turn2 l (c.loop-w.invariant.0 l h))), omega arith, omega arith)

pub overflow_add-w-in-loop-gaps : goal.overflow_add-w-in-loop-gaps
overflow_add-w-in-loop-gaps c = omega (arith, gap_below c.others-gaps.ensures c.loop-gaps.invariant.1 (omega arith), c.args.s.limits.n_most)

pub overflow_sub-gaps : goal.overflow_sub-gaps
overflow_sub-gaps c = omega arith

pub loop-gaps-smaller : goal.loop-gaps-smaller
loop-gaps-smaller c = omega (arith, and_le_r c.loop-gaps.gaps (c.loop-gaps.gaps - 1), c.loop-gaps-test.true)

pub loop-gaps-preserved : goal.loop-gaps-preserved
loop-gaps-preserved c =
    let literal : ℕ → Literal = X c.args.s.sizes c.args.t.0 c.args.a.0 in
    let literals : ℕ → List Literal = lit c.args.s.sizes c.args.word c.args.t c.args.a in
    let e : c.loop-w.w ≡ count_trailing_zeros 64 c.loop-gaps.gaps = omega (arith, c.loop-w.invariant.1, c.loop-w-test.false) in (
      filling_skip literals 1 (subst (λ (i : ℕ). Filling literals c.args.s.sizes.n c.args.f.now i c.loop-w.at c.loop-w.f) e (c.loop-w.invariant.0 c.args.f.now c.loop-gaps.invariant.0)) (omega (arith, gap_below c.others-gaps.ensures c.loop-gaps.invariant.1 (omega arith))) (λ u h l.
          let q : u ≡ count_trailing_zeros 64 c.loop-gaps.gaps = omega arith in
          ap (λ (b : Bool). when b (literal u ∷ [])) (ap (set? c.args.word) q ∙ gap_unset c.others-gaps.ensures c.loop-gaps.invariant.1 (omega arith))),
      gaps_next c.others-gaps.ensures c.loop-gaps.invariant.1 (omega arith),
    )

pub loop-w-2-init : goal.loop-w-2-init
loop-w-2-init c = ((λ l h. h), omega arith)

pub positive-requires-in-loop-w-2 : goal.positive-requires-in-loop-w-2
positive-requires-in-loop-w-2 c = search rules

pub offset_bounds-f-at-in-loop-w-2 : goal.offset_bounds-f-at-in-loop-w-2
offset_bounds-f-at-in-loop-w-2 c =
    let literal : ℕ → Literal = X c.args.s.sizes c.args.t.0 c.args.a.0 in
    let literals : ℕ → List Literal = lit c.args.s.sizes c.args.word c.args.t c.args.a in
    let turn3 : (l : List ℤ) → Filling literals c.args.s.sizes.n l c.loop-w-2.w c.loop-w-2.at c.loop-w-2.f
    → Filling literals c.args.s.sizes.n l (c.loop-w-2.w + 1) (c.loop-w-2.at + 1) (set c.loop-w-2.f c.loop-w-2.at (literal c.loop-w-2.w)) = λ k h. filling_set h c.loop-w-2-test.true (literal c.loop-w-2.w)
    (ap (λ (b : Bool). when b (literal c.loop-w-2.w ∷ [])) (other_set c.others-gaps.ensures c.loop-gaps.invariant.1 c.loop-w-2.w c.loop-w-2.invariant.1 c.loop-w-2-test.true (ap (λ (x : ℕ). bit x c.loop-w-2.w) c.loop-gaps-test.false ∙ bit_zero c.loop-w-2.w))) in
    let here3 : Filling literals c.args.s.sizes.n c.args.f.now c.loop-w-2.w c.loop-w-2.at c.loop-w-2.f = c.loop-w-2.invariant.0 c.args.f.now c.loop-gaps.invariant.0 in
    let q = (turn3 _ here3).fits in let r = here3.same in search rules

pub bounds-f-at-in-loop-w-2 : goal.bounds-f-at-in-loop-w-2
bounds-f-at-in-loop-w-2 c =
    let literal : ℕ → Literal = X c.args.s.sizes c.args.t.0 c.args.a.0 in
    let literals : ℕ → List Literal = lit c.args.s.sizes c.args.word c.args.t c.args.a in
    let turn3 : (l : List ℤ) → Filling literals c.args.s.sizes.n l c.loop-w-2.w c.loop-w-2.at c.loop-w-2.f
    → Filling literals c.args.s.sizes.n l (c.loop-w-2.w + 1) (c.loop-w-2.at + 1) (set c.loop-w-2.f c.loop-w-2.at (literal c.loop-w-2.w)) = λ k h. filling_set h c.loop-w-2-test.true (literal c.loop-w-2.w)
    (ap (λ (b : Bool). when b (literal c.loop-w-2.w ∷ [])) (other_set c.others-gaps.ensures c.loop-gaps.invariant.1 c.loop-w-2.w c.loop-w-2.invariant.1 c.loop-w-2-test.true (ap (λ (x : ℕ). bit x c.loop-w-2.w) c.loop-gaps-test.false ∙ bit_zero c.loop-w-2.w))) in
    let here3 : Filling literals c.args.s.sizes.n c.args.f.now c.loop-w-2.w c.loop-w-2.at c.loop-w-2.f = c.loop-w-2.invariant.0 c.args.f.now c.loop-gaps.invariant.0 in
    omega (arith, (turn3 _ here3).fits, here3.same)

pub overflow_add-at-in-loop-w-2 : goal.overflow_add-at-in-loop-w-2
overflow_add-at-in-loop-w-2 c =
    let literal : ℕ → Literal = X c.args.s.sizes c.args.t.0 c.args.a.0 in
    let literals : ℕ → List Literal = lit c.args.s.sizes c.args.word c.args.t c.args.a in
    let turn3 : (l : List ℤ) → Filling literals c.args.s.sizes.n l c.loop-w-2.w c.loop-w-2.at c.loop-w-2.f
    → Filling literals c.args.s.sizes.n l (c.loop-w-2.w + 1) (c.loop-w-2.at + 1) (set c.loop-w-2.f c.loop-w-2.at (literal c.loop-w-2.w)) = λ k h. filling_set h c.loop-w-2-test.true (literal c.loop-w-2.w)
    (ap (λ (b : Bool). when b (literal c.loop-w-2.w ∷ [])) (other_set c.others-gaps.ensures c.loop-gaps.invariant.1 c.loop-w-2.w c.loop-w-2.invariant.1 c.loop-w-2-test.true (ap (λ (x : ℕ). bit x c.loop-w-2.w) c.loop-gaps-test.false ∙ bit_zero c.loop-w-2.w))) in
    let here3 : Filling literals c.args.s.sizes.n c.args.f.now c.loop-w-2.w c.loop-w-2.at c.loop-w-2.f = c.loop-w-2.invariant.0 c.args.f.now c.loop-gaps.invariant.0 in
    omega (arith, (turn3 _ here3).fits)

pub loop-w-2-preserved : goal.loop-w-2-preserved
loop-w-2-preserved c =
    let literal : ℕ → Literal = X c.args.s.sizes c.args.t.0 c.args.a.0 in
    let literals : ℕ → List Literal = lit c.args.s.sizes c.args.word c.args.t c.args.a in
    let turn3 : (l : List ℤ) → Filling literals c.args.s.sizes.n l c.loop-w-2.w c.loop-w-2.at c.loop-w-2.f
    → Filling literals c.args.s.sizes.n l (c.loop-w-2.w + 1) (c.loop-w-2.at + 1) (set c.loop-w-2.f c.loop-w-2.at (literal c.loop-w-2.w)) = λ k h. filling_set h c.loop-w-2-test.true (literal c.loop-w-2.w)
    (ap (λ (b : Bool). when b (literal c.loop-w-2.w ∷ [])) (other_set c.others-gaps.ensures c.loop-gaps.invariant.1 c.loop-w-2.w c.loop-w-2.invariant.1 c.loop-w-2-test.true (ap (λ (x : ℕ). bit x c.loop-w-2.w) c.loop-gaps-test.false ∙ bit_zero c.loop-w-2.w))) in
    ((λ l h. rw (to_z-of_z (sfits_of c.positive-in-loop-w-2.type_inv), c.positive-in-loop-w-2.ensures) (turn3 l (c.loop-w-2.invariant.0 l h))), omega arith)

pub offset_bounds-f-at-2 : goal.offset_bounds-f-at-2
offset_bounds-f-at-2 c =
    let room : length (nearby c.args.s.sizes (set? c.args.word) c.args.t.0 c.args.a.0) + 1 ≤ length c.args.f.now = omega (arith, c.requires.a_in_bounds, line_length (nearby c.args.s.sizes (set? c.args.word) c.args.t.0 c.args.a.0)) in
    let literals : ℕ → List Literal = lit c.args.s.sizes c.args.word c.args.t c.args.a in
    let done : Filling literals c.args.s.sizes.n c.args.f.now c.args.s.sizes.n c.loop-w-2.at c.loop-w-2.f = let e : c.loop-w-2.w ≡ c.args.s.sizes.n = omega (arith, (c.loop-w-2.invariant.0 c.args.f.now c.loop-gaps.invariant.0).within) in
    subst (λ (i : ℕ). Filling literals c.args.s.sizes.n c.args.f.now i c.loop-w-2.at c.loop-w-2.f) e (c.loop-w-2.invariant.0 c.args.f.now c.loop-gaps.invariant.0) in
    let q = done.here in let r = room in search rules

pub slice_set_of-f : goal.slice_set_of-f
slice_set_of-f c =
    let room : length (nearby c.args.s.sizes (set? c.args.word) c.args.t.0 c.args.a.0) + 1 ≤ length c.args.f.now = omega (arith, c.requires.a_in_bounds, line_length (nearby c.args.s.sizes (set? c.args.word) c.args.t.0 c.args.a.0)) in
    let literals : ℕ → List Literal = lit c.args.s.sizes c.args.word c.args.t c.args.a in
    let done : Filling literals c.args.s.sizes.n c.args.f.now c.args.s.sizes.n c.loop-w-2.at c.loop-w-2.f = let e : c.loop-w-2.w ≡ c.args.s.sizes.n = omega (arith, (c.loop-w-2.invariant.0 c.args.f.now c.loop-gaps.invariant.0).within) in
    subst (λ (i : ℕ). Filling literals c.args.s.sizes.n c.args.f.now i c.loop-w-2.at c.loop-w-2.f) e (c.loop-w-2.invariant.0 c.args.f.now c.loop-gaps.invariant.0) in
    omega (arith, done.here, done.same, room)

pub shape_of-f : goal.shape_of-f
shape_of-f c =
    let literals : ℕ → List Literal = lit c.args.s.sizes c.args.word c.args.t c.args.a in
    let done : Filling literals c.args.s.sizes.n c.args.f.now c.args.s.sizes.n c.loop-w-2.at c.loop-w-2.f = let e : c.loop-w-2.w ≡ c.args.s.sizes.n = omega (arith, (c.loop-w-2.invariant.0 c.args.f.now c.loop-gaps.invariant.0).within) in
    subst (λ (i : ℕ). Filling literals c.args.s.sizes.n c.args.f.now i c.loop-w-2.at c.loop-w-2.f) e (c.loop-w-2.invariant.0 c.args.f.now c.loop-gaps.invariant.0) in
    length-set {A = ℤ} c.loop-w-2.f c.loop-w-2.at (pos 0) ∙ done.same

pub returns : goal.returns
returns c =
    let room : length (nearby c.args.s.sizes (set? c.args.word) c.args.t.0 c.args.a.0) + 1 ≤ length c.args.f.now = omega (arith, c.requires.a_in_bounds, line_length (nearby c.args.s.sizes (set? c.args.word) c.args.t.0 c.args.a.0)) in
    let literals : ℕ → List Literal = lit c.args.s.sizes c.args.word c.args.t c.args.a in
    let done : Filling literals c.args.s.sizes.n c.args.f.now c.args.s.sizes.n c.loop-w-2.at c.loop-w-2.f = let e : c.loop-w-2.w ≡ c.args.s.sizes.n = omega (arith, (c.loop-w-2.invariant.0 c.args.f.now c.loop-gaps.invariant.0).within) in
    subst (λ (i : ℕ). Filling literals c.args.s.sizes.n c.args.f.now i c.loop-w-2.at c.loop-w-2.f) e (c.loop-w-2.invariant.0 c.args.f.now c.loop-gaps.invariant.0) in
    ap (λ (l : List ℤ). set l c.loop-w-2.at (pos 0)) done.slice ∙ filled_set (nearby c.args.s.sizes (set? c.args.word) c.args.t.0 c.args.a.0) c.args.f.now c.loop-w-2.at (pos 0) (pos 0) (sym done.here) (omega (arith, done.here, room))
