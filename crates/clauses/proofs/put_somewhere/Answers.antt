-- `clauses::put_somewhere` meets its contract. The invariant: each turn has written its literal behind those before it. Assumes nothing.
use mathlib.Core.Path.{◌≡◌, refl, sym, ◌∙◌, ap}
use mathlib.Core.List.{List, ◌∷◌, [], ◌++◌, append-nil}
use Prim.Native.Nat.{ℕ, ◌<◌, ◌≤◌}
use native.Mathlib.Omega.{arith}
use mir.Facts.{to_z-of_z}
use borrow.Author.Rules.{sfits_of}
use lib.ListN.{length, take, drop, set}
use lib.IntN.{ℤ, pos}
use Rattle.std.proofs.Common.{drop_of_length-le}
use Rattle.std.proofs.lemmas.List.{length-take-le, length-append, length-drop}
use Rattle.instance.specs.declared.Sizes.{Sizes}
use Rattle.lists.specs.Slice.{filled}
use Rattle.lists.proofs.Slices.{Filling, filled_set, filling_from, filling_set, filling_done}
use Rattle.lists.proofs.Blocks.{for1_length}
use Rattle.formula.specs.Variables.{X}
use Rattle.formula.specs.Formula.{line, somewhere}
use Rattle.clauses.proofs.Laws.{somewhere_length}
use Rattle.clauses.proofs.put_somewhere.Goals as goal

module _ (s : Sizes) (t a : ℕ) (f : List ℤ) (h : length (line (somewhere s t a)) ≤ length f) where
  room : s.n < length f
  room = omega (arith, h, somewhere_length s t a)

  -- the part for the literals
  part : length (take s.n f) ≡ s.n
  part = length-take-le s.n f (omega (arith, room))

  -- once it is written, with what stands behind it
  written : {i : ℕ} {x : List ℤ} → Filling (λ v. X s t a v ∷ []) s.n (take s.n f) i i x → s.n ≤ i → x ++ drop s.n f ≡ filled (somewhere s t a) f
  unfolding filled
  written w l =
      let e : length (somewhere s t a) ≡ s.n = for1_length s.n (X s t a) in
      let q : length (take s.n f) ≤ length (somewhere s t a) = omega (arith, e, part) in
      ap (λ (k : List ℤ). k ++ drop s.n f) ((filling_done w l).1 ∙ ap (λ (k : List ℤ). somewhere s t a ++ k) (drop_of_length-le _ q) ∙ append-nil (somewhere s t a))
      ∙ ap (λ (n : ℕ). somewhere s t a ++ drop n f) (sym e)

pub slice_bounds-x-items-end : goal.slice_bounds-x-items-end
slice_bounds-x-items-end c = omega (arith, room c.args.s.sizes c.args.t.0 c.args.a.0 c.args.f.now c.requires.a_in_bounds)

pub slice_bounds-x-items-end-2 : goal.slice_bounds-x-items-end-2
slice_bounds-x-items-end-2 c = sym (part c.args.s.sizes c.args.t.0 c.args.a.0 c.args.f.now c.requires.a_in_bounds)

pub loop-v-init : goal.loop-v-init
loop-v-init c =
    filling_from 0 (omega arith) refl
    (omega (arith, part c.args.s.sizes c.args.t.0 c.args.a.0 c.args.f.now c.requires.a_in_bounds, for1_length c.args.s.sizes.n (X c.args.s.sizes c.args.t.0 c.args.a.0)))

pub loop-v-preserved : goal.loop-v-preserved
loop-v-preserved c =
    rw (to_z-of_z (sfits_of c.positive.type_inv), c.positive.ensures)
    (filling_set c.loop-v.invariant (omega (arith, part c.args.s.sizes c.args.t.0 c.args.a.0 c.args.f.now c.requires.a_in_bounds, c.loop-v-test.true)) _ refl)

pub slice_set_of-f : goal.slice_set_of-f
slice_set_of-f c =
    let room = room c.args.s.sizes c.args.t.0 c.args.a.0 c.args.f.now c.requires.a_in_bounds in
    simp (length-append, length-drop) (omega (arith, c.loop-v.auto.x-items, part c.args.s.sizes c.args.t.0 c.args.a.0 c.args.f.now c.requires.a_in_bounds, room))

pub returns : goal.returns
returns c =
    let s = c.args.s.sizes in
    let t = c.args.t.0 in
    let a = c.args.a.0 in
    let f = c.args.f.now in
    let h = c.requires.a_in_bounds in (
      sym (somewhere_length s t a),
      ap (λ (k : List ℤ). set k s.n (pos 0)) (written s t a f h c.loop-v.invariant (omega (arith, part s t a f h, c.loop-v-test.false)))
          ∙ filled_set (somewhere s t a) f s.n (pos 0) (pos 0) (for1_length s.n (X s t a)) (room s t a f h),
    )
