-- `dimacs::put_line` meets its contract: each part is written behind the one before it. Assumes nothing.
use mathlib.Core.Path.{◌≡◌, refl, sym, ◌∙◌, ap}
use mathlib.Core.List.{List, ◌++◌, append_assoc}
use Prim.Native.Nat.{ℕ, ◌+◌}
use native.Mathlib.Omega.{arith}
use lib.ListN.{length, length-take, length-drop, length-append}
use Rattle.lists.specs.Slice.{filled}
use Rattle.lists.proofs.Slices.{filled_part}
use Rattle.dimacs.specs.Text.{ended}
use Rattle.decimals.proofs.Laws.{length_any}
use borrow.Rule.Slice.PartMut.{put_mid}
use Rattle.dimacs.proofs.put_line.Goals as goal

-- after `s[0..n].copy_from_slice(label)`, where n is the length of label
copied : (label s ys : List ℕ) (n : ℕ) → n ≡ length label → ys ≡ label → put_mid 0 n s ys ≡ filled label s
unfolding filled
copied label s ys n q e = rw (q, e) refl

pub put_ended-requires : goal.put_ended-requires
put_ended-requires c = simp (length-take, length-drop) (omega (arith, length_any c.args.x c.ranges.x.fits))

pub overflow_add-to : goal.overflow_add-to
overflow_add-to c = omega (arith, c.put_ended.ensures.1)

pub slice_bounds-put_ended-count-2 : goal.slice_bounds-put_ended-count-2
slice_bounds-put_ended-count-2 c = omega (arith, c.put_ended.ensures.1)

pub slice_bounds-put_ended-start-2 : goal.slice_bounds-put_ended-start-2
slice_bounds-put_ended-start-2 c = omega (arith, c.put_ended.ensures.1)

pub put_ended-requires-2 : goal.put_ended-requires-2
put_ended-requires-2 c = simp (length-take, length-drop) (omega (arith, length_any c.args.y c.ranges.y.fits, c.put_ended.ensures.1))

pub overflow_add-result : goal.overflow_add-result
overflow_add-result c = omega (arith, c.put_ended.ensures.1, c.put_ended-2.ensures.1)

pub returns : goal.returns
returns c =
    let s = c.args.out.now in
    let label = c.args.label.now in
    let x : List ℕ = ended c.args.x 32 in
    let y : List ℕ = ended c.args.y 10 in
    let n : length label + c.put_ended.result ≡ length (label ++ x) = omega (arith, c.put_ended.ensures.0.0, length-append label x) in
    let e = filled_part (put_mid 0 (length label) s c.copy_from_slice.new.self) s label x c.put_ended.new.out (length label) (copied label s _ _ (omega arith) c.copy_from_slice.ensures.after) refl (omega arith) c.put_ended.ensures.0.1 in (
      (
        omega (arith, c.put_ended.ensures.0.0, c.put_ended-2.ensures.0.0, length-append label (x ++ y), length-append x y),
        filled_part _ s (label ++ x) y c.put_ended-2.new.out (length label + c.put_ended.result) e (sym n) (omega (arith, c.put_ended.ensures.1)) c.put_ended-2.ensures.0.1 ∙ ap (λ (t : List ℕ). filled t s) (append_assoc label x y),
      ),
      omega (arith, c.put_ended.ensures.1, c.put_ended-2.ensures.1),
    )
