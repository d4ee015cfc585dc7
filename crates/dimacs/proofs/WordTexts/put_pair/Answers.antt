-- `dimacs::WordTexts::put_pair` meets its contract: two texts, one behind the other, and the line's end. Assumes nothing.
use mathlib.Core.Path.{◌≡◌}
use mathlib.Core.List.{List, [], ◌∷◌, ◌++◌}
use Prim.Native.Nat.{ℕ, ◌+◌, ◌-◌, ◌≤◌}
use native.Mathlib.Omega.{arith}
use borrow.Rule.Slice.PartMut.{put_mid}
use lib.ListN.{length, set, length-set}
use mir.Facts.{to_z-of_z}
use Rattle.dimacs.specs.Text.{word_text}
use Rattle.dimacs.specs.Table.{Begins}
use Rattle.dimacs.proofs.Table.{begins_part, begins_set, pair_end}
use Rattle.dimacs.proofs.WordTexts.put_pair.Goals as goal

pub returns : goal.returns
returns c =
    let x = c.args.x in
    let y = c.args.y in
    let m = c.put_word-m.result in
    let n = c.put_word.result in
    let f = c.put_word-m.new.out in
    let ys = c.put_word.new.out in
    let bx : Begins (word_text x) f m = rw (to_z-of_z c.ranges.x) at c.put_word-m.ensures.0 in
    let by : Begins (word_text y) ys n = rw (to_z-of_z c.ranges.y) at c.put_word.ensures.0 in
    let g : List ℕ = put_mid m (length f - m) f ys in
    let b : Begins (word_text x ++ word_text y) g (m + n) = begins_part f ys (word_text x) (word_text y) m n bx by in
    let l : length g ≡ length c.args.out.now = omega arith in
    let most : m + n ≤ 16 = omega (arith, c.put_word-m.ensures.1, c.put_word.ensures.1) in
    let b1 = begins_set (word_text x ++ word_text y) g (m + n) 48 b (omega (arith, c.requires.2)) in
    let b2 = begins_set ((word_text x ++ word_text y) ++ 48 ∷ []) (set g (m + n) 48) (m + n + 1) 10 b1 (simp length-set (omega (arith, c.requires.2))) in
    let q : m + n + 1 + 1 ≡ m + n + 2 = omega arith in
    (rw (q, pair_end x y) at b2, omega arith)
