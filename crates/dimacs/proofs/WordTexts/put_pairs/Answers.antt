-- `dimacs::WordTexts::put_pairs` meets its contract: so far the slice begins with the lines of the clauses that were read. Assumes nothing.
use mathlib.Core.Path.{◌≡◌, refl, ◌∙◌, ap}
use mathlib.Core.List.{List, []}
use Prim.Native.Nat.{ℕ, ◌+◌, ◌*◌, ◌/◌, ◌<◌}
use native.Mathlib.Omega.{arith}
use lib.IntN.{ℤ, pos}
use lib.ListN.{length, length-take, length-drop, get_or, take}
use mir.Syntax.{w32}
use mir.Val.{SFits}
use mir.Facts.{to_z-of_z}
use borrow.Author.Rules.{rules}
use Rattle.std.specs.Simd.{first_chunks}
use Rattle.dimacs.specs.Text.{words_text}
use Rattle.dimacs.proofs.Table.{begins_part, within_at, chunk_word, pair_at, pairs_more}
use Rattle.dimacs.proofs.WordTexts.put_pairs.Goals as goal

-- the two literals of a clause
literal : (words : List ℤ) (chunks : List (List ℤ)) (i j : ℕ) → chunks ≡ first_chunks 3 (length words / 3) words → i < length words / 3 → j < 3
    → get_or (get_or chunks i []) j (pos 0) ≡ get_or words (3 * i + j) (pos 0)
literal words chunks i j e h l = rw e (chunk_word (length words / 3) i j words h l)

pub loop-x-init : goal.loop-x-init
unfolding words_text
loop-x-init c = (omega arith, (refl, refl))

pub put_pair-at-requires : goal.put_pair-at-requires
put_pair-at-requires c =
    let ws = c.args.words.now in
    let i = c.loop-x.x-index in
    let p = c.requires.1 in
    let turn : i < length ws / 3 = omega (arith, c.loop-x-test.true, c.as_chunks.ensures.front_len) in
    let ex = literal ws c.as_chunks.result.0.now i 0 c.as_chunks.ensures.front turn (omega arith) in
    let ey = literal ws c.as_chunks.result.0.now i 1 c.as_chunks.ensures.front turn (omega arith) in
    let fx : SFits w32 (get_or ws (3 * i + 0) (pos 0)) = search rules in
    let fy : SFits w32 (get_or ws (3 * i + 1) (pos 0)) = search rules in (
      rw (ex, to_z-of_z fx) (within_at c.args.self.top ws (3 * i + 0) c.requires.0 (omega (arith, turn, p.whole))),
      rw (ey, to_z-of_z fy) (within_at c.args.self.top ws (3 * i + 1) c.requires.0 (omega (arith, turn, p.whole))),
      simp (length-take, length-drop) (omega (arith, turn, p.whole, c.requires.2)),
    )

pub loop-x-preserved : goal.loop-x-preserved
loop-x-preserved c =
    let ws = c.args.words.now in
    let l = c.loop-x in
    let i = l.x-index in
    let turn : i < length ws / 3 = omega (arith, c.loop-x-test.true, c.as_chunks.ensures.front_len) in
    let zero : 3 * i + 0 ≡ 3 * i = omega arith in
    let ex = literal ws c.as_chunks.result.0.now i 0 c.as_chunks.ensures.front turn (omega arith) ∙ ap (λ (n : ℕ). get_or ws n (pos 0)) zero in
    let ey = literal ws c.as_chunks.result.0.now i 1 c.as_chunks.ensures.front turn (omega arith) in
    let fx : SFits w32 (get_or ws (3 * i) (pos 0)) = search rules in
    let fy : SFits w32 (get_or ws (3 * i + 1) (pos 0)) = search rules in
    let b = rw (ex, ey, to_z-of_z fx, to_z-of_z fy) at c.put_pair-at.ensures.0 in (
      omega (arith, c.put_pair-at.ensures.1),
      rw (pairs_more ws c.requires.1 i turn) (begins_part l.out c.put_pair-at.new.out (words_text (take (3 * i) ws)) (pair_at ws i) l.at c.put_pair-at.result l.invariant.1 b),
    )
