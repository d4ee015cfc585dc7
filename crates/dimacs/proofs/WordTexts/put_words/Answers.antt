-- `dimacs::WordTexts::put_words` meets its contract: so far the slice begins with the texts of the words that were read, at most 8 bytes for each. Assumes nothing.
use mathlib.Core.Path.{refl}
use native.Mathlib.Omega.{arith}
use lib.IntN.{pos}
use lib.ListN.{length-take, length-drop, get_or, take}
use mir.Syntax.{w32}
use mir.Val.{SFits}
use mir.Facts.{to_z-of_z}
use borrow.Author.Rules.{rules}
use Rattle.dimacs.specs.Text.{word_text, words_text}
use Rattle.dimacs.proofs.Table.{begins_part, within_at, words_more}
use Rattle.dimacs.proofs.WordTexts.put_words.Goals as goal

pub loop-w-init : goal.loop-w-init
unfolding words_text
loop-w-init c = (omega arith, (refl, refl))

pub put_word-at-requires : goal.put_word-at-requires
put_word-at-requires c =
    let fit : SFits w32 (get_or c.args.words.now c.loop-w.w-index (pos 0)) = search rules in (
      rw (to_z-of_z fit) (within_at c.args.self.top c.args.words.now c.loop-w.w-index c.requires.0 c.loop-w-test.true),
      simp (length-take, length-drop) (omega arith),
    )

pub loop-w-preserved : goal.loop-w-preserved
loop-w-preserved c =
    let l = c.loop-w in
    let ws = c.args.words.now in
    let word = word_text (get_or ws l.w-index (pos 0)) in
    let fit : SFits w32 (get_or ws l.w-index (pos 0)) = search rules in
    let b = rw (to_z-of_z fit) at c.put_word-at.ensures.0 in (
      omega (arith, c.put_word-at.ensures.1),
      rw (words_more ws l.w-index c.loop-w-test.true) (begins_part l.out c.put_word-at.new.out (words_text (take l.w-index ws)) word l.at c.put_word-at.result l.invariant.1 b),
    )
