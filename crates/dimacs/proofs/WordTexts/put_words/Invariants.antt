-- `dimacs::WordTexts::put_words` meets its contract: so far the slice begins with the texts of the words that were read, at most 8 bytes for each. Assumes nothing.
use Prim.Native.Nat.{◌*◌, ◌≤◌}
use lib.ListN.{take}
use Rattle.dimacs.specs.Text.{words_text}
use Rattle.dimacs.specs.Table.{Begins}
use Rattle.dimacs.proofs.WordTexts.put_words.Given as goal

abbrev pub invariant-loop-w : goal.invariant-loop-w
invariant-loop-w l = (l.at ≤ 8 * l.w-index) × Begins (words_text (take l.w-index l.words)) l.out l.at
