-- `dimacs::WordTexts::put_pairs` meets its contract: so far the slice begins with the lines of the clauses that were read. Assumes nothing.
use Prim.Native.Nat.{◌*◌, ◌≤◌}
use lib.ListN.{take}
use Rattle.dimacs.specs.Text.{words_text}
use Rattle.dimacs.specs.Table.{Begins}
use Rattle.dimacs.proofs.WordTexts.put_pairs.Given as goal

abbrev pub invariant-loop-x : goal.invariant-loop-x
invariant-loop-x l = (l.at ≤ 24 * l.x-index) × Begins (words_text (take (3 * l.x-index) l.words)) l.out l.at
