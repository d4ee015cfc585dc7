-- `dimacs::put_texts` meets its contract: the numbers first, and after x turns the negatives of those below x. Assumes nothing.
use Prim.Native.Nat.{◌+◌}
use Rattle.dimacs.specs.Table.{Numbers, Negatives}
use Rattle.dimacs.proofs.put_texts.Given as goal

abbrev pub invariant-loop-x : goal.invariant-loop-x
invariant-loop-x l = Numbers l.top (l.top + 1) l.texts × Negatives l.top l.x l.texts
