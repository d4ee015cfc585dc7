-- `dimacs::put_numbers` meets its contract: after x turns the numbers below x have their entries. Assumes nothing.
use Rattle.dimacs.specs.Table.{Numbers}
use Rattle.dimacs.proofs.put_numbers.Given as goal

abbrev pub invariant-loop-x : goal.invariant-loop-x
invariant-loop-x l = Numbers l.top l.x l.texts
