-- `dimacs::put_numbers` meets its contract: after x turns the numbers below x have their entries. Assumes nothing.
use Rattle.lists.proofs.Tests.{below_zero}
use Rattle.dimacs.specs.Table.{Numbers}
use Rattle.dimacs.proofs.put_numbers.Goals as goal

pub loop-x-init : goal.loop-x-init
unfolding Numbers
loop-x-init c = below_zero _
