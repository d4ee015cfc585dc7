-- `instance_check::mark_fan` meets its contract. The invariant: the high ends so far are marked. Assumes nothing.
use Rattle.instance_check.proofs.Fan.{Part}
use Rattle.instance_check.proofs.mark_fan.Given as goal

abbrev pub invariant-loop-word : goal.invariant-loop-word
invariant-loop-word l = Part l.fn.near l.low l.high l.n l.word-index l.word-items
