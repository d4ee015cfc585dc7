-- `formula_printer::read_input`: what was read fits the slice; each turn reads at least a byte.
use Rattle.std.proofs.Common.{◌-◌, ◌≤◌, length}
use Rattle.formula_printer.proofs.read_input.Given as goal

abbrev pub invariant-loop-at : goal.invariant-loop-at
invariant-loop-at g l = l.at ≤ length l.input

abbrev pub decreases-loop-at : goal.decreases-loop-at
decreases-loop-at g l = length l.initial.input - l.at
