-- `reader::all_once` meets its contract. Assumes nothing.
use Rattle.std.proofs.Common.{◌≡◌, take}
use Rattle.std.specs.List.{list_all}
use Rattle.reader.specs.Marks.{once?}
use Rattle.reader.proofs.all_once.Given as goal

abbrev pub invariant-loop-mark : goal.invariant-loop-mark
invariant-loop-mark l = l.all ≡ list_all once? (take l.mark-index l.marks)
