-- `reader::write_entries` meets its contract. Assumes nothing.
use Rattle.std.proofs.Common.{[], ◌∷◌, get_or}
use Rattle.lists.proofs.Slices.{Filling}
use Rattle.solver_lines.specs.declared.Mark.TheVariants.{Absent}
use Rattle.reader.specs.Marks.{entry_of}
use Rattle.reader.proofs.write_entries.Given as goal

abbrev pub invariant-loop-i : goal.invariant-loop-i
invariant-loop-i l = Filling (λ j. entry_of (get_or l.marks j Absent) j ∷ []) l.n l.initial.z l.i l.i l.z
