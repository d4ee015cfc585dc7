-- `added_entries::marks_of` meets its contract: one mark a turn. Assumes nothing.
use Prim.Native.Nat.{◌+◌, ◌*◌}
use Rattle.added_entries.proofs.Laws.{Marking}
use Rattle.added_entries.proofs.marks_of.Given as goal

abbrev pub invariant-loop-t : goal.invariant-loop-t
invariant-loop-t l = Marking l.rest l.m l.k (l.t * l.k) l.marks

abbrev pub invariant-loop-a : goal.invariant-loop-a
invariant-loop-a l = Marking l.rest l.m l.k (l.t * l.k + l.a) l.marks
