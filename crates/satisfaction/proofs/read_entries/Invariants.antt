-- `satisfaction::read_entries` meets its contract: before turn t of agent a the rows before theirs are read, and their entries are right. Assumes nothing.
use Prim.Native.Nat.{◌-◌, ◌≤◌}
use Rattle.formula.specs.Variables.{index}
use Rattle.satisfaction.proofs.Entries.{Sofar}
use Rattle.satisfaction.proofs.read_entries.Given as goal

abbrev pub invariant-loop-t : goal.invariant-loop-t
invariant-loop-t l = (l.t ≤ l.rows) × Sofar l.s.sizes l.entries l.vertices (index l.s.sizes l.t l.a 0)

abbrev pub decreases-loop-t : goal.decreases-loop-t
decreases-loop-t l = l.rows - l.t

abbrev pub invariant-loop-a : goal.invariant-loop-a
invariant-loop-a l = (l.a ≤ l.s.sizes.k) × Sofar l.s.sizes l.entries l.vertices (index l.s.sizes 0 l.a 0)

abbrev pub decreases-loop-a : goal.decreases-loop-a
decreases-loop-a l = l.s.sizes.k - l.a
