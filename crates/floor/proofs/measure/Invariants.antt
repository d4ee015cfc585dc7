-- `floor::measure` meets its contract. The invariant: `Measuring`. Assumes nothing.
use Rattle.floor.specs.Measured.{between}
use Rattle.floor.proofs.Laws.{Measuring}
use Rattle.floor.proofs.measure.Given as goal

abbrev pub invariant-loop-a : goal.invariant-loop-a
invariant-loop-a l = Measuring l.k (between l.problem.starts l.problem.goals l.table) l.a l.most
