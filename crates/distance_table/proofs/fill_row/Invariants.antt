-- `distance_table::fill_row` meets its contract. The invariant: `Round`. Assumes nothing.
use Rattle.distance_table.proofs.Laws.{Round}
use Rattle.distance_table.proofs.fill_row.Given as goal

abbrev pub invariant-loop-d : goal.invariant-loop-d
invariant-loop-d l = Round l.near l.n l.v l.d l.row l.frontier l.seen
