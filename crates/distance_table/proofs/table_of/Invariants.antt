-- `distance_table::table_of` meets its contract. The invariant: the rows so far are filled. Assumes nothing.
use Rattle.distance_table.proofs.Laws.{Rows}
use Rattle.distance_table.proofs.table_of.Given as goal

abbrev pub invariant-loop-v : goal.invariant-loop-v
invariant-loop-v l = Rows l.n l.near l.v l.row-items
