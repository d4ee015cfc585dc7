-- `tree_writer::write_row` meets its contract: a row is its clauses, if any. Assumes nothing.
use borrow.Author.Rules.{rules}
use Rattle.tree_writer.proofs.Laws.{row_cells}
use Rattle.tree_writer.proofs.write_row.Goals as goal

pub write_each-requires : goal.write_each-requires
write_each-requires c =
    let d = c.args.d in
    let room = rw (row_cells d.ceiling.c d.p d.q d.o d.b c.args.i) at c.requires.i_in_bounds in
    search rules

pub returns : goal.returns
returns c =
    let d = c.args.d in
    let room = rw (row_cells d.ceiling.c d.p d.q d.o d.b c.args.i) at c.requires.i_in_bounds in
    rw (row_cells d.ceiling.c d.p d.q d.o d.b c.args.i) (search rules)
