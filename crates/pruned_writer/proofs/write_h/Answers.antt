-- `pruned_writer::write_h` meets its contract: H is its steps. Assumes nothing.
use borrow.Author.Rules.{rules}
use Rattle.pruned_writer.proofs.Laws.{steps_by_table}
use Rattle.pruned_writer.proofs.write_h.Goals as goal

pub write_each-requires : goal.write_each-requires
write_each-requires c =
    let p = c.args.problem.now in
    let room = rw (steps_by_table p.shape.sizes c.args.table.now p.starts p.goals) at c.requires.table_in_bounds in
    search rules

pub returns : goal.returns
returns c =
    let p = c.args.problem.now in
    let room = rw (steps_by_table p.shape.sizes c.args.table.now p.starts p.goals) at c.requires.table_in_bounds in
    rw (steps_by_table p.shape.sizes c.args.table.now p.starts p.goals) (search rules)
