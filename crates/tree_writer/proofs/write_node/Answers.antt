-- `tree_writer::write_node` meets its contract: a node is its rows. Assumes nothing.
use borrow.Author.Rules.{rules}
use Rattle.tree_writer.proofs.Laws.{node_rows}
use Rattle.tree_writer.proofs.write_node.Goals as goal

pub write_each-requires : goal.write_each-requires
write_each-requires c = let room = rw (node_rows c.args.d) at c.requires.d_in_bounds in search rules

pub returns : goal.returns
returns c = let room = rw (node_rows c.args.d) at c.requires.d_in_bounds in rw (node_rows c.args.d) (search rules)
