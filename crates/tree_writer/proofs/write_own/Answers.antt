-- `tree_writer::write_own` meets its contract: the node is that of the definition. Assumes nothing.
use Prim.Native.Nat.{◌+◌, ◌-◌, ◌/◌}
use native.Mathlib.Omega.{arith}
use Rattle.counting.specs.Over.{node_over}
use Rattle.counting.proofs.Laws.{before_most}
use Rattle.tree_writer.proofs.write_own.Goals as goal

pub write_node-requires : goal.write_node-requires
unfolding node_over
write_node-requires c =
    let tree = c.args.tree in
    let p = before_most tree.ceiling.c (tree.l / 2) tree.x c.args.u (omega arith) (omega arith) in
    let q = before_most tree.ceiling.c (tree.l - tree.l / 2) (tree.x + tree.l / 2) c.args.v (omega arith) (omega arith) in
    rw c.node.ensures record { bounds = (p, q, omega arith, omega arith, omega arith); d_in_bounds = c.requires.v_in_bounds }

pub returns : goal.returns
unfolding node_over
returns c = rw c.node.ensures at c.write_node.ensures
