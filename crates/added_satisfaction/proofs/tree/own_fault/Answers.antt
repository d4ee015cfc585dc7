-- `added_satisfaction::tree::own_fault` meets its contract: the outputs of both subtrees and of the node are variables. Assumes nothing.
use Prim.Native.Nat.{◌+◌, ◌-◌, ◌/◌}
use native.Mathlib.Omega.{arith}
use lib.ListN.{length}
use Rattle.counting.specs.Over.{node_over}
use Rattle.added_satisfaction.proofs.Trees.{before_within}
use Rattle.added_satisfaction.proofs.tree.own_fault.Goals as goal

pub invariant_of-node : goal.invariant_of-node
unfolding node_over
invariant_of-node c =
    let tree = c.args.tree in
    let half = tree.l / 2 in
    let size = length c.args.of.entries.now in
    let p = before_within tree.ceiling.c half tree.x c.args.u size (omega arith) (omega arith) c.requires.ends.0 in
    let q = before_within tree.ceiling.c (tree.l - half) (tree.x + half) c.args.v size (omega arith) (omega arith) c.requires.ends.1 in
    rw c.node.ensures
    record { within = record { left = (omega arith, p); right = (omega arith, q); own = omega arith } }

pub returns : goal.returns
unfolding node_over
returns c = rw c.node.ensures at c.fault.ensures
