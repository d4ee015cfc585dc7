-- `added_satisfaction::tree::Outputs::fault` meets its contract: the outputs reach the sum, or the rows before have a true literal in every clause. Assumes nothing.
use mathlib.Core.Path.{refl}
use Prim.Native.Nat.{◌+◌}
use native.Mathlib.Omega.{arith}
use Rattle.added_satisfaction.proofs.Nodes.{node_fails, node_passes}
use Rattle.added_satisfaction.proofs.tree.Outputs.fault.Goals as goal

pub returns-then-sum_reached : goal.returns-then-sum_reached
returns-then-sum_reached c =
    let d = c.args.self.d in
    node_passes c.args.self.of.entries.now d (d.a + 1) refl (λ u l v r. c.sum_reached.ensures c.if-sum_reached.true u v (omega arith) (omega arith))

pub returns-in-Some : goal.returns-in-Some
returns-in-Some c =
    let found = c.in-Some.ensures in
    node_fails c.args.self.of.entries.now c.args.self.d c.loop-i.i c.in-Some.j c.loop-i.invariant found.0 found.1 c.loop-i-test.true

pub returns : goal.returns
returns c = node_passes c.args.self.of.entries.now c.args.self.d c.loop-i.i (omega arith) c.loop-i.invariant
