-- `EdgeBytes::all_proper` meets its contract. The invariant: the test of the edges so far. Assumes nothing.
use mathlib.Core.Path.{◌≡◌}
use Prim.Native.Nat.{◌-◌, ◌≤◌}
use Rattle.lists.specs.Loop.{every}
use Rattle.instance.specs.Questions.{proper_edge}
use Rattle.instance_check.proofs.edge_bytes.EdgeBytes.all_proper.Given as goal

abbrev pub invariant-loop-j : goal.invariant-loop-j
invariant-loop-j l = (l.j ≤ l.self.e) × (l.all ≡ every l.j (proper_edge l.self.b.now))

abbrev pub decreases-loop-j : goal.decreases-loop-j
decreases-loop-j l = l.self.e - l.j
