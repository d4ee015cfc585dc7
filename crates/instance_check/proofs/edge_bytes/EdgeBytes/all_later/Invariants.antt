-- `EdgeBytes::all_later` meets its contract. The invariant: the test of the edges so far. Assumes nothing.
use mathlib.Core.Path.{◌≡◌}
use Prim.Native.Nat.{suc, ◌-◌, ◌≤◌}
use Rattle.lists.specs.Loop.{every}
use Rattle.instance.specs.Questions.{later_edge}
use Rattle.instance_check.proofs.edge_bytes.EdgeBytes.all_later.Given as goal

abbrev pub invariant-loop-i : goal.invariant-loop-i
invariant-loop-i l = (l.i ≤ l.self.e - 1) × (l.all ≡ every l.i (λ j. later_edge l.self.b.now (suc j) j))

abbrev pub decreases-loop-i : goal.decreases-loop-i
decreases-loop-i l = l.self.e - l.i
