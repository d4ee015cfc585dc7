-- `EdgeBytes::first_unordered` meets its contract. The invariant: every item so far passes the test. Assumes nothing.
use Prim.Native.Nat.{ℕ, suc, ◌-◌, ◌≤◌, ◌<◌}
use lib.Dec.{T}
use Rattle.instance.specs.Questions.{later_edge}
use Rattle.instance_check.proofs.edge_bytes.EdgeBytes.first_unordered.Given as goal

abbrev pub invariant-loop-i : goal.invariant-loop-i
invariant-loop-i l = (l.i ≤ l.self.e - 1) × ((j : ℕ) → j < l.i → T (later_edge l.self.b.now (suc j) j))

abbrev pub decreases-loop-i : goal.decreases-loop-i
decreases-loop-i l = l.self.e - l.i
