-- `EdgeBytes::first_improper` meets its contract. The invariant: every item so far passes the test. Assumes nothing.
use Prim.Native.Nat.{ℕ, ◌-◌, ◌≤◌, ◌<◌}
use lib.Dec.{T}
use Rattle.instance.specs.Questions.{proper_edge}
use Rattle.instance_check.proofs.edge_bytes.EdgeBytes.first_improper.Given as goal

abbrev pub invariant-loop-j : goal.invariant-loop-j
invariant-loop-j l = (l.j ≤ l.self.e) × ((i : ℕ) → i < l.j → T (proper_edge l.self.b.now i))

abbrev pub decreases-loop-j : goal.decreases-loop-j
decreases-loop-j l = l.self.e - l.j
