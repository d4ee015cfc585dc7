-- `Rows::fault` meets its contract. The loop keeps that every agent passed meets the condition, and the word of their vertices in the next row. Assumes nothing.
use Prim.Native.Nat.{ℕ, ◌≤◌, ◌<◌}
use lib.Dec.{T}
use Rattle.instance.specs.Instance.{joined}
use Rattle.plan.specs.Plan.{row, condition}
use Rattle.conditions.specs.Inside.{Standing}
use Rattle.conditions.specs.Conditions.{place_of}
use Rattle.conditions.proofs.Rows.fault.Given as goal

abbrev pub invariant-loop-a : goal.invariant-loop-a
invariant-loop-a l = (l.a ≤ l.self.sizes.k) × ((i : ℕ) → i < l.a → T (condition l.self.sizes (joined l.self.near.now) (place_of l.which) (row l.self.here.now) (row l.self.next.now) i)) × Standing (row l.self.next.now) l.a l.taken
