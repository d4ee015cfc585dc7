-- `plan_check::rest_time` meets its contract. The loop keeps the time until rest in the rows passed, and that it is not after them (so
-- that a count of moves is refused for its value alone). Assumes nothing.
use mathlib.Core.Path.{◌≡◌}
use Prim.Native.Nat.{◌+◌, ◌-◌, ◌*◌, ◌≤◌}
use lib.ListN.{get_or}
use Rattle.plan.specs.Plan.{rest_time}
use Rattle.plan_check.proofs.rest_time.Given as goal

abbrev pub invariant-loop-t : goal.invariant-loop-t
invariant-loop-t l = (l.t ≤ l.rows - 1) × ((l.rest ≡ rest_time l.t (λ u b. get_or l.p (u * l.s.k + b) 0) l.a) × (l.rest ≤ l.t))
