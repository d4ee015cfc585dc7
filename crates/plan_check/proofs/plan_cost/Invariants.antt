-- `plan_check::plan_cost` meets its contract. The loop keeps the sum over the agents passed. Assumes nothing.
use mathlib.Core.Path.{◌≡◌}
use Prim.Native.Nat.{◌*◌, ◌≤◌}
use Rattle.lists.specs.Loop.{sum}
use Rattle.plan.specs.Plan.{plan_row, rest_time}
use Rattle.plan_check.proofs.plan_cost.Given as goal

abbrev pub invariant-loop-a : goal.invariant-loop-a
invariant-loop-a l = (l.a ≤ l.s.sizes.k) × ((l.cost ≡ sum l.a (rest_time l.s.sizes.m (plan_row l.s.sizes l.p))) × (l.cost ≤ l.a * 32))
