-- `satisfaction::family_g::lowest_crossed` meets its contract: the loop keeps that no vertex passed is exchanged with a higher one. Assumes nothing.
use Prim.Native.Nat.{ℕ, suc, ◌-◌, ◌≤◌, ◌<◌}
use mathlib.Core.Bool.{not}
use lib.Dec.{T}
use Rattle.lists.specs.Loop.{every}
use Rattle.plan.specs.Plan.{plan_row}
use Rattle.satisfaction.specs.Rows.{crossed}
use Rattle.satisfaction.proofs.family_g.lowest_crossed.Given as goal

abbrev pub invariant-loop-u : goal.invariant-loop-u
invariant-loop-u l =
    (l.u ≤ l.problem.shape.sizes.n)
    × ((i : ℕ) → i < l.u → T (every l.problem.shape.sizes.n λ v. not (crossed l.problem.shape.sizes.k (plan_row l.problem.shape.sizes l.p l.t) (plan_row l.problem.shape.sizes l.p (suc l.t)) i v)))

abbrev pub decreases-loop-u : goal.decreases-loop-u
decreases-loop-u l = l.problem.shape.sizes.n - l.u
