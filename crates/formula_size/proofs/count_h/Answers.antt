-- `formula_size::count_h` meets its contract. The loop keeps the sum over the agents passed. Assumes nothing.
use mathlib.Core.Path.{◌≡◌, ◌∙◌, ap, ap₂}
use mathlib.Core.List.{List}
use Prim.Native.Nat.{ℕ, ◌+◌}
use native.Mathlib.Numerals.{add-one}
use native.Mathlib.Omega.{arith}
use lib.ListN.{get_or}
use Rattle.lists.specs.Loop.{sum}
use Rattle.formula.specs.Pruned.{count_h}
use Rattle.distances.specs.Table.{by_table, goal_by}
use Rattle.formula_size.proofs.count_h.Invariants.{share}
use Rattle.formula_size.proofs.count_h.Goals as goal

pub loop-a-preserved : goal.loop-a-preserved
loop-a-preserved c =
    let e = ap₂ (λ (from to : List ℕ). share c.args.problem.now.shape.sizes (λ v. get_or from v 0) (λ v. get_or to v 0)) c.row_for-from.ensures c.goal_row-to.ensures in (
      omega arith,
      (rw (add-one c.loop-a.a) (ap₂ ◌+◌ c.loop-a.invariant.1.0 (c.count_for-count.ensures.0 ∙ e)), omega (arith, c.count_for-count.ensures.1, c.loop-a.invariant.1.1)),
    )

pub returns : goal.returns
unfolding count_h
returns c =
    let e : c.loop-a.a ≡ c.args.problem.now.shape.sizes.k = omega arith in
    (c.loop-a.invariant.1.0 ∙ ap (λ (j : ℕ). sum j (λ i. share c.args.problem.now.shape.sizes (by_table c.args.table.now c.args.problem.now.starts i) (goal_by c.args.table.now c.args.problem.now.goals i))) e, omega (arith, c.args.problem.now.ready.limits.k_most, c.loop-a.invariant.1.1))
