-- `formula_size::count_h` meets its contract. The loop keeps the sum over the agents passed. Assumes nothing.
use mathlib.Core.Path.{◌≡◌}
use Prim.Native.Nat.{ℕ, suc, ◌+◌, ◌-◌, ◌*◌, ◌≤◌, min}
use Rattle.lists.specs.Loop.{sum}
use Rattle.instance.specs.declared.Sizes.{Sizes}
use Rattle.distances.specs.Table.{by_table, goal_by}
use Rattle.formula_size.proofs.count_h.Given as goal

-- of one agent
abbrev pub share : Sizes → (ℕ → ℕ) → (ℕ → ℕ) → ℕ
share s from to = sum s.n λ v. min (suc s.m) (from v + to v)

abbrev pub invariant-loop-a : goal.invariant-loop-a
invariant-loop-a l =
    (l.a ≤ l.s.sizes.k) × ((l.count ≡ sum l.a (λ i. share l.s.sizes (by_table l.table l.problem.starts i) (goal_by l.table l.problem.goals i))) × (l.count ≤ l.a * 2112))

abbrev pub decreases-loop-a : goal.decreases-loop-a
decreases-loop-a l = l.s.sizes.k - l.a
