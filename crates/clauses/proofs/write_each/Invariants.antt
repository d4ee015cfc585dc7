-- `clauses::write_each` meets its contract. The invariant: each turn has written its block behind those before it. Assumes nothing.
use mathlib.Core.List.{List}
use Prim.Native.Nat.{ℕ, ◌-◌, ◌≤◌}
use lib.ListN.{length}
use Rattle.lists.specs.Loop.{for, each}
use Rattle.lists.proofs.Slices.{Filling}
use Rattle.formula.specs.Formula.{Clause, line}
use Rattle.clauses.specs.Blocks.{Writes}
use Rattle.clauses.proofs.write_each.Given as goal

abbrev pub invariant-loop-i : goal.invariant-loop-i
invariant-loop-i g l =
    (blocks : ℕ → List Clause) → Writes l.count blocks (goal.W-post g l.write) → length (each line (for l.count blocks)) ≤ length l.initial.f
    → Filling (λ i. each line (blocks i)) l.count l.initial.f l.i l.at l.f

abbrev pub decreases-loop-i : goal.decreases-loop-i
decreases-loop-i g l = l.count - l.i
