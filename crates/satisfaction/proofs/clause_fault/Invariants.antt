-- `satisfaction::clause_fault` meets its contract: the rows and families before have a true literal in every clause, and at is their number of clauses. Assumes nothing.
use Prim.Native.Nat.{◌+◌, ◌*◌, ◌≤◌}
use mathlib.Core.Path.{◌≡◌}
use lib.ListN.{length}
use lib.Dec.{T}
use Rattle.lists.specs.Loop.{for, all}
use Rattle.instance.specs.Problem.{checked_of}
use Rattle.formula.specs.Blocks.{family, held}
use Rattle.valuation.specs.Valuation.{satisfied?}
use Rattle.satisfaction.specs.Rows.{row}
use Rattle.counts.specs.Families.{place_of}
use Rattle.satisfaction.proofs.clause_fault.Given as goal

abbrev pub invariant-loop-t : goal.invariant-loop-t
invariant-loop-t l =
    (l.at ≤ place_of l.family * 15966720 + l.t * 483840)
    × (l.at ≡ length (for (place_of l.family) (family (held (checked_of l.problem)))) + length (for l.t (row (held (checked_of l.problem)) (place_of l.family))))
    × T (all (satisfied? l.entries) (for l.t (row (held (checked_of l.problem)) (place_of l.family))))

abbrev pub invariant-loop-family : goal.invariant-loop-family
invariant-loop-family l =
    (l.at ≤ l.family-index * 15966720)
    × (l.at ≡ length (for l.family-index (family (held (checked_of l.problem)))))
    × T (all (satisfied? l.entries) (for l.family-index (family (held (checked_of l.problem)))))
