-- `plan_tally::total_of` meets its contract: the counts, each taken as at most 65,535, are summed one after another. Assumes nothing.
use mathlib.Core.Path.{◌≡◌}
use Prim.Native.Nat.{◌+◌, ◌*◌, ◌≤◌, min}
use lib.ListN.{get_or}
use Rattle.lists.specs.Loop.{sum as total}
use Rattle.plan_tally.proofs.total_of.Given as goal

abbrev pub invariant-loop-count : goal.invariant-loop-count
invariant-loop-count l = (l.sum ≡ l.initial.sum + total l.count-index (λ i. min (get_or l.t.refused i 0) 65535)) × (l.sum ≤ 65535 * (l.count-index + 1))
