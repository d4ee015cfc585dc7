-- `instance_check::mark_run` meets its contract. The invariant: with the word that is kept put back, the edges read so far are marked. Assumes nothing.
use mathlib.Core.Path.{◌≡◌}
use Prim.Native.Nat.{◌-◌, ◌≤◌}
use lib.ListN.{length, set}
use Rattle.instance_check.specs.Marked.{Marked}
use Rattle.instance_check.proofs.mark_run.Given as goal

abbrev pub invariant-loop-j : goal.invariant-loop-j
invariant-loop-j l = (l.from ≤ l.j) × (l.j ≤ l.e) × (length l.near ≡ 64) × Marked l.edges.b.now l.j (set l.near l.low l.row)

abbrev pub decreases-loop-j : goal.decreases-loop-j
decreases-loop-j l = l.e - l.j
