-- `instance_check::neighbour_words` meets its contract. The invariant: the edges before j are marked. Assumes nothing.
use Prim.Native.Nat.{◌-◌, ◌≤◌}
use Rattle.instance_check.specs.Marked.{Marked}
use Rattle.instance_check.proofs.neighbour_words.Given as goal

abbrev pub invariant-loop-j : goal.invariant-loop-j
invariant-loop-j l = (l.j ≤ l.edges.e) × Marked l.edges.b.now l.j l.near

abbrev pub decreases-loop-j : goal.decreases-loop-j
decreases-loop-j l = l.edges.e - l.j
