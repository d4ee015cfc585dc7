-- `instance_check::vertex_fault` meets its contract. The invariant: every item so far passes the test and is marked. Assumes nothing.
use mathlib.Core.Path.{◌≡◌}
use mathlib.Core.Bool.{◌&&◌, ◌||◌}
use Prim.Native.Nat.{ℕ, ◌+◌, ◌-◌, ◌≤◌, ◌<◌}
use lib.ListN.{length, get_or}
use lib.Dec.{T}
use Rattle.instance.specs.Instance.{free}
use Rattle.instance.specs.Questions.{new_vertex}
use Rattle.instance_check.proofs.Laws.{Seen}
use Rattle.instance_check.proofs.vertex_fault.Given as goal

abbrev pub invariant-loop-a : goal.invariant-loop-a
invariant-loop-a l = (l.a ≤ l.k) × ((length l.seen ≡ 64) × (Seen (λ c. get_or l.b (l.offset + c) 0) l.a l.seen × ((i : ℕ) → i < l.a → T (l.optional && free (get_or l.b (l.offset + i) 0) || new_vertex l.b (λ c. get_or l.b (l.offset + c) 0) i))))

abbrev pub decreases-loop-a : goal.decreases-loop-a
decreases-loop-a l = l.k - l.a
