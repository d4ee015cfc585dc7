-- `added_entries::write_entries` meets its contract: one entry a turn, whatever the test answers. Assumes nothing.
use mathlib.Core.Path.{◌≡◌}
use mathlib.Core.Bool.{Bool}
use Prim.Native.Nat.{ℕ, ◌<◌}
use Rattle.added_entries.proofs.Laws.{Writing}
use Rattle.added_entries.proofs.write_entries.Given as goal

abbrev pub invariant-loop-j : goal.invariant-loop-j
invariant-loop-j g l =
    (h : ℕ → Bool) → ((j : ℕ) (b : Bool) → j < l.n → goal.F-post g l.test j b → b ≡ h j) → Writing h l.y l.n l.initial.z l.j l.z
