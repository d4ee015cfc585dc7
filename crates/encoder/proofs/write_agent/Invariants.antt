-- `encoder::write_agent` meets its contract: before turn v the negatives below v stand in the slice; the last store makes one of them
-- true. Assumes nothing.
use mathlib.Core.Path.{◌≡◌}
use mathlib.Core.List.{[], ◌∷◌}
use Prim.Native.Nat.{ℕ, ◌+◌, ◌-◌, ◌≤◌}
use lib.ListN.{length}
use lib.IntN.{ℤ, pos, neg_ℤ}
use Rattle.lists.specs.Loop.{for}
use Rattle.lists.specs.Slice.{filled}
use Rattle.encoder.proofs.write_agent.Given as goal

abbrev pub denies : ℕ → ℕ → ℤ
denies first v = neg_ℤ (pos (first + v))

abbrev pub invariant-loop-v : goal.invariant-loop-v
invariant-loop-v l = (l.v ≤ l.n) × (length l.z ≡ length l.initial.z) × (l.z ≡ filled (for l.v λ v. denies l.first.0 v ∷ []) l.initial.z)

abbrev pub decreases-loop-v : goal.decreases-loop-v
decreases-loop-v l = l.n - l.v
