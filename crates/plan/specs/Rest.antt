-- The time until rest, as a proposition. P t is row t, and m the last time.
use Rattle.std.specs.Prelude.{◌≡◌, ℕ, ◌≤◌, ◌<◌}
use Rattle.plan.specs.Plan.{Row}

-- for an agent a
module _ (m : ℕ) (P : ℕ → Row) (a : ℕ) where
  -- it keeps one vertex in all rows t to m
  abbrev pub Rests : ℕ → Type 0
  Rests t = (v : ℕ) × ((u : ℕ) → t ≤ u → u ≤ m → P u a ≡ v)

  -- it rests from t on, and from no earlier time
  pub record BusyUntil (t : ℕ) : Type 0 where
    pub within : t ≤ m
    pub rests : Rests t
    pub least : (u : ℕ) → u < t → Rests u → ⊥
