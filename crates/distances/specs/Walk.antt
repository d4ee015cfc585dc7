-- Walks in the graph of an instance, as propositions.
use Rattle.std.specs.Prelude.{◌≡◌, ℕ, zero, suc, ◌≤◌}
use Rattle.instance.specs.Instance.{Instance, Edge}

module _ (I : Instance) where
  -- a walk of d edges from v to w
  unfoldable pub Walk : ℕ → ℕ → ℕ → Type 0
  Walk zero v w = v ≡ w
  Walk (suc d) v w = (u : ℕ) × Walk d v u × Edge I u w

  -- a shortest walk from v to w has d edges
  pub record Shortest (v w d : ℕ) : Type 0 where
    pub walk : Walk d v w
    pub least : (j : ℕ) → Walk j v w → d ≤ j

  -- no walk of at most t edges leads from v to w
  abbrev pub Further : ℕ → ℕ → ℕ → Type 0
  Further t v w = (d : ℕ) → d ≤ t → Walk d v w → ⊥

  -- there is no walk from v to w
  abbrev pub Unreachable : ℕ → ℕ → Type 0
  Unreachable v w = (d : ℕ) → Walk d v w → ⊥
