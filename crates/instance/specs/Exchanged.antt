-- The instance with starts and goals exchanged, for plans that are driven back.
use Rattle.std.specs.Prelude.{◌≡◌, List, ◌++◌, ℕ, ◌<◌, take}
use Rattle.instance.specs.Instance.{Instance, starts, goals, of_agents}

-- its bytes: the sizes and the edges as they stand, then the goals, then the starts
unfoldable pub exchanged_instance : List ℕ → List ℕ
exchanged_instance b = take (starts b) b ++ of_agents b (goals b) ++ of_agents b (starts b)

-- J has the sizes and the edges of I, its starts are the goals of I, and its goals the starts of I
pub record Exchanged (I J : Instance) : Type 0 where
  pub sizes : J.sizes ≡ I.sizes
  pub lows : (j : ℕ) → j < I.sizes.e → J.low j ≡ I.low j
  pub highs : (j : ℕ) → j < I.sizes.e → J.high j ≡ I.high j
  pub starts : (a : ℕ) → a < I.sizes.k → J.start a ≡ I.goal a
  pub goals : (a : ℕ) → a < I.sizes.k → J.goal a ≡ I.start a
