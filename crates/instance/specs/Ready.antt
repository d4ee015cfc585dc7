-- What is used of an accepted instance that is taken apart: its sizes, the arrays of starts and goals, and the words of neighbours.
-- It stands in the contracts of the functions that are lent these.
use Rattle.std.specs.Prelude.{List, ◌≡◌, ℕ, ◌^◌, ◌<◌, get_or}
use Rattle.instance.specs.declared.Sizes.{Sizes}
use Rattle.instance.specs.Instance.{GoalBelow, goal_count, joined, edges_before}
use Rattle.instance.specs.Limits.{Limits}

pub record Ready (s : Sizes) (starts goals near : List ℕ) : Type 0 where
  pub limits : Limits s
  pub starts_below : (a : ℕ) → a < s.k → get_or starts a 0 < s.n
  pub goals_below : (a : ℕ) → a < s.k → GoalBelow s.n (get_or goals a 0)
  pub counted : s.g ≡ goal_count s.k (λ a. get_or goals a 0)
  -- all edges come before a low end n
  pub edged : s.e ≡ edges_before (joined near) s.n s.n 0
  -- no bit from n on
  pub words_below : (v : ℕ) → v < 64 → get_or near v 0 < 2 ^ s.n
