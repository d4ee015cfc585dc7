-- Distances in the graph of an instance, in edges, and the floor.
use Rattle.std.specs.Prelude.{Bool, not, ◌&&◌, ◌||◌, cond, ℕ, zero, suc, ltb, eqb}
use Rattle.lists.specs.Loop.{some, first, greatest}
use Rattle.instance.specs.Instance.{Instance, free, adjacent}

-- the mark for unreachable: no distance is 64 or more
abbrev pub unreachable : ℕ
unreachable = 255

-- a vertex with this distance can be reached
abbrev pub reachable : ℕ → Bool
reachable d = not (eqb d unreachable)

-- a vertex with this distance is further than t: unreachable counts as further
abbrev pub further : ℕ → ℕ → Bool
further t d = eqb d unreachable || ltb t d

-- the distance d to or from this goal, 0 where the agent is free
abbrev pub to_goal : ℕ → ℕ → ℕ
to_goal goal d = cond (free goal) 0 d

-- On the vertices below n, where near u w says that w is a neighbour of u.
module _ (n : ℕ) (near : ℕ → ℕ → Bool) where
  -- a walk of at most d edges leads from v to w
  unfoldable pub within : ℕ → ℕ → ℕ → Bool
  within zero v w = eqb v w
  within (suc d) v w = within d v w || (some n λ u. within d v u && near u w)

  -- the lowest d below j with such a walk, and the mark where there is none
  unfoldable pub below : ℕ → ℕ → ℕ → ℕ
  below j v w = cond (some j λ d. within d v w) (first j λ d. within d v w) unreachable

  -- the distance from v to w: a shortest walk has fewer than n edges
  abbrev pub distance_in : ℕ → ℕ → ℕ
  distance_in v w = below n v w

module _ (I : Instance) where
  abbrev pub distance : ℕ → ℕ → ℕ
  distance = distance_in I.sizes.n (adjacent I)

  -- from each agent's start to its goal; a free agent counts 0
  abbrev pub start_to_goal : ℕ → ℕ
  start_to_goal a = to_goal (I.goal a) (distance (I.start a) (I.goal a))

  -- the floor: the greatest of these
  unfoldable pub floor : ℕ
  floor = greatest I.sizes.k start_to_goal
