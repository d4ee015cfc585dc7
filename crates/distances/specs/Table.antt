-- The table of distances: a row of bytes for each vertex. It stands in the contracts of the functions that fill and read it.
use Rattle.std.specs.Prelude.{◌≡◌, List, [], cond, ℕ, ◌<◌, get_or, replicate}
use Rattle.instance.specs.Instance.{free, joined}
use Rattle.distances.specs.Distance.{distance_in}

-- row v, column w
abbrev pub cell : List (List ℕ) → ℕ → ℕ → ℕ
cell table v w = get_or (get_or table v []) w 0

-- the row has the distances from v to the vertices below n, where these words say which are neighbours
abbrev pub RowOf : ℕ → List ℕ → ℕ → List ℕ → Type 0
RowOf n near v row = (w : ℕ) → w < n → get_or row w 0 ≡ distance_in n (joined near) v w

-- the table has such a row for each vertex below n
abbrev pub TableOf : ℕ → List ℕ → List (List ℕ) → Type 0
TableOf n near table = (v : ℕ) → v < n → RowOf n near v (get_or table v [])

-- the row of the goal of agent a in an array of goals; zeros where the agent is free
abbrev pub goal_row : List (List ℕ) → List ℕ → ℕ → List ℕ
goal_row table goals a = cond (free (get_or goals a 0)) (replicate 64 0) (get_or table (get_or goals a 0) [])

-- the distance of v from the start of agent a in an array of starts, and from its goal
abbrev pub by_table : List (List ℕ) → List ℕ → ℕ → ℕ → ℕ
by_table table starts a v = cell table (get_or starts a 0) v

abbrev pub goal_by : List (List ℕ) → List ℕ → ℕ → ℕ → ℕ
goal_by table goals a v = get_or (goal_row table goals a) v 0
