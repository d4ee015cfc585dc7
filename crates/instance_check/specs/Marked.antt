-- Words in which edges are marked, as the contracts of the inner functions speak of them.
use Rattle.std.specs.Prelude.{◌≡◌, List, Bool, ◌&&◌, ◌||◌, ℕ, ◌<◌, leb, ltb, eqb, length}
use Rattle.lists.specs.Loop.{some}
use Rattle.instance.specs.Instance.{instance, edges, low_end, high_end, joins, joined}

module _ (b : List ℕ) where
  -- each edge goes to a higher vertex, below 64
  abbrev pub Ends : Type 0
  Ends = (j : ℕ) → j < edges b → (low_end b j < high_end b j) × (high_end b j < 64)

  -- bit w of word v is set exactly where one of the first j edges has the ends v and w
  pub record Marked (j : ℕ) (near : List ℕ) : Type 0 where
    pub long : length near ≡ 64
    pub bits : (v w : ℕ) → v < 64 → joined near v w ≡ some j (joins (instance b 0 1) v w)

-- an edge from `low` to each vertex from `high` on, up to and without n, has the ends v and w
abbrev pub fan : ℕ → ℕ → ℕ → ℕ → ℕ → Bool
fan low high n v w = eqb low v && (leb high w && ltb w n) || eqb low w && (leb high v && ltb v n)
