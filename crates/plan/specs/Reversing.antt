-- A plan held and a plan reversed, as bytes. The plan has k agents and the makespan m.
use Rattle.std.specs.Prelude.{List, ◌++◌, ℕ, suc, ◌*◌, ◌-◌, take, drop}
use Rattle.lists.specs.Loop.{for}

-- the bytes of row t
abbrev pub row_bytes : ℕ → List ℕ → ℕ → List ℕ
row_bytes k p t = take k (drop (t * k) p)

-- held: its last row, row m, repeated
unfoldable pub held_plan : ℕ → ℕ → List ℕ → List ℕ
held_plan k m p = p ++ row_bytes k p m

-- reversed: its rows in reverse order, row m first and row 0 last
unfoldable pub reversed_plan : ℕ → ℕ → List ℕ → List ℕ
reversed_plan k m p = for (suc m) λ t. row_bytes k p (m - t)
