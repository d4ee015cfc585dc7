-- A node's clauses as the loops write them.
use Rattle.std.specs.Prelude.{List, [], ◌∷◌, ◌++◌, ℕ, suc, ◌+◌, min, ltb}
use Rattle.lists.specs.Loop.{for, when}
use Rattle.formula.specs.Variables.{Literal}
use Rattle.formula.specs.Formula.{Clause}
use Rattle.ceiling.specs.Tree.{on, off}

-- the clause of i on the left and j on the right, of its three literals; none where both are 0
unfoldable pub joining : Literal → Literal → Literal → ℕ → ℕ → List Clause
joining x y z i j = when (ltb 0 (i + j)) ((when (ltb 0 i) (x ∷ []) ++ when (ltb 0 j) (y ∷ []) ++ z ∷ []) ∷ [])

-- output i of the left is p + i, of the right q + i, and of the node o + i
module _ (c p q o : ℕ) where
  unfoldable pub cell : ℕ → ℕ → List Clause
  cell i j = joining (off (p + i)) (off (q + j)) (on (o + min (i + j) (suc c))) i j

  -- those of i on the left, where the right has b outputs
  unfoldable pub row : ℕ → ℕ → List Clause
  row b i = for (suc b) (cell i)
