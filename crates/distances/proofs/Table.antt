-- An entry of the table is a distance of every instance whose graph the words show.
use mathlib.Core.Path.{◌≡◌, ◌∙◌, ap, ap₂}
use mathlib.Core.List.{List}
use mathlib.Core.Bool.{Bool}
use Prim.Native.Nat.{ℕ, ◌<◌}
use Rattle.instance.specs.declared.Sizes.{Sizes}
use Rattle.instance.specs.Instance.{Instance}
use Rattle.instance.specs.Shows.{ShowsGraph}
use Rattle.distances.specs.Distance.{distance_in, distance}
use Rattle.distances.specs.Table.{cell, TableOf}

pub table_distance : (I : Instance) (s : Sizes) (near : List ℕ) → ShowsGraph I s near → (table : List (List ℕ)) → TableOf s.n near table
    → (v w : ℕ) → v < s.n → w < s.n → cell table v w ≡ distance I v w
table_distance I s near g table t v w i j =
    t v i w j ∙ ap₂ (λ (n : ℕ) (x : ℕ → ℕ → Bool). distance_in n x v w) (ap (λ (s : Sizes). s.n) g.sizes) g.words
