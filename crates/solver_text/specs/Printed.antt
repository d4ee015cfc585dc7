-- What a solver prints for a valuation, in the competition's text.
use Rattle.std.specs.Prelude.{List, [], ◌∷◌, ◌++◌, Bool, true, false, ℕ, ℤ, pos}
use Rattle.lists.specs.Loop.{each}
use Rattle.decimals.specs.Decimals.{signed}
use Rattle.solver_text.specs.Text.{satisfiable}

-- "v", then each number after a space
abbrev pub v_line : List ℤ → List ℕ
v_line ws = 118 ∷ each (λ w. 32 ∷ signed w) ws

-- The s line; a v line with the literals of each group; a last one with those of `last` and the closing 0.
unfoldable pub printed : List (List ℤ) → List ℤ → List ℕ
printed groups last =
    satisfiable ++ 10 ∷ ((each (λ ws. v_line ws ++ 10 ∷ []) groups) ++ (v_line (last ++ pos 0 ∷ []) ++ 10 ∷ []))

-- the literals of all groups
abbrev pub gathered : List (List ℤ) → List ℤ → List ℤ
gathered groups last = each (λ ws. ws) groups ++ last

-- a group that is printed has a literal
abbrev pub some? : List ℤ → Bool
some? [] = false
some? (w ∷ ws) = true
