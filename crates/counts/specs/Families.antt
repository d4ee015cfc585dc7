-- The families as the definitions number them.
use Rattle.std.specs.Prelude.{ℕ}
use Rattle.counts.specs.declared.Family.{Family}
use Rattle.counts.specs.declared.Family.TheVariants.{A, B, C, D, E, F, G}

-- the place of a family in their order
abbrev pub place_of : Family → ℕ
place_of A = 0
place_of B = 1
place_of C = 2
place_of D = 3
place_of E = 4
place_of F = 5
place_of G = 6
