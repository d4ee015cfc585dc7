-- The pairs v < w of numbers below n, in their order: by v, then by w. How many they are in all is `pairs` in `Loop`.
--     pair_list n         the pairs
--     pairs_below n v     how many of them begin with a number lower than v
use Rattle.std.specs.Prelude.{List, [], ◌∷◌, ℕ, length, ltb}
use Rattle.lists.specs.Loop.{for, when, each}

unfoldable pub pair_list : ℕ → List (ℕ × ℕ)
pair_list n = for n λ v. for n λ w. when (ltb v w) ((v, w) ∷ [])

unfoldable pub pairs_below : ℕ → ℕ → ℕ
pairs_below n v = length (each (λ p. when (ltb p.0 v) (p ∷ [])) (pair_list n))
