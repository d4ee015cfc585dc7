-- The conditions as the definitions number them.
use Rattle.std.specs.Prelude.{ℕ}
use Rattle.conditions.specs.declared.Condition.{Condition}
use Rattle.conditions.specs.declared.Condition.TheVariants.{Crossing, Entering, Sharing}

-- the place of a condition in their order
abbrev pub place_of : Condition → ℕ
place_of Crossing = 0
place_of Entering = 1
place_of Sharing = 2
