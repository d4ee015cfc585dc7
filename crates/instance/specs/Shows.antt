-- Of which instance the parts of a checked instance are. It stands in the contracts of the functions that are lent them: what they
-- answer, they answer of every instance that the parts show.
use Rattle.std.specs.Prelude.{◌≡◌, List, ℕ, ◌<◌, get_or}
use Rattle.instance.specs.declared.Sizes.{Sizes}
use Rattle.instance.specs.Instance.{Instance, adjacent, joined}

-- the sizes and the words of neighbours
pub record ShowsGraph (I : Instance) (s : Sizes) (near : List ℕ) : Type 0 where
  pub sizes : s ≡ I.sizes
  pub words : joined near ≡ adjacent I

-- the arrays of starts and goals beside them
pub record Shows (I : Instance) (s : Sizes) (starts goals near : List ℕ) : Type 0 where
  pub graph : ShowsGraph I s near
  pub starts_at : (a : ℕ) → a < s.k → get_or starts a 0 ≡ I.start a
  pub goals_at : (a : ℕ) → a < s.k → get_or goals a 0 ≡ I.goal a
