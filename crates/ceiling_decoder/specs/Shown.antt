-- That sizes, starts, goals and words of neighbours show an instance at all. It stands in the contracts of inner functions.
use Rattle.std.specs.Prelude.{List, ℕ}
use Rattle.instance.specs.declared.Sizes.{Sizes}
use Rattle.instance.specs.Instance.{Instance, Edges, Endpoints}
use Rattle.instance.specs.Shows.{Shows}

-- an instance that they show, with its ends and edges in order
pub record Shown (s : Sizes) (starts goals near : List ℕ) : Type 0 where
  pub instance : Instance
  pub shows : Shows instance s starts goals near
  pub ends : Endpoints instance
  pub edges : Edges instance
