-- The moves as the loops write them: those of an agent at one time, and those of one time.
use Rattle.std.specs.Prelude.{List, [], ◌∷◌, ℕ}
use Rattle.lists.specs.Loop.{for}
use Rattle.instance.specs.declared.Sizes.{Sizes}
use Rattle.formula.specs.Formula.{Clause}
use Rattle.ceiling.specs.Ceiling.{moving}

module _ (s : Sizes) where
  abbrev pub agent_moves : ℕ → ℕ → List Clause
  agent_moves t a = for s.n λ v. moving s t a v ∷ []

  abbrev pub step_moves : ℕ → List Clause
  step_moves t = for s.k (agent_moves t)
