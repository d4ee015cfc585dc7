-- `one_clause::spot_of` meets its contract: the families passed have fewer clauses than the number. Assumes nothing.
use mathlib.Core.Path.{◌≡◌}
use Prim.Native.Nat.{◌+◌}
use Rattle.lists.specs.Loop.{sum}
use Rattle.one_clause.specs.Spot.{count}
use Rattle.one_clause.proofs.Stands.{Listed}
use Rattle.one_clause.proofs.spot_of.Given as goal

abbrev pub invariant-loop-family : goal.invariant-loop-family
invariant-loop-family l = Listed l.fn.s.sizes l.family-items × (l.number ≡ sum l.family-index (count l.fn.s.sizes) + l.place)
