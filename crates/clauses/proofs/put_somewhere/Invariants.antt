use Rattle.std.proofs.Common.{[], ◌∷◌}
use Rattle.lists.proofs.Slices.{Filling}
use lib.ListN.{take}
use Rattle.formula.specs.Variables.{X}
use Rattle.clauses.proofs.put_somewhere.Given as goal

abbrev pub invariant-loop-v : goal.invariant-loop-v
invariant-loop-v l = Filling (λ k. X l.s.sizes l.t.0 l.a.0 k ∷ []) l.n (take l.n l.fn.f) l.v l.v l.x-items
