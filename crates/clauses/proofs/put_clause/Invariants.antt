-- `clauses::put_clause` meets its contract. The invariant: each turn has written its literal behind those before it. Assumes nothing.
use mathlib.Core.List.{[], ◌∷◌}
use lib.IntN.{pos}
use Rattle.std.proofs.Common.{slice_index_or}
use Rattle.lists.proofs.Slices.{Filling}
use Rattle.clauses.proofs.put_clause.Given as goal

abbrev pub invariant-loop-i : goal.invariant-loop-i
invariant-loop-i g l = Filling (λ k. slice_index_or l.literals k (pos 0) ∷ []) g.row.N l.initial.f l.i l.i l.f
