-- `added_entries::rest_times` meets its contract: one agent a turn. Assumes nothing.
use mathlib.Core.List.{[], ◌∷◌}
use lib.ListN.{replicate, take}
use Rattle.lists.proofs.Slices.{Filling}
use Rattle.plan.specs.Plan.{plan_row, rest_time}
use Rattle.added_entries.proofs.rest_times.Given as goal

abbrev pub invariant-loop-a : goal.invariant-loop-a
invariant-loop-a l = Filling (λ b. rest_time l.s.sizes.m (plan_row l.s.sizes l.p) b ∷ []) l.s.sizes.k (take l.s.sizes.k (replicate 16 0)) l.a l.a l.time-items
