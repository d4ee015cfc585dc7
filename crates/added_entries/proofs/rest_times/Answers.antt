-- `added_entries::rest_times` meets its contract: one agent a turn. Assumes nothing.
use mathlib.Core.Path.{◌≡◌, sym, ◌∙◌, ap}
use mathlib.Core.List.{List, [], ◌∷◌}
use Prim.Native.Nat.{ℕ}
use native.Mathlib.Omega.{arith}
use lib.ListN.{replicate}
use Rattle.lists.proofs.Slices.{filling_set}
use Rattle.plan.specs.Plan.{plan_row, rest_time}
use Rattle.plan.proofs.Rest.{rest_until}
use Rattle.added_entries.proofs.Laws.{part_within, part_from, part_done}
use Rattle.added_entries.proofs.rest_times.Goals as goal

abbrev zeros : List ℕ
zeros = replicate 16 0

pub overflow_add-rows : goal.overflow_add-rows
overflow_add-rows c = omega (arith, c.args.s.limits.m_most)

pub loop-a-init : goal.loop-a-init
loop-a-init c = part_from zeros c.args.s.limits.k_most

pub rest_time-requires : goal.rest_time-requires
rest_time-requires c = (c.requires, omega arith, part_within zeros c.args.s.limits.k_most c.loop-a-test.true)

pub overflow_cast-time : goal.overflow_cast-time
overflow_cast-time c =
    let s = c.args.s.sizes in
    let P = plan_row s c.args.p.now in
    let a = c.loop-a.a in
    let e : c.rest_time.result ≡ rest_time s.m P a = c.rest_time.ensures ∙ ap (λ (j : ℕ). rest_time j P a) (omega arith) in
    omega (arith, e, (rest_until s.m P a).within, c.args.s.limits.m_most)

pub loop-a-preserved : goal.loop-a-preserved
loop-a-preserved c =
    let s = c.args.s.sizes in
    let P = plan_row s c.args.p.now in
    let a = c.loop-a.a in
    let e : c.rest_time.result ≡ rest_time s.m P a = c.rest_time.ensures ∙ ap (λ (j : ℕ). rest_time j P a) (omega arith) in
    filling_set c.loop-a.invariant (part_within zeros c.args.s.limits.k_most c.loop-a-test.true) _ (ap (λ (t : ℕ). t ∷ []) (sym e))

pub returns : goal.returns
returns c = part_done zeros c.args.s.limits.k_most c.loop-a.invariant c.loop-a-test.false
