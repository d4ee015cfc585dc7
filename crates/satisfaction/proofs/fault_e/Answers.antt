-- `satisfaction::fault_e` meets its contract: the first shared vertex, its first agent and the next. Assumes nothing.
use mathlib.Core.Path.{refl}
use native.Mathlib.Omega.{arith}
use Rattle.std.specs.Prelude.{None, Some}
use Rattle.plan.specs.Plan.{plan_row}
use Rattle.satisfaction.proofs.Steps.{on_row, on_rest, lowest_row, shared_some, shared_next}
use Rattle.satisfaction.proofs.Truth.{none_E, here_E}
use Rattle.satisfaction.proofs.fault_e.Goals as goal

pub returns-in_err-v : goal.returns-in_err-v
returns-in_err-v c =
    let s = c.args.s.sizes in
    let none = lowest_row s.k c.row_at-here.result.now (plan_row s c.args.p.now c.args.t) c.row_at-here.ensures s.n None c.in_err-v.ensures in
    λ es w c'. rw c.from_residual.ensures (none_E s es w (plan_row s c.args.p.now) c' c.args.t (omega (arith, c.requires.1)) s.n none refl)

pub unwrap-a-requires : goal.unwrap-a-requires
unwrap-a-requires c =
    let s = c.args.s.sizes in
    let lowest = lowest_row s.k c.row_at-here.result.now (plan_row s c.args.p.now c.args.t) c.row_at-here.ensures s.n (Some c.in_ok-v.v) c.in_ok-v.ensures in
    shared_some s.k (plan_row s c.args.p.now c.args.t) s.n c.in_ok-v.v lowest c.first_on.result
    (on_row s.k c.row_at-here.result.now (plan_row s c.args.p.now c.args.t) c.row_at-here.ensures c.in_ok-v.v c.first_on.result c.first_on.ensures)

-- `first`: the first agent on that vertex
pub unwrap-gap-requires : goal.unwrap-gap-requires
unwrap-gap-requires c =
    let s = c.args.s.sizes in
    let P = plan_row s c.args.p.now c.args.t in
    let lowest = lowest_row s.k c.row_at-here.result.now P c.row_at-here.ensures s.n (Some c.in_ok-v.v) c.in_ok-v.ensures in
    let first = on_row s.k c.row_at-here.result.now P c.row_at-here.ensures c.in_ok-v.v (Some c.unwrap-a.result) (rw c.unwrap-a.ensures at c.first_on.ensures) in
    shared_next s.k P s.n c.in_ok-v.v lowest c.unwrap-a.result first.1 c.first_on-2.result
    (on_rest s.k c.row_at-here.result.now P c.row_at-here.ensures c.unwrap-a.result first.0 c.in_ok-v.v c.first_on-2.result c.first_on-2.ensures)

pub returns : goal.returns
returns c =
    let s = c.args.s.sizes in
    let P = plan_row s c.args.p.now c.args.t in
    let lowest = lowest_row s.k c.row_at-here.result.now P c.row_at-here.ensures s.n (Some c.in_ok-v.v) c.in_ok-v.ensures in
    let first = on_row s.k c.row_at-here.result.now P c.row_at-here.ensures c.in_ok-v.v (Some c.unwrap-a.result) (rw c.unwrap-a.ensures at c.first_on.ensures) in
    let next = on_rest s.k c.row_at-here.result.now P c.row_at-here.ensures c.unwrap-a.result first.0 c.in_ok-v.v (Some c.unwrap-gap.result) (rw c.unwrap-gap.ensures at c.first_on-2.ensures) in
    λ es w c'. rw (c.pair_count.ensures.0, c.pair_at.ensures.0)
    (here_E s es w (plan_row s c.args.p.now) c' c.args.t (omega (arith, c.requires.1)) c.in_ok-v.v lowest.1 lowest.0 c.unwrap-a.result c.unwrap-gap.result first.1 next.1)
