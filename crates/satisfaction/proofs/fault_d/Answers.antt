-- `satisfaction::fault_d` meets its contract: the first two vertices of the first agent with several. Assumes nothing.
use Prim.Native.Nat.{◌+◌}
use mathlib.Core.Path.{refl}
use native.Mathlib.Omega.{arith}
use Rattle.std.specs.Prelude.{None, Some}
use Rattle.plan.specs.Plan.{plan_row}
use Rattle.satisfaction.proofs.Laws.{stop_some}
use Rattle.satisfaction.proofs.Steps.{on_row}
use Rattle.satisfaction.proofs.Truth.{none_D, first_D, second_D, here_D}
use Rattle.satisfaction.proofs.fault_d.Goals as goal

pub returns-in_err-a : goal.returns-in_err-a
returns-in_err-a c =
    let s = c.args.s.sizes in
    let none = on_row s.k c.row_at.result.now (plan_row s c.args.p.now c.args.t) c.row_at.ensures (s.n + 1) None c.in_err-a.ensures in
    rw c.from_residual.ensures (none_D s c.args.entries.now c.requires.read.valid c.args.p.now c.requires.read c.args.t (omega (arith, c.requires.t_le_m)) s.k none refl)

-- `agent`: the first agent with several
pub unwrap-first-requires : goal.unwrap-first-requires
unwrap-first-requires c =
    let s = c.args.s.sizes in
    let agent = on_row s.k c.row_at.result.now (plan_row s c.args.p.now c.args.t) c.row_at.ensures (s.n + 1) (Some c.in_ok-a.a) c.in_ok-a.ensures in
    stop_some c.first_undenied.result c.first_undenied.ensures
    (first_D s c.args.entries.now c.requires.read.valid c.args.p.now c.requires.read c.args.t (omega (arith, c.requires.t_le_m)) c.in_ok-a.a agent.1 agent.0 c.first_entry-base.result _ 0 c.first_entry-base.ensures.0)

pub unwrap-second-requires : goal.unwrap-second-requires
unwrap-second-requires c =
    let s = c.args.s.sizes in
    let agent = on_row s.k c.row_at.result.now (plan_row s c.args.p.now c.args.t) c.row_at.ensures (s.n + 1) (Some c.in_ok-a.a) c.in_ok-a.ensures in
    let first = rw c.unwrap-first.ensures at c.first_undenied.ensures in
    stop_some c.first_undenied-2.result c.first_undenied-2.ensures
    (second_D s c.args.entries.now c.requires.read.valid c.args.p.now c.requires.read c.args.t (omega (arith, c.requires.t_le_m)) c.in_ok-a.a agent.1 agent.0 c.first_entry-base.result c.unwrap-first.result _ c.first_entry-base.ensures.0 first.1)

pub returns : goal.returns
returns c =
    let s = c.args.s.sizes in
    let agent = on_row s.k c.row_at.result.now (plan_row s c.args.p.now c.args.t) c.row_at.ensures (s.n + 1) (Some c.in_ok-a.a) c.in_ok-a.ensures in
    let first = rw c.unwrap-first.ensures at c.first_undenied.ensures in
    let second = rw c.unwrap-second.ensures at c.first_undenied-2.ensures in
    rw (c.pair_count.ensures.0, c.pair_at.ensures.0)
    (here_D s c.args.entries.now c.requires.read.valid c.args.p.now c.requires.read c.args.t (omega (arith, c.requires.t_le_m)) c.in_ok-a.a agent.1 agent.0 c.first_entry-base.result c.unwrap-first.result c.unwrap-second.result c.first_entry-base.ensures.0 first.1 second.1)
