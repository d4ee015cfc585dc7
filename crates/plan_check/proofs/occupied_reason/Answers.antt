-- `plan_check::occupied_reason` meets its contract. The first agent found on the vertex entered is the occupant, since the agent fails condition 2. Assumes nothing.
use Prim.Native.Nat.{◌<◌}
use native.Mathlib.Omega.{arith}
use Rattle.std.specs.Prelude.{None, Some}
use Rattle.plan_check.proofs.Laws.{found_there, occupant_below, number_stays, number_exchanges, number_on}
use Rattle.plan_check.proofs.occupied_reason.Goals as goal

pub unreachable-requires : goal.unreachable-requires
unreachable-requires c =
    let a = c.args in
    let none : a.s.k < a.s.k = occupant_below a.s c.requires.rule_nonzero.0 a.p.now a.t a.a c.requires.rule_nonzero.1 a.s.k (found_there a.s a.p.now a.t c.requires.p_len.0 c.requires.p_len.1 _ None c.in_default.ensures) in
    omega arith

pub returns-then-end-entered : goal.returns-then-end-entered
returns-then-end-entered c =
    let a = c.args in
    number_stays a.s c.requires.rule_nonzero.0 a.p.now a.t a.a c.requires.rule_nonzero.1 _ (found_there a.s a.p.now a.t c.requires.p_len.0 c.requires.p_len.1 _ (Some c.in-Some.occupant) c.in-Some.ensures).1 c.if-end-entered.true

pub returns-then-end-old : goal.returns-then-end-old
returns-then-end-old c =
    let a = c.args in
    number_exchanges a.s c.requires.rule_nonzero.0 a.p.now a.t a.a c.requires.rule_nonzero.1 _ (found_there a.s a.p.now a.t c.requires.p_len.0 c.requires.p_len.1 _ (Some c.in-Some.occupant) c.in-Some.ensures).1 c.if-end-entered.false c.if-end-old.true

pub returns : goal.returns
returns c =
    let a = c.args in
    number_on a.s c.requires.rule_nonzero.0 a.p.now a.t a.a c.requires.rule_nonzero.1 _ (found_there a.s a.p.now a.t c.requires.p_len.0 c.requires.p_len.1 _ (Some c.in-Some.occupant) c.in-Some.ensures).1 c.if-end-entered.false c.if-end-old.false
