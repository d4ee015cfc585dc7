-- `added_satisfaction::moves_fault` meets its contract: the agents of the bytes before keep their vertices, or their B are true. Assumes nothing.
use native.Mathlib.Omega.{arith}
use Rattle.answers.proofs.Faults.{fails}
use Rattle.added_satisfaction.proofs.Added.{moves_fails, moves_passes}
use Rattle.added_satisfaction.proofs.moves_fault.Goals as goal

pub returns-then-not-keeps_or : goal.returns-then-not-keeps_or
returns-then-not-keeps_or c =
    let l = c.loop-i in
    let e = c.variable_count-first.ensures.0 in
    rw c.from.ensures
    (moves_fails c.args.s.sizes c.args.of.entries.now c.args.p.now c.requires.p_len.1 l.i c.loop-i-test.true (rw e at l.invariant)
    (fails (rw e at c.keeps_or.ensures) c.if-not-keeps_or.true))

pub returns : goal.returns
returns c =
    let l = c.loop-i in
    moves_passes c.args.s.sizes c.args.of.entries.now c.args.p.now c.requires.p_len.1 l.i (omega arith) (rw c.variable_count-first.ensures.0 at l.invariant)
