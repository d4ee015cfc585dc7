-- `added_satisfaction::chain_fault` meets its contract: each link before has a true literal. Assumes nothing.
use native.Mathlib.Omega.{arith}
use Rattle.answers.proofs.Faults.{fails}
use Rattle.added_satisfaction.proofs.Added.{chain_fails, chain_passes}
use Rattle.added_satisfaction.proofs.chain_fault.Goals as goal

pub returns-then-not-implies : goal.returns-then-not-implies
returns-then-not-implies c =
    let l = c.loop-i in
    let e = c.variable_count-first.ensures.0 in
    chain_fails c.args.s.sizes c.args.of.entries.now l.i c.loop-i-test.true (rw e at l.invariant) (fails (rw e at c.implies.ensures) c.if-not-implies.true)

pub returns : goal.returns
returns c =
    let l = c.loop-i in
    chain_passes c.args.s.sizes c.args.of.entries.now l.i (omega arith) (rw c.variable_count-first.ensures.0 at l.invariant)
