-- `instance_check::mark_fan` meets its contract. The invariant: the high ends so far are marked. Assumes nothing.
use native.Mathlib.Omega.{arith}
use Rattle.instance_check.proofs.Fan.{part_length, part_none, part_more, part_all, fanned_length, fanned_all}
use Rattle.instance_check.proofs.mark_fan.Goals as goal

pub loop-word-init : goal.loop-word-init
loop-word-init c = part_none c.args.near.now c.args.low c.args.high c.args.n c.requires.1 c.requires.2 c.requires.3

pub loop-word-preserved : goal.loop-word-preserved
loop-word-preserved c =
    let args = c.args in
    let k = part_length args.near.now args.low args.high args.n c.requires.1 c.requires.2 c.requires.3 in
    rw c.with_bit.ensures (part_more args.near.now args.low args.high args.n c.requires.1 c.requires.2 c.requires.3 c.loop-word.invariant (omega (arith, k, c.loop-word-test.true)))

pub returns : goal.returns
returns c =
    let args = c.args in
    let k = part_length args.near.now args.low args.high args.n c.requires.1 c.requires.2 c.requires.3 in
    let f = part_all args.near.now args.low args.high args.n c.requires.1 c.requires.2 c.requires.3 c.loop-word.invariant (omega (arith, k, c.loop-word-test.false)) in
    rw c.bits_from.ensures (fanned_length f c.requires.0 (omega arith), λ v u l. fanned_all f c.requires.0 (omega arith) v u)
