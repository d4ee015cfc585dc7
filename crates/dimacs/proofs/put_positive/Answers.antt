-- `dimacs::put_positive` meets its contract: the entry of x is made from that of x / 10, which is below x; the others stay. Assumes nothing.
use Prim.Native.Nat.{◌/◌, ◌<◌}
use native.Mathlib.Omega.{arith}
use lib.ListN.{length-take, length-drop}
use Rattle.dimacs.specs.Table.{Numbers}
use Rattle.dimacs.proofs.Table.{numbers_next}
use Rattle.dimacs.proofs.put_positive.Goals as goal

pub put_longer-requires : goal.put_longer-requires
unfolding Numbers
put_longer-requires c =
    let x = c.args.x in
    let less : x / 10 < x = omega (arith, c.if-x-ge10.true) in
    (rw c.copied_entry-tenth.ensures (c.requires.2 (x / 10) less), c.if-x-ge10.true, omega (arith, c.requires.0, c.requires.1), simp (length-take, length-drop) (omega (arith, c.requires.0, c.requires.1)))

pub returns-then-x-ge10 : goal.returns-then-x-ge10
returns-then-x-ge10 c = numbers_next c.args.top c.args.texts.now c.put_longer.new.out c.args.x c.requires.0 c.requires.1 c.put_longer.auto.out c.requires.2 c.put_longer.ensures

pub returns : goal.returns
returns c = numbers_next c.args.top c.args.texts.now c.put_entry.new.out c.args.x c.requires.0 c.requires.1 c.put_entry.auto.out c.requires.2 c.put_entry.ensures
