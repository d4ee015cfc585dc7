-- `dimacs::put_negative` meets its contract: the entry of -x is made from that of x; the others stay. Assumes nothing.
use native.Mathlib.Omega.{arith}
use lib.ListN.{length-take, length-drop}
use Rattle.dimacs.specs.Table.{Numbers}
use Rattle.dimacs.proofs.Table.{negatives_next}
use Rattle.dimacs.proofs.put_negative.Goals as goal

pub put_negated-requires : goal.put_negated-requires
unfolding Numbers
put_negated-requires c =
    (rw c.copied_entry-entry.ensures (c.requires.3 c.args.x (omega (arith, c.requires.2))), c.requires.1, omega (arith, c.requires.0, c.requires.2), simp (length-take, length-drop) (omega (arith, c.requires.0, c.requires.2)))

pub returns : goal.returns
returns c = negatives_next c.args.top c.args.texts.now c.put_negated.new.out c.args.x c.requires.0 c.requires.2 c.requires.1 c.put_negated.auto.out c.requires.3 c.requires.4 c.put_negated.ensures
