-- `dimacs::put_entry` meets its contract: a text of at most seven bytes, and then its length. Assumes nothing.
use native.Mathlib.Omega.{arith}
use Rattle.decimals.proofs.Laws.{length_most}
use Rattle.dimacs.proofs.Laws.{word_size}
use Rattle.dimacs.proofs.Table.{entry_put}
use Rattle.dimacs.proofs.put_entry.Goals as goal

pub put_ended-n-requires : goal.put_ended-n-requires
put_ended-n-requires c = omega (arith, length_most 5 c.args.x (omega arith))

pub returns : goal.returns
returns c =
    entry_put c.args.x c.put_ended-n.result c.put_ended-n.new.out c.args.out.now c.requires.0 c.requires.1
    (rw (word_size c.args.x, ← c.end_of.ensures) c.put_ended-n.ensures.0)
