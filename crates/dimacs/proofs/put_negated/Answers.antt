-- `dimacs::put_negated` meets its contract: a minus sign, the bytes of the text, and a length that is one more. Assumes nothing.
use native.Mathlib.Omega.{arith}
use Rattle.dimacs.proofs.Table.{entry_length, entry_negated}
use Rattle.dimacs.proofs.put_negated.Goals as goal

pub overflow_add-out : goal.overflow_add-out
overflow_add-out c = record { fits = omega (arith, entry_length _ _ c.requires.2 c.requires.0) }

pub returns : goal.returns
returns c = entry_negated c.args.x c.args.entry.now c.args.out.now _ c.requires.1 c.requires.2 c.requires.3 c.told-entry c.requires.0 c.copy_from_slice.ensures.after
