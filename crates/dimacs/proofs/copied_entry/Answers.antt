-- `dimacs::copied_entry` meets its contract: the table's chunks of eight bytes are its entries. Assumes nothing.
use native.Mathlib.Omega.{arith}
use Rattle.dimacs.proofs.Table.{entry_chunk}
use Rattle.dimacs.proofs.copied_entry.Goals as goal

pub returns : goal.returns
returns c = rw c.as_chunks.ensures.front (entry_chunk _ c.args.i c.args.texts.now (omega arith))
