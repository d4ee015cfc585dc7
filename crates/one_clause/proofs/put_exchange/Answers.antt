-- `one_clause::put_exchange` meets its contract. It follows from the contracts of the functions called. Assumes nothing.
use native.Mathlib.Numerals.{add-one}
use mir.Facts.{to_z-of_z}
use borrow.Author.Rules.{sfits_of}
use Rattle.one_clause.proofs.put_exchange.Goals as goal

pub returns : goal.returns
returns c =
    rw (add-one c.args.t.0) at (rw (to_z-of_z (sfits_of c.negative.type_inv), c.negative.ensures, to_z-of_z (sfits_of c.negative-2.type_inv), c.negative-2.ensures, to_z-of_z (sfits_of c.negative-3.type_inv), c.negative-3.ensures, to_z-of_z (sfits_of c.negative-4.type_inv), c.negative-4.ensures) at c.put_clause.ensures)
