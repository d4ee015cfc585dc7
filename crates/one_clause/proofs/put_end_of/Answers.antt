-- `one_clause::put_end_of` meets its contract. It follows from the contracts of the functions called and the laws cited. Assumes nothing.
use mir.Facts.{to_z-of_z}
use borrow.Author.Rules.{sfits_of}
use Rattle.one_clause.proofs.put_end_of.Goals as goal

pub returns : goal.returns
returns c =
    (c.put_clause.ensures.0, rw (to_z-of_z (sfits_of c.positive.type_inv), c.positive.ensures, c.from.ensures) at c.put_clause.ensures.1)
