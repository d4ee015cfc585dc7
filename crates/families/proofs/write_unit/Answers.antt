-- `families::write_unit` meets its contract. Assumes nothing.
use mir.Facts.{to_z-of_z}
use borrow.Author.Rules.{sfits_of}
use Rattle.families.proofs.write_unit.Goals as goal

pub returns : goal.returns
returns c = rw (to_z-of_z (sfits_of c.positive.type_inv), c.positive.ensures, c.from.ensures) at c.put_clause.ensures
