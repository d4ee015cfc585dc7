-- `families::put_partner` meets its contract. Assumes nothing.
use native.Mathlib.Numerals.{add-one}
use mir.Facts.{to_z-of_z}
use borrow.Author.Rules.{sfits_of}
use Rattle.families.proofs.put_partner.Goals as goal

pub returns : goal.returns
returns c = rw (to_z-of_z c.ranges.x, to_z-of_z c.ranges.y, to_z-of_z (sfits_of c.negative.type_inv), c.negative.ensures, to_z-of_z (sfits_of c.negative-2.type_inv), c.negative-2.ensures, add-one c.args.t.0) at c.put_clause.ensures
