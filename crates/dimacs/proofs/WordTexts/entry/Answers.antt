-- `dimacs::WordTexts::entry` meets its contract: the table has the word's entry. Assumes nothing.
use mir.Facts.{to_z-of_z}
use Rattle.dimacs.proofs.WordTexts.entry.Goals as goal

pub returns : goal.returns
returns c =
    let at = rw (to_z-of_z c.ranges.w) at c.entry_of.ensures in
    rw (c.copied_entry.ensures, at) (c.args.self.all.entries c.args.w c.requires)
