-- `added_entries::entry_of` meets its contract. Assumes nothing.
use mathlib.Core.Path.{◌∙◌}
use mir.Syntax.{w32}
use mir.Facts.{to_z-of_z}
use borrow.Author.Rules.{sfits_of}
use Rattle.added_entries.proofs.entry_of.Goals as goal

pub returns-then-b : goal.returns-then-b
returns-then-b c = rw c.if-b.true (to_z-of_z {w = w32} (sfits_of c.literal_of.type_inv) ∙ c.literal_of.ensures)

pub returns-else-b : goal.returns-else-b
returns-else-b c = rw c.if-b.false (to_z-of_z {w = w32} (sfits_of c.negation_of.type_inv) ∙ c.negation_of.ensures)
