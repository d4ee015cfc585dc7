-- `clauses::positive` meets its contract. Assumes nothing.
use mathlib.Core.Path.{◌∙◌, ap}
use mir.Facts.{to_z-of_z}
use borrow.Author.Rules.{sfits_of}
use lib.IntN.{pos}
use Rattle.clauses.proofs.positive.Goals as goal

pub returns : goal.returns
returns c = rw (to_z-of_z (sfits_of c.literal_of.type_inv)) (c.literal_of.ensures ∙ ap pos c.variable_of.ensures.0)
