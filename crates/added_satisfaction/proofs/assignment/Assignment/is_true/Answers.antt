-- `added_satisfaction::assignment::Assignment::is_true` meets its contract: an entry of a valuation is positive where its variable is true. Assumes nothing.
use mir.Facts.{to_z-of_z}
use borrow.Author.Rules.{sfits_of}
use Rattle.added_satisfaction.proofs.Truth.{valuation, positive}
use Rattle.added_satisfaction.proofs.assignment.Assignment.is_true.Goals as goal

pub returns : goal.returns
returns c =
    rw (to_z-of_z (sfits_of c.e-1.given)) (positive c.args.self.entries.now (valuation c.args.self.entries.now c.args.self.right) c.args.z c.requires.0 c.requires.1)
