-- `variables::negation_of` meets its contract: a variable number is small, so its negative fits. Assumes nothing.
use mir.Facts.{to_z-of_z}
use Rattle.variables.proofs.Laws.{neg_is, neg_fits}
use Rattle.variables.proofs.negation_of.Goals as goal

pub overflow_sub-result : goal.overflow_sub-result
overflow_sub-result c =
    rw (neg_is _ c.requires) (neg_fits _ c.requires)

pub returns : goal.returns
returns c =
    rw (neg_is _ c.requires) (to_z-of_z (neg_fits _ c.requires))
