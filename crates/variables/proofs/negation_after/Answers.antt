-- `variables::negation_after` meets its contract: less a number, a negative is that of the sum. Assumes nothing.
use native.Mathlib.Omega.{arith}
use mir.Facts.{to_z-of_z}
use Rattle.variables.proofs.Laws.{neg_less, neg_fits}
use borrow.Author.Rules.{sfits_of}
use Rattle.variables.proofs.negation_after.Goals as goal

pub negation_of-requires : goal.negation_of-requires
negation_of-requires c = omega arith

pub overflow_sub-result : goal.overflow_sub-result
overflow_sub-result c =
    rw (neg_less c.negation_of.result c.args.x.0 c.args.by (sfits_of c.negation_of.type_inv) c.negation_of.ensures c.requires) (neg_fits _ c.requires)

pub returns : goal.returns
returns c =
    rw (neg_less c.negation_of.result c.args.x.0 c.args.by (sfits_of c.negation_of.type_inv) c.negation_of.ensures c.requires) (to_z-of_z (neg_fits _ c.requires))
