-- `variables::is_negation` meets its contract: stored numbers are equal exactly where the signed numbers are. Assumes nothing.
use Prim.Native.Nat.{◌+◌}
use lib.IntN.{pos, neg_ℤ}
use Rattle.variables.proofs.Laws.{neg_fits, bits_same}
use Rattle.variables.proofs.is_negation.Goals as goal

pub returns : goal.returns
returns c =
    rw c.negation_after-negation.ensures (bits_same c.args.entry (neg_ℤ (pos (c.args.x.0 + c.args.by))) c.ranges.entry (neg_fits _ c.requires))
