-- `bits::above` meets its contract. Assumes nothing.
use lib.Bits.{and_le_r}
use Rattle.bits.proofs.Bits.{set_above}
use Rattle.bits.proofs.above.Goals as goal

pub returns : goal.returns
returns c = (
  and_le_r c.bits_from.result c.before.args.x,
  λ w. rw c.bits_from.ensures (set_above c.before.args.x c.before.args.u w c.before.ranges.x.fits),
)
