-- `bits::with_bit` meets its contract: a shift below 64 places loses nothing. Assumes nothing.
use mathlib.Core.Path.{ap}
use lib.Bits.{bit_or}
use Rattle.bits.proofs.Bits.{shifted}
use Rattle.bits.proofs.with_bit.Goals as goal

pub returns : goal.returns
returns c = ap (bit_or c.args.x) (shifted c.args.w c.requires)
