-- `bits::others` meets its contract: `xor` with all of the bits. Assumes nothing.
use Rattle.bits.proofs.Bits.{other_bits}
use Rattle.bits.proofs.others.Goals as goal

pub returns : goal.returns
returns c = other_bits c.before.args.n c.before.args.x c.lowest_bits.result c.lowest_bits.ensures c.before.requires.1
