-- `bits::without` meets its contract. Assumes nothing.
use Rattle.bits.proofs.Bits.{set_without}
use Rattle.bits.proofs.without.Goals as goal

pub returns : goal.returns
returns c w = set_without c.args.x c.args.y w
