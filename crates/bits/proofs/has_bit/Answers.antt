-- `bits::has_bit` meets its contract: its shift is the definition's division. Assumes nothing.
use mathlib.Core.Path.{refl}
use Rattle.bits.specs.Bits.{bit}
use Rattle.bits.proofs.has_bit.Goals as goal

pub returns : goal.returns
unfolding bit
returns c = refl
