-- `bits::bits_from` meets its contract: the lowest bits without those below. Assumes nothing.
use native.Mathlib.Omega.{arith}
use Rattle.bits.proofs.Bits.{word_between}
use Rattle.bits.proofs.bits_from.Goals as goal

pub overflow_sub-result : goal.overflow_sub-result
overflow_sub-result c = omega (arith, c.lowest_bits-2.ensures, c.before.lowest_bits.ensures, word_between c.before.before.args.from c.before.before.args.to (omega arith))

pub returns : goal.returns
returns c = omega (arith, c.lowest_bits-2.ensures, c.before.lowest_bits.ensures, word_between c.before.before.args.from c.before.before.args.to (omega arith))
