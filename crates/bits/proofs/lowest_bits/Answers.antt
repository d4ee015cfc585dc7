-- `bits::lowest_bits` meets its contract: a power of two less one. Assumes nothing.
use mathlib.Core.Path.{sym, ap}
use Prim.Native.Nat.{ℕ, ◌^◌}
use native.Mathlib.Omega.{arith}
use lib.Pow.{pow_pos}
use Rattle.bits.proofs.Bits.{shifted}
use Rattle.bits.proofs.lowest_bits.Goals as goal

pub returns-then-n-eq64 : goal.returns-then-n-eq64
returns-then-n-eq64 c = ap (λ (x : ℕ). 2 ^ x) (sym c.if-n-eq64.true)

pub overflow_sub-result : goal.overflow_sub-result
overflow_sub-result c = rw (shifted c.before.args.n (omega arith)) (pow_pos c.before.args.n)

pub returns : goal.returns
returns c = rw (shifted c.before.args.n (omega arith)) (omega (arith, pow_pos c.before.args.n))
