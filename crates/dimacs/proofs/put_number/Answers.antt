-- `dimacs::put_number` meets its contract: a number below 2 ^ 64 has at most 20 digits. Assumes nothing.
use native.Mathlib.Omega.{arith}
use Rattle.decimals.proofs.Laws.{length_any}
use Rattle.dimacs.proofs.put_number.Goals as goal

pub put_digits-requires : goal.put_digits-requires
put_digits-requires c = omega (arith, length_any c.args.x c.ranges.x.fits)
