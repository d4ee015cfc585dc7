-- `dimacs::put_longer` meets its contract: the digits of x / 10 stay, and one more stands where the space was. Assumes nothing.
use mathlib.Core.Path.{ap}
use Prim.Native.Nat.{◌/◌}
use native.Mathlib.Omega.{arith}
use lib.ListN.{length, length-append, length-set}
use Rattle.dimacs.proofs.Table.{copied, entry_length, entry_longer}
use Rattle.dimacs.proofs.put_longer.Goals as goal

pub overflow_sub-out : goal.overflow_sub-out
overflow_sub-out c = omega (arith, entry_length (c.args.x / 10) c.args.tenth.now (omega (arith, c.requires.2)) c.requires.0)

pub bounds-out-n : goal.bounds-out-n
bounds-out-n c = simp length-append (omega (arith, entry_length (c.args.x / 10) c.args.tenth.now (omega (arith, c.requires.2)) c.requires.0, ap length c.copy_from_slice.ensures.after))

pub bounds-out-n-2 : goal.bounds-out-n-2
bounds-out-n-2 c = simp (length-set, length-append) (omega (arith, entry_length (c.args.x / 10) c.args.tenth.now (omega (arith, c.requires.2)) c.requires.0, ap length c.copy_from_slice.ensures.after))

pub overflow_cast-out : goal.overflow_cast-out
overflow_cast-out c = record { fits = omega (arith, entry_length (c.args.x / 10) c.args.tenth.now (omega (arith, c.requires.2)) c.requires.0) }

pub returns : goal.returns
returns c =
    rw (c.digit_of.ensures, c.from-n.ensures)
    (entry_longer c.args.x c.requires.1 c.args.tenth.now _ c.args.out.now c.requires.2 c.requires.3 c.told-tenth c.requires.0 (copied _ c.args.out.now _ c.told-tenth c.copy_from_slice.ensures.after))
