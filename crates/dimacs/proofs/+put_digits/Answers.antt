-- `dimacs::put_digits` meets its contract: the digits of a tenth stand first, and the last digit is stored behind them. Assumes nothing.
use mathlib.Core.Path.{refl, ap}
use mathlib.Core.List.{[], ◌∷◌}
use native.Mathlib.Omega.{arith}
use lib.ListN.{length}
use Rattle.lists.proofs.Slices.{sets_filled}
use Rattle.decimals.specs.Decimals.{digit}
use Rattle.decimals.proofs.Laws.{decimal_one, length_more}
use Rattle.dimacs.proofs.Laws.{put_more}
use borrow.Author.Rules.{rules}
use Rattle.dimacs.proofs.+put_digits.Goals as goal

pub bounds-out-0 : goal.bounds-out-0
bounds-out-0 t c = let n = ap length (decimal_one c.args.x (omega arith)) in omega (arith, c.requires)

pub returns-then-x-lt10 : goal.returns-then-x-lt10
returns-then-x-lt10 t c =
    let e = decimal_one c.args.x (omega arith) in
    rw (e, c.digit_of.ensures) (refl, sets_filled (digit c.args.x ∷ []) c.args.out.now (omega (arith, ap length e, c.requires)))

pub put_digits-n-requires : goal.put_digits-n-requires
put_digits-n-requires t c = let n = length_more c.args.x (omega arith) in (omega arith, omega (arith, c.requires))

pub bounds-out-n : goal.bounds-out-n
bounds-out-n t c = let n = length_more c.args.x (omega arith) in omega (arith, c.put_digits-n.auto.out)

pub overflow_add-result : goal.overflow_add-result
overflow_add-result t c = let n = length_more c.args.x (omega arith) in search rules

pub returns : goal.returns
returns t c =
    rw c.digit_of-2.ensures
    (put_more c.args.x c.put_digits-n.result c.put_digits-n.new.out c.args.out.now (omega arith) c.put_digits-n.ensures.0 c.requires c.put_digits-n.ensures.1)
