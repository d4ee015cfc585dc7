-- `counts::variable_count` meets its contract: the products are small. Assumes nothing.
use native.Mathlib.Numerals.{add-one}
use native.Mathlib.Omega.{arith}
use Rattle.counts.proofs.Laws.{products}
use Rattle.counts.proofs.variable_count.Goals as goal

pub overflow_mul-result : goal.overflow_mul-result
overflow_mul-result c = let s = c in omega (arith, (products s.args.s.sizes s.args.s.limits).places)

pub overflow_mul-result-2 : goal.overflow_mul-result-2
overflow_mul-result-2 c = let s = c in omega (arith, (products s.args.s.sizes s.args.s.limits).variables)

pub returns : goal.returns
returns c = let s = c in (rw add-one, (products s.args.s.sizes s.args.s.limits).variables)
