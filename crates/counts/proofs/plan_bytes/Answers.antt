-- `counts::plan_bytes` meets its contract: the product is small. Assumes nothing.
use native.Mathlib.Numerals.{add-one}
use native.Mathlib.Omega.{arith}
use Rattle.counts.proofs.Laws.{products}
use Rattle.counts.proofs.plan_bytes.Goals as goal

pub overflow_mul-result : goal.overflow_mul-result
overflow_mul-result c = let s = c in omega (arith, (products s.args.s.sizes s.args.s.limits).rows')

pub returns : goal.returns
returns c = let s = c in (rw add-one, (products s.args.s.sizes s.args.s.limits).rows')
