-- `counts::pair_count` meets its contract. It follows from the contracts of the functions called and the laws cited. Assumes nothing.
use mathlib.Core.Path.{refl}
use Prim.Native.Nat.{◌-◌, ◌*◌, ◌≤◌}
use native.Mathlib.Omega.{arith}
use native.Mathlib.Nat.{mul-le-mul}
use Rattle.counts.proofs.pair_count.Goals as goal

pub returns-then-n-eq0 : goal.returns-then-n-eq0
returns-then-n-eq0 c = rw c.if-n-eq0.true (refl, omega arith)

pub overflow_mul-result : goal.overflow_mul-result
overflow_mul-result c = let q : c.args.n * (c.args.n - 1) ≤ 4032 = mul-le-mul {n₂ = 64} {m₂ = 63} (omega arith) (omega arith) in omega arith

pub returns : goal.returns
returns c = let q : c.args.n * (c.args.n - 1) ≤ 4032 = mul-le-mul {n₂ = 64} {m₂ = 63} (omega arith) (omega arith) in (refl, omega arith)
