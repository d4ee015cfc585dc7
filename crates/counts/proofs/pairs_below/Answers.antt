-- `counts::pairs_below` meets its contract, by the law. Assumes nothing.
use Prim.Native.Nat.{ℕ, ◌*◌, ◌≤◌}
use native.Mathlib.Omega.{arith}
use native.Mathlib.Nat.{mul-le-mul}
use mir.Syntax.{w64}
use mir.Val.{Fits}
use Rattle.lists.specs.Pairs.{pairs_below}
use Rattle.lists.proofs.Pairs.{pairs_below_lem, pairs_rise, pairs_all, pairs_most}
use Rattle.counts.proofs.pairs_below.Goals as goal

-- no more than there are pairs of 64 numbers
most : (s : goal.Start) → pairs_below s.args.n s.args.v ≤ 2016
most s =
    omega (
      arith,
      pairs_rise s.args.n s.args.v s.args.n (omega arith) (omega arith),
      pairs_all s.args.n,
      pairs_most s.args.n 64 s.requires.1,
    )

-- a product of two factors, whichever they are: what is wrong with a factor shows in the count
fits : (x y : ℕ) → x ≤ 256 → y ≤ 256 → Fits w64 (x * y)
fits x y h l = omega (arith, mul-le-mul {n₂ = 256} {m₂ = 256} h l)

pub overflow_mul-result-2 : goal.overflow_mul-result-2
overflow_mul-result-2 c = fits _ _ (omega arith) (omega arith)

pub returns : goal.returns
returns c = let e = pairs_below_lem c.args.n c.args.v (omega arith) in (omega (arith, e), omega (arith, e, most c))
