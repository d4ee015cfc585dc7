-- `clauses::put_near` meets its contract: by either of the two. Assumes nothing.
use Prim.Native.Nat.{◌*◌, ◌≤◌}
use native.Mathlib.Nat.{mul-le-mul}
use native.Mathlib.Omega.{arith}
use Rattle.clauses.proofs.put_near.Goals as goal

pub overflow_mul-s-2 : goal.overflow_mul-s-2
overflow_mul-s-2 c =
    let q : 3 * c.args.s.sizes.n * c.args.s.sizes.n ≤ 192 * 64 = mul-le-mul {n₂ = 192} {m₂ = 64} (omega (arith, c.args.s.limits.n_most)) c.args.s.limits.n_most in
    omega arith
