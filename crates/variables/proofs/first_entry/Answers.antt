-- `variables::first_entry` meets its contract: few entries come before the agent's at that time. Assumes nothing.
use Prim.Native.Nat.{ℕ, ◌+◌, ◌*◌, ◌≤◌, ◌<◌}
use native.Mathlib.Nat.{mul-le-mul}
use native.Mathlib.Omega.{arith}
use Rattle.formula.proofs.Variables.{index_is, run_fits, runs_before}
use Rattle.variables.proofs.first_entry.Goals as goal

pub overflow_add-rows : goal.overflow_add-rows
overflow_add-rows c = omega (arith, c.args.s.limits.m_most)

pub overflow_mul-result : goal.overflow_mul-result
overflow_mul-result c =
    let few : (c.args.a.0 * (c.args.s.sizes.m + 1) + c.args.t.0 < 528) × (c.args.t.0 * c.args.s.sizes.k + c.args.a.0 < 528) = (
      runs_before c.args.s.sizes c.args.s.limits c.args.t.0 c.args.a.0 c.requires.0 c.requires.1,
      omega (arith, mul-le-mul {n₂ = 32} {m₂ = 16} (let l : c.args.t.0 ≤ 32 = omega (arith, c.requires.0, c.args.s.limits.m_most) in l) c.args.s.limits.k_most, c.requires.1, c.args.s.limits.k_most),
    ) in
    omega (arith, few)

pub overflow_add-result : goal.overflow_add-result
overflow_add-result c =
    let few : (c.args.a.0 * (c.args.s.sizes.m + 1) + c.args.t.0 < 528) × (c.args.t.0 * c.args.s.sizes.k + c.args.a.0 < 528) = (
      runs_before c.args.s.sizes c.args.s.limits c.args.t.0 c.args.a.0 c.requires.0 c.requires.1,
      omega (arith, mul-le-mul {n₂ = 32} {m₂ = 16} (let l : c.args.t.0 ≤ 32 = omega (arith, c.requires.0, c.args.s.limits.m_most) in l) c.args.s.limits.k_most, c.requires.1, c.args.s.limits.k_most),
    ) in
    omega (arith, few)

pub overflow_mul-result-2 : goal.overflow_mul-result-2
overflow_mul-result-2 c =
    let few : (c.args.a.0 * (c.args.s.sizes.m + 1) + c.args.t.0 < 528) × (c.args.t.0 * c.args.s.sizes.k + c.args.a.0 < 528) = (
      runs_before c.args.s.sizes c.args.s.limits c.args.t.0 c.args.a.0 c.requires.0 c.requires.1,
      omega (arith, mul-le-mul {n₂ = 32} {m₂ = 16} (let l : c.args.t.0 ≤ 32 = omega (arith, c.requires.0, c.args.s.limits.m_most) in l) c.args.s.limits.k_most, c.requires.1, c.args.s.limits.k_most),
    ) in
    let fits : (x : ℕ) → x < 528 → x * c.args.s.sizes.n ≤ 33792 = λ x l. mul-le-mul {n₂ = 528} {m₂ = 64} (omega arith) c.args.s.limits.n_most in
    omega (arith, fits _ few.0, fits _ few.1)

pub returns : goal.returns
returns c =
    let e = index_is c.args.s.sizes c.args.t.0 c.args.a.0 0 in
    (omega (arith, e), omega (arith, e, run_fits c.args.s.sizes c.args.t.0 c.args.a.0 (omega (arith, c.requires.0)) c.requires.1))
