-- `families::write_e` meets its contract: the agents at a vertex are a run. Assumes nothing.
use Prim.Native.Nat.{◌+◌, ◌≤◌}
use native.Mathlib.Nat.{mul-le-mul}
use native.Mathlib.Omega.{arith}
use Rattle.formula.proofs.Variables.{agents_fit}
use Rattle.families.proofs.Laws.{agents}
use Rattle.families.proofs.write_e.Goals as goal

pub overflow_add-run : goal.overflow_add-run
overflow_add-run c = omega (arith, c.args.s.limits.m_most)

pub overflow_mul-run : goal.overflow_mul-run
overflow_mul-run c = omega (arith, mul-le-mul {n₂ = 33} {m₂ = 64} (let o = c.args.s.limits.m_most in let l : c.args.s.sizes.m + 1 ≤ 33 = omega arith in l) c.args.s.limits.n_most)

pub write_no_two-requires : goal.write_no_two-requires
write_no_two-requires c =
    let s = c.args in
    let e = c.variable_of-first.ensures.0 in
    record { stride_bound = omega (arith, e, agents_fit s.s.sizes s.t.0 c.args.s.limits s.v.0 c.requires.t_le_m.0 c.requires.t_le_m.1); run_in_bounds = rw (agents s.s.sizes s.t.0 s.v.0 _ e) c.requires.v_in_bounds }

pub returns : goal.returns
returns c = rw (agents c.args.s.sizes c.args.t.0 c.args.v.0 _ c.variable_of-first.ensures.0) at c.write_no_two.ensures
