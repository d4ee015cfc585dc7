-- `families::write_d` meets its contract: the vertices of an agent are a run. Assumes nothing.
use native.Mathlib.Omega.{arith}
use Rattle.formula.proofs.Variables.{vertices_fit}
use Rattle.families.proofs.Laws.{vertices}
use Rattle.families.proofs.write_d.Goals as goal

pub write_no_two-requires : goal.write_no_two-requires
write_no_two-requires c =
    let s = c.args in
    let e = c.variable_of-first.ensures.0 in
    record { stride_bound = omega (arith, e, vertices_fit s.s.sizes s.t.0 c.args.s.limits s.a.0 c.requires.t_le_m.0 c.requires.t_le_m.1); run_in_bounds = rw (vertices s.s.sizes s.t.0 s.a.0 _ e) c.requires.a_in_bounds }

pub returns : goal.returns
returns c = rw (vertices c.args.s.sizes c.args.t.0 c.args.a.0 _ c.variable_of-first.ensures.0) at c.write_no_two.ensures
