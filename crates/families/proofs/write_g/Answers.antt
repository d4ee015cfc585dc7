-- `families::write_g` meets its contract: the rule says which blocks G has. Assumes nothing.
use mathlib.Core.Path.{refl}
use Prim.Native.Nat.{◌<◌}
use native.Mathlib.Omega.{arith}
use borrow.Author.Tests.{eq-eqb, ne_eqb}
use Rattle.formula.proofs.Blocks.{blocks_agents, blocks_ends}
use Rattle.families.proofs.write_g.Goals as goal

pub offset_bounds-problem-x : goal.offset_bounds-problem-x
offset_bounds-problem-x c =
    let vertex : c.args.x < c.args.problem.now.shape.sizes.n = omega (arith, blocks_ends c.args.problem.now.shape.sizes 6 refl c.if-s-eq2.true, c.requires.t_lt_m.1) in
    let inside : c.args.x < 64 = omega (arith, vertex, c.args.problem.now.shape.limits.n_most) in
    omega (arith, inside)

pub bounds-problem-x : goal.bounds-problem-x
bounds-problem-x c =
    let vertex : c.args.x < c.args.problem.now.shape.sizes.n = omega (arith, blocks_ends c.args.problem.now.shape.sizes 6 refl c.if-s-eq2.true, c.requires.t_lt_m.1) in
    let inside : c.args.x < 64 = omega (arith, vertex, c.args.problem.now.shape.limits.n_most) in
    inside

pub write_from-requires : goal.write_from-requires
write_from-requires c =
    let vertex : c.args.x < c.args.problem.now.shape.sizes.n = omega (arith, blocks_ends c.args.problem.now.shape.sizes 6 refl c.if-s-eq2.true, c.requires.t_lt_m.1) in
    let inside : c.args.x < 64 = omega (arith, vertex, c.args.problem.now.shape.limits.n_most) in
    record { t_lt_m = (c.requires.t_lt_m.0, vertex, c.args.problem.now.ready.words_below c.args.x inside); u_in_bounds = rw (eq-eqb c.args.problem.now.shape.sizes.rule 2 c.if-s-eq2.true) at c.requires.x_in_bounds }

pub returns-then-s-eq2 : goal.returns-then-s-eq2
returns-then-s-eq2 c = rw (eq-eqb c.args.problem.now.shape.sizes.rule 2 c.if-s-eq2.true) c.write_from.ensures

pub write_following-requires : goal.write_following-requires
write_following-requires c =
    let e = blocks_agents c.args.problem.now.shape.sizes 6 (omega arith) (omega arith) (λ _. c.if-s-eq2.false) in
    record { t_lt_m = (c.requires.t_lt_m.0, omega (arith, e, c.requires.t_lt_m.1)); a_in_bounds = rw (ne_eqb c.args.problem.now.shape.sizes.rule 2 c.if-s-eq2.false) at c.requires.x_in_bounds }

pub returns : goal.returns
returns c = rw (ne_eqb c.args.problem.now.shape.sizes.rule 2 c.if-s-eq2.false) c.write_following.ensures
