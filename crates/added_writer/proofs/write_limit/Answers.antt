-- `added_writer::write_limit` meets its contract: the root's output c + 1 is counted from the tree's last variable. Assumes nothing.
use mathlib.Core.Path.{refl, sym}
use Prim.Native.Nat.{◌*◌, ◌≤◌}
use native.Mathlib.Omega.{arith}
use mir.Facts.{to_z-of_z}
use borrow.Author.Rules.{sfits_of}
use Rattle.lists.proofs.Slices.{filled_nil}
use Rattle.formula.proofs.Limits.{agent_steps}
use Rattle.counting.proofs.Laws.{before_most, outputs_fit, tree_fits}
use Rattle.added_writer.proofs.Laws.{limit_none, limit_one}
use Rattle.added_writer.proofs.write_limit.Goals as goal

pub returns-then-l-c : goal.returns-then-l-c
returns-then-l-c c = rw (limit_none c.args.s.sizes c.args.ceiling.c c.if-l-c.true) (refl, sym (filled_nil _))

pub before_outputs-before-requires : goal.before_outputs-before-requires
before_outputs-before-requires c = rw c.requires.next_value (λ h. outputs_fit c.args.ceiling.c (c.args.s.sizes.m * c.args.s.sizes.k) _ h)

pub overflow_add-before : goal.overflow_add-before
overflow_add-before c =
    let few : c.before_outputs-before.result ≤ 40000 = let q = agent_steps c.args.s.sizes c.args.s.limits in
    rw c.before_outputs-before.ensures
    (before_most c.args.ceiling.c (c.args.s.sizes.m * c.args.s.sizes.k) c.variable_count.result c.args.next (omega (arith, c.variable_count.ensures.1)) (omega (arith, c.requires.next_value, c.variable_count.ensures, tree_fits c.args.ceiling.c (c.args.s.sizes.m * c.args.s.sizes.k) q))) in
    omega (arith, few, c.args.ceiling.c_most)

pub overflow_add-before-2 : goal.overflow_add-before-2
overflow_add-before-2 c =
    let few : c.before_outputs-before.result ≤ 40000 = let q = agent_steps c.args.s.sizes c.args.s.limits in
    rw c.before_outputs-before.ensures
    (before_most c.args.ceiling.c (c.args.s.sizes.m * c.args.s.sizes.k) c.variable_count.result c.args.next (omega (arith, c.variable_count.ensures.1)) (omega (arith, c.requires.next_value, c.variable_count.ensures, tree_fits c.args.ceiling.c (c.args.s.sizes.m * c.args.s.sizes.k) q))) in
    omega (arith, few, c.args.ceiling.c_most)

pub negation_of-requires : goal.negation_of-requires
negation_of-requires c =
    let few : c.before_outputs-before.result ≤ 40000 = let q = agent_steps c.args.s.sizes c.args.s.limits in
    rw c.before_outputs-before.ensures
    (before_most c.args.ceiling.c (c.args.s.sizes.m * c.args.s.sizes.k) c.variable_count.result c.args.next (omega (arith, c.variable_count.ensures.1)) (omega (arith, c.requires.next_value, c.variable_count.ensures, tree_fits c.args.ceiling.c (c.args.s.sizes.m * c.args.s.sizes.k) q))) in
    omega (arith, few, c.args.ceiling.c_most)

pub put_clause-requires : goal.put_clause-requires
put_clause-requires c = let room = rw (limit_one c.args.s.sizes c.args.ceiling.c c.if-l-c.false) at c.requires.c_in_bounds in (omega arith, room)

pub returns : goal.returns
returns c =
    rw (limit_one c.args.s.sizes c.args.ceiling.c c.if-l-c.false)
    (rw (to_z-of_z (sfits_of c.negation_of.type_inv), c.negation_of.ensures, c.before_outputs-before.ensures, c.variable_count.ensures.0, c.requires.next_value) at c.put_clause.ensures)
