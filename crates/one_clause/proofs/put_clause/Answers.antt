-- `one_clause::put_clause` meets its contract. By the family. Assumes nothing.
use mathlib.Core.Path.{◌≡◌, refl, ap}
use mathlib.Core.List.{List, []}
use native.Mathlib.Omega.{arith}
use borrow.Author.Rules.{rules}
use borrow.Author.Tests.{ne_eqb}
use lib.ListN.{get_or}
use Rattle.instance.specs.Instance.{joined}
use Rattle.formula.specs.Blocks.{times, blocks_at, block}
use Rattle.formula.specs.Variables.{¬X}
use Rattle.formula.specs.Formula.{Clause}
use Rattle.formula.proofs.Places.{goal_block_lem}
use Rattle.one_clause.proofs.Clauses.{room_put, wrote_put, onward_clause}
use Rattle.one_clause.proofs.put_clause.Goals as goal

pub put_end_of-requires : goal.put_end_of-requires
unfolding times blocks_at block
put_end_of-requires c =
    let q = rw c.in-A.is at c.requires.x_bound in
    let z : c.args.place ≡ 0 = omega arith in
    (omega arith, q.1, c.args.problem.now.ready.starts_below c.args.x q.1, rw (c.in-A.is, z) at c.requires.place_in_bounds)

pub put_end_of-requires-in-B : goal.put_end_of-requires-in-B
unfolding times blocks_at block
put_end_of-requires-in-B c =
    let q = rw c.in-B.is at c.requires.x_bound in
    let z : c.args.place ≡ 0 = omega arith in
    (omega arith, q.1, c.args.problem.now.ready.goals_below c.args.x q.1 (q.3 refl), room_put (ap (λ (c : List Clause). get_or c 0 []) (goal_block_lem c.args.problem.now.shape.sizes (λ a. get_or c.args.problem.now.goals a 0) c.args.x (q.3 refl))) (rw (c.in-B.is, z) at c.requires.place_in_bounds))

pub put_somewhere-requires-clause-t_le_m : goal.put_somewhere-requires-clause-t_le_m
unfolding times blocks_at block
put_somewhere-requires-clause-t_le_m c = let q = rw c.in-C.is at c.requires.x_bound in (omega (arith, q.0), q.1)

pub put_somewhere-requires-clause-a_in_bounds : goal.put_somewhere-requires-clause-a_in_bounds
unfolding times blocks_at block
put_somewhere-requires-clause-a_in_bounds c =
    let q = rw c.in-C.is at c.requires.x_bound in
    let z : c.args.place ≡ 0 = omega arith in
    rw (c.in-C.is, z) at c.requires.place_in_bounds

pub put_two-requires-clause-p_bound : goal.put_two-requires-clause-p_bound
unfolding times blocks_at block
put_two-requires-clause-p_bound c = let q = rw c.in-D.is at c.requires.x_bound in (omega (arith, c.args.problem.now.ready.limits.n_most), q.2)

pub put_two-requires-clause-room : goal.put_two-requires-clause-room
unfolding block
put_two-requires-clause-room c = ((λ v. ¬X c.args.problem.now.shape.sizes c.args.t c.args.x v), rw c.in-D.is at c.requires.place_in_bounds)

pub put_two-requires-clause-callable : goal.put_two-requires-clause-callable
unfolding times blocks_at block
put_two-requires-clause-callable c = let q = rw c.in-D.is at c.requires.x_bound in let t = q.0 in let x = q.1 in search rules

pub returns-in-D : goal.returns-in-D
unfolding block
returns-in-D c = rw c.in-D.is (c.put_two.ensures (λ v. ¬X c.args.problem.now.shape.sizes c.args.t c.args.x v) (λ v r l e. search rules))

pub put_two-requires-in-E-clause-p_bound : goal.put_two-requires-in-E-clause-p_bound
unfolding times blocks_at block
put_two-requires-in-E-clause-p_bound c = let q = rw c.in-E.is at c.requires.x_bound in (omega (arith, c.args.problem.now.ready.limits.k_most), q.2)

pub put_two-requires-in-E-clause-room : goal.put_two-requires-in-E-clause-room
unfolding block
put_two-requires-in-E-clause-room c = ((λ a. ¬X c.args.problem.now.shape.sizes c.args.t a c.args.x), rw c.in-E.is at c.requires.place_in_bounds)

pub put_two-requires-in-E-clause-callable : goal.put_two-requires-in-E-clause-callable
unfolding times blocks_at block
put_two-requires-in-E-clause-callable c = let q = rw c.in-E.is at c.requires.x_bound in let t = q.0 in let x = q.1 in search rules

pub returns-in-E : goal.returns-in-E
unfolding block
returns-in-E c = rw c.in-E.is (c.put_two-in-E.ensures (λ a. ¬X c.args.problem.now.shape.sizes c.args.t a c.args.x) (λ v r l e. search rules))

pub put_onward-requires-clause-t_lt_m : goal.put_onward-requires-clause-t_lt_m
unfolding times blocks_at block
put_onward-requires-clause-t_lt_m c =
    let q = rw c.in-F.is at c.requires.x_bound in
    (q.0, q.1, q.2, c.args.problem.now.ready.words_below c.args.place (omega (arith, q.2, c.args.problem.now.ready.limits.n_most)))

pub put_onward-requires-clause-v_in_bounds : goal.put_onward-requires-clause-v_in_bounds
unfolding times blocks_at block
put_onward-requires-clause-v_in_bounds c =
    let q = rw c.in-F.is at c.requires.x_bound in
    let r = room_put (onward_clause c.args.problem.now.shape.sizes c.args.t c.args.x (joined c.args.problem.now.near) c.args.place q.2) (rw c.in-F.is at c.requires.place_in_bounds) in search rules

pub put_following-requires-clause-t_lt_m : goal.put_following-requires-clause-t_lt_m
unfolding times blocks_at block
put_following-requires-clause-t_lt_m c =
    let q = rw c.in-G.is at c.requires.x_bound in
    (q.0, rw (ne_eqb c.args.problem.now.shape.sizes.rule 2 (q.4 refl)) at q.1, q.2)

pub put_following-requires-clause-p_in_bounds : goal.put_following-requires-clause-p_in_bounds
unfolding times blocks_at block
put_following-requires-clause-p_in_bounds c =
    let q = rw c.in-G.is at c.requires.x_bound in
    rw (c.in-G.is, ne_eqb c.args.problem.now.shape.sizes.rule 2 (q.4 refl)) at c.requires.place_in_bounds

pub returns-in-A : goal.returns-in-A
unfolding block
returns-in-A c =
    let z : c.args.place ≡ 0 = let q = rw c.in-A.is at c.requires.x_bound in omega arith in
    rw (c.in-A.is, z) c.put_end_of.ensures

pub returns-in-B : goal.returns-in-B
unfolding block
returns-in-B c =
    let q = rw c.in-B.is at c.requires.x_bound in
    let z : c.args.place ≡ 0 = omega arith in
    rw (c.in-B.is, z) (wrote_put (ap (λ (c : List Clause). get_or c 0 []) (goal_block_lem c.args.problem.now.shape.sizes (λ a. get_or c.args.problem.now.goals a 0) c.args.x (q.3 refl))) c.args.f.now _ c.put_end_of-in-B.ensures)

pub returns-in-C : goal.returns-in-C
unfolding block
returns-in-C c =
    let z : c.args.place ≡ 0 = let q = rw c.in-C.is at c.requires.x_bound in omega arith in
    rw (c.in-C.is, z) c.put_somewhere.ensures

pub returns-in-F : goal.returns-in-F
unfolding block
returns-in-F c =
    let q = rw c.in-F.is at c.requires.x_bound in
    rw c.in-F.is (wrote_put (onward_clause c.args.problem.now.shape.sizes c.args.t c.args.x (joined c.args.problem.now.near) c.args.place q.2) _ _ c.put_onward.ensures)

pub returns-in-G : goal.returns-in-G
unfolding block
returns-in-G c =
    let q = rw c.in-G.is at c.requires.x_bound in
    rw (c.in-G.is, ne_eqb c.args.problem.now.shape.sizes.rule 2 (q.4 refl)) c.put_following.ensures
