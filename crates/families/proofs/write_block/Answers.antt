-- `families::write_block` meets its contract: each arm by the contract of the function that it calls. Assumes nothing.
use mathlib.Core.Path.{◌≡◌}
use Prim.Native.Nat.{ℕ, ◌≤◌, ◌<◌}
use native.Mathlib.Omega.{arith}
use borrow.Author.Rules.{rules}
use lib.ListN.{length}
use Rattle.lists.specs.Loop.{each}
use Rattle.instance.specs.declared.Sizes.{Sizes}
use Rattle.instance.specs.Problem.{checked_of}
use Rattle.counts.specs.declared.Family.{Family}
use Rattle.counts.specs.Families.{place_of}
use Rattle.formula.specs.Formula.{line, somewhere}
use Rattle.formula.specs.Blocks.{Given, times, blocks_at, held, block}
use Rattle.families.proofs.Laws.{one, one_room}
use Rattle.families.proofs.write_block.Goals as goal

-- what is required, of the family of an arm
arm : (s : Sizes) (g : Given) (t x : ℕ) {which j : Family} {n : ℕ} → which ≡ j → (t < times s (place_of which)) × (x < blocks_at s (place_of which))
    → length (each line (block g (place_of which) t x)) ≤ n → (t < times s (place_of j)) × (x < blocks_at s (place_of j)) × (length (each line (block g (place_of j) t x)) ≤ n)
arm s g t x e a b = let q = rw e at a in (q.0, q.1, rw e at b)

pub write_unit-requires : goal.write_unit-requires
unfolding times blocks_at block
write_unit-requires c =
    let q = arm c.args.problem.now.shape.sizes (held (checked_of c.args.problem.now)) c.args.t c.args.x c.in-A.is c.requires.t_lt_times c.requires.x_in_bounds in
    (omega arith, q.1, c.args.problem.now.ready.starts_below c.args.x q.1, q.2)

pub write_goal-requires : goal.write_goal-requires
unfolding times blocks_at block
write_goal-requires c =
    let q = arm c.args.problem.now.shape.sizes (held (checked_of c.args.problem.now)) c.args.t c.args.x c.in-B.is c.requires.t_lt_times c.requires.x_in_bounds in
    record { a_lt_k = (q.1, c.args.problem.now.ready.goals_below c.args.x q.1); a_in_bounds = q.2 }

pub put_somewhere-requires : goal.put_somewhere-requires
unfolding times blocks_at block
put_somewhere-requires c =
    let q = arm c.args.problem.now.shape.sizes (held (checked_of c.args.problem.now)) c.args.t c.args.x c.in-C.is c.requires.t_lt_times c.requires.x_in_bounds in
    let r = one_room (somewhere c.args.problem.now.shape.sizes c.args.t c.args.x) q.2 in search rules

pub write_d-requires : goal.write_d-requires
unfolding times blocks_at block
write_d-requires c =
    let q = arm c.args.problem.now.shape.sizes (held (checked_of c.args.problem.now)) c.args.t c.args.x c.in-D.is c.requires.t_lt_times c.requires.x_in_bounds in
    search rules

pub write_e-requires : goal.write_e-requires
unfolding times blocks_at block
write_e-requires c =
    let q = arm c.args.problem.now.shape.sizes (held (checked_of c.args.problem.now)) c.args.t c.args.x c.in-E.is c.requires.t_lt_times c.requires.x_in_bounds in
    search rules

pub write_f-requires : goal.write_f-requires
unfolding times blocks_at block
write_f-requires c =
    let q = arm c.args.problem.now.shape.sizes (held (checked_of c.args.problem.now)) c.args.t c.args.x c.in-F.is c.requires.t_lt_times c.requires.x_in_bounds in
    search rules

pub write_g-requires : goal.write_g-requires
unfolding times blocks_at block
write_g-requires c =
    let q = arm c.args.problem.now.shape.sizes (held (checked_of c.args.problem.now)) c.args.t c.args.x c.in-G.is c.requires.t_lt_times c.requires.x_in_bounds in
    search rules

pub returns-in-A : goal.returns-in-A
unfolding block
returns-in-A c = rw c.in-A.is c.write_unit.ensures

pub returns-in-B : goal.returns-in-B
unfolding block
returns-in-B c = rw c.in-B.is c.write_goal.ensures

pub returns-in-C : goal.returns-in-C
unfolding block
returns-in-C c = rw c.in-C.is (one (somewhere c.args.problem.now.shape.sizes c.args.t c.args.x) c.args.f.now _ c.put_somewhere.ensures)

pub returns-in-D : goal.returns-in-D
unfolding block
returns-in-D c = rw c.in-D.is c.write_d.ensures

pub returns-in-E : goal.returns-in-E
unfolding block
returns-in-E c = rw c.in-E.is c.write_e.ensures

pub returns-in-F : goal.returns-in-F
unfolding block
returns-in-F c = rw c.in-F.is c.write_f.ensures

pub returns-in-G : goal.returns-in-G
unfolding block
returns-in-G c = rw c.in-G.is c.write_g.ensures
