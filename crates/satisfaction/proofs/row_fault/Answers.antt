-- `satisfaction::row_fault` meets its contract: family by family; what E, F and G need comes from the families before. Assumes nothing.
use Prim.Native.Nat.{suc, ◌<◌}
use native.Mathlib.Omega.{arith}
use Rattle.instance.specs.Problem.{checked_of}
use Rattle.formula.specs.Blocks.{times, blocks_at, block, held}
use Rattle.satisfaction.specs.Rows.{row}
use Rattle.satisfaction.proofs.Families.{places, inside, sound}
use Rattle.satisfaction.proofs.row_fault.Goals as goal

pub fault_c-requires : goal.fault_c-requires
unfolding times
fault_c-requires c = (c.requires.read.size, (let h : c.args.t < suc c.args.problem.now.shape.sizes.m = rw c.in-C.is at c.requires.before.0 in omega arith))

pub fault_e-requires : goal.fault_e-requires
unfolding times
fault_e-requires c = (c.requires.read.size, (let h : c.args.t < suc c.args.problem.now.shape.sizes.m = rw c.in-E.is at c.requires.before.0 in omega arith))

pub fault_d-requires : goal.fault_d-requires
unfolding times
fault_d-requires c =
    record { read = c.requires.read; t_le_m = (let h : c.args.t < suc c.args.problem.now.shape.sizes.m = rw c.in-D.is at c.requires.before.0 in omega arith) }

pub fault_f-requires : goal.fault_f-requires
unfolding times
fault_f-requires c =
    let g = held (checked_of c.args.problem.now) in
    let before = rw c.in-F.is at c.requires.before in
    (c.requires.read.size, before.0, inside g c.args.entries.now c.args.p.now c.requires.read c.args.problem.now.shape.limits.n_most 5 (omega arith) before.1)

pub fault_g-requires : goal.fault_g-requires
unfolding times
fault_g-requires c =
    let g = held (checked_of c.args.problem.now) in
    let before = rw c.in-G.is at c.requires.before in
    sound g c.args.entries.now c.args.p.now c.requires.read c.args.problem.now.shape.limits.n_most 6 (omega arith) before.1 c.args.t before.0

pub returns-in-A : goal.returns-in-A
unfolding row block blocks_at
returns-in-A c = rw c.in-A.is (c.fault_a.ensures c.args.t)

pub returns-in-B : goal.returns-in-B
unfolding row block blocks_at
returns-in-B c = rw c.in-B.is (c.fault_b.ensures c.args.t)

pub returns-in-C : goal.returns-in-C
unfolding row block blocks_at
returns-in-C c = rw c.in-C.is (c.fault_c.ensures c.args.entries.now c.requires.read)

pub returns-in-D : goal.returns-in-D
unfolding row block blocks_at
returns-in-D c = rw c.in-D.is (c.fault_d.ensures)

pub returns-in-E : goal.returns-in-E
unfolding row block blocks_at
returns-in-E c = rw c.in-E.is (c.fault_e.ensures c.args.entries.now c.requires.read.valid (places (held (checked_of c.args.problem.now)) c.args.entries.now c.args.p.now c.requires.read 4 (omega arith) (rw c.in-E.is at c.requires.before.1)))

pub returns-in-F : goal.returns-in-F
unfolding row block blocks_at
returns-in-F c = rw c.in-F.is (c.fault_f.ensures c.args.entries.now c.requires.read.valid (places (held (checked_of c.args.problem.now)) c.args.entries.now c.args.p.now c.requires.read 5 (omega arith) (rw c.in-F.is at c.requires.before.1)))

pub returns-in-G : goal.returns-in-G
unfolding row block blocks_at
returns-in-G c = rw c.in-G.is (c.fault_g.ensures c.args.entries.now c.requires.read.valid (places (held (checked_of c.args.problem.now)) c.args.entries.now c.args.p.now c.requires.read 6 (omega arith) (rw c.in-G.is at c.requires.before.1)))
