-- `formula_writer::write_words` meets its contract: each call writes its family behind those before it. Assumes nothing.
use mathlib.Core.List.{List}
use Prim.Native.Nat.{◌≤◌}
use native.Mathlib.Omega.{arith}
use lib.IntN.{ℤ}
use lib.ListN.{length}
use Rattle.lists.specs.Loop.{for, each}
use Rattle.lists.proofs.Slices.{Filling, each_filling, filling_space, filling_on, each_filled}
use Rattle.instance.specs.Problem.{checked_of}
use Rattle.formula.specs.Formula.{line}
use Rattle.formula.specs.Blocks.{Given, held, family}
use Rattle.formula_writer.proofs.write_words.Goals as goal

-- before the first call nothing is written
start : (g : Given) (s : List ℤ) → length (each line (for 7 (family g))) ≤ length s → Filling (λ j. each line (family g j)) 7 s 0 0 s
start g s room = each_filling line (family g) room

pub write_next-a-requires : goal.write_next-a-requires
write_next-a-requires c =
    let before0 = start (held (checked_of c.args.problem.now)) c.args.f.now c.requires in
    filling_space before0 (omega arith)

pub write_next-b-requires : goal.write_next-b-requires
write_next-b-requires c =
    let before0 = start (held (checked_of c.args.problem.now)) c.args.f.now c.requires in
    let before1 = filling_on before0 (omega arith) c.write_next-a.ensures in
    filling_space before1 (omega arith)

pub write_next-c-requires : goal.write_next-c-requires
write_next-c-requires c =
    let before0 = start (held (checked_of c.args.problem.now)) c.args.f.now c.requires in
    let before1 = filling_on before0 (omega arith) c.write_next-a.ensures in
    let before2 = filling_on before1 (omega arith) c.write_next-b.ensures in
    filling_space before2 (omega arith)

pub write_next-d-requires : goal.write_next-d-requires
write_next-d-requires c =
    let before0 = start (held (checked_of c.args.problem.now)) c.args.f.now c.requires in
    let before1 = filling_on before0 (omega arith) c.write_next-a.ensures in
    let before2 = filling_on before1 (omega arith) c.write_next-b.ensures in
    let before3 = filling_on before2 (omega arith) c.write_next-c.ensures in
    filling_space before3 (omega arith)

pub write_next-e-requires : goal.write_next-e-requires
write_next-e-requires c =
    let before0 = start (held (checked_of c.args.problem.now)) c.args.f.now c.requires in
    let before1 = filling_on before0 (omega arith) c.write_next-a.ensures in
    let before2 = filling_on before1 (omega arith) c.write_next-b.ensures in
    let before3 = filling_on before2 (omega arith) c.write_next-c.ensures in
    let before4 = filling_on before3 (omega arith) c.write_next-d.ensures in
    filling_space before4 (omega arith)

pub write_next-g-requires : goal.write_next-g-requires
write_next-g-requires c =
    let before0 = start (held (checked_of c.args.problem.now)) c.args.f.now c.requires in
    let before1 = filling_on before0 (omega arith) c.write_next-a.ensures in
    let before2 = filling_on before1 (omega arith) c.write_next-b.ensures in
    let before3 = filling_on before2 (omega arith) c.write_next-c.ensures in
    let before4 = filling_on before3 (omega arith) c.write_next-d.ensures in
    let before5 = filling_on before4 (omega arith) c.write_next-e.ensures in
    filling_space before5 (omega arith)

pub write_next-requires : goal.write_next-requires
write_next-requires c =
    let before0 = start (held (checked_of c.args.problem.now)) c.args.f.now c.requires in
    let before1 = filling_on before0 (omega arith) c.write_next-a.ensures in
    let before2 = filling_on before1 (omega arith) c.write_next-b.ensures in
    let before3 = filling_on before2 (omega arith) c.write_next-c.ensures in
    let before4 = filling_on before3 (omega arith) c.write_next-d.ensures in
    let before5 = filling_on before4 (omega arith) c.write_next-e.ensures in
    let before6 = filling_on before5 (omega arith) c.write_next-g.ensures in
    filling_space before6 (omega arith)

pub shape_of-f : goal.shape_of-f
shape_of-f c =
    let before0 = start (held (checked_of c.args.problem.now)) c.args.f.now c.requires in
    let before1 = filling_on before0 (omega arith) c.write_next-a.ensures in
    let before2 = filling_on before1 (omega arith) c.write_next-b.ensures in
    let before3 = filling_on before2 (omega arith) c.write_next-c.ensures in
    let before4 = filling_on before3 (omega arith) c.write_next-d.ensures in
    let before5 = filling_on before4 (omega arith) c.write_next-e.ensures in
    let before6 = filling_on before5 (omega arith) c.write_next-g.ensures in
    let before7 = filling_on before6 (omega arith) c.write_next.ensures in
    before7.same

pub returns : goal.returns
returns c =
    let before0 = start (held (checked_of c.args.problem.now)) c.args.f.now c.requires in
    let before1 = filling_on before0 (omega arith) c.write_next-a.ensures in
    let before2 = filling_on before1 (omega arith) c.write_next-b.ensures in
    let before3 = filling_on before2 (omega arith) c.write_next-c.ensures in
    let before4 = filling_on before3 (omega arith) c.write_next-d.ensures in
    let before5 = filling_on before4 (omega arith) c.write_next-e.ensures in
    let before6 = filling_on before5 (omega arith) c.write_next-g.ensures in
    let before7 = filling_on before6 (omega arith) c.write_next.ensures in
    each_filled line (family (held (checked_of c.args.problem.now))) before7 (omega arith)
