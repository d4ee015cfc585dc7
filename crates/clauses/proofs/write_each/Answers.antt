-- `clauses::write_each` meets its contract. The invariant: each turn has written its block behind those before it. Assumes nothing.
use native.Mathlib.Omega.{arith}
use lib.ListN.{length-take, length-drop}
use Rattle.lists.proofs.Slices.{each_filling, filling_room, filling_next, each_filled}
use Rattle.formula.specs.Formula.{line}
use Rattle.clauses.proofs.write_each.Goals as goal

pub loop-i-init : goal.loop-i-init
loop-i-init g c = λ blocks w room. each_filling line blocks room

pub offset_bounds-f-at : goal.offset_bounds-f-at
offset_bounds-f-at g c = let (blocks, room, takes, writes) = c.requires in let w = c.loop-i.invariant blocks writes room in omega (arith, w.fits, w.same)

pub slice_bounds-write-count : goal.slice_bounds-write-count
slice_bounds-write-count g c = let (blocks, room, takes, writes) = c.requires in let w = c.loop-i.invariant blocks writes room in omega (arith, w.fits, w.same)

pub slice_bounds-write-start : goal.slice_bounds-write-start
slice_bounds-write-start g c = let (blocks, room, takes, writes) = c.requires in let w = c.loop-i.invariant blocks writes room in omega (arith, w.fits, w.same)

pub write-at-requires : goal.write-at-requires
write-at-requires g c =
    let (blocks, room, takes, writes) = c.requires in
    let w = c.loop-i.invariant blocks writes room in
    takes c.loop-i.i _ c.loop-i-test.true (simp (length-take, length-drop) (let r = filling_room w c.loop-i-test.true in omega arith))

pub loop-i-preserved : goal.loop-i-preserved
loop-i-preserved g c = λ blocks writes room. filling_next (c.loop-i.invariant blocks writes room) c.loop-i-test.true (writes c.loop-i.i _ _ _ c.loop-i-test.true c.write-at.ensures)

pub overflow_add-at : goal.overflow_add-at
overflow_add-at g c = let (blocks, room, takes, writes) = c.requires in let q = (loop-i-preserved g c blocks writes room).fits in omega arith

pub returns : goal.returns
returns g c = λ blocks writes room. each_filled line blocks (c.loop-i.invariant blocks writes room) (omega arith)
