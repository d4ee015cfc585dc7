-- `pruned_writer::write_all` meets its contract: H is written to the part of the slice behind the seven families. Assumes nothing.
use mathlib.Core.Path.{◌≡◌, sym, ◌∙◌, ap}
use mathlib.Core.List.{List}
use Prim.Native.Nat.{◌+◌, ◌≤◌}
use native.Mathlib.Omega.{arith}
use lib.IntN.{ℤ}
use lib.ListN.{length, length-append, length-take, length-drop}
use Rattle.lists.specs.Loop.{for, each}
use Rattle.lists.specs.Slice.{filled}
use Rattle.lists.proofs.Loops.{each_append}
use Rattle.lists.proofs.Slices.{filled_part, filled_length}
use Rattle.instance.specs.Problem.{checked_of}
use Rattle.formula.specs.Formula.{Clause, line}
use Rattle.formula.specs.Blocks.{held, family}
use Rattle.pruned_writer.specs.ByTable.{by_table_h}
use Rattle.pruned_writer.proofs.write_all.Goals as goal

pub write_words-at-requires : goal.write_words-at-requires
write_words-at-requires c =
    let base : List Clause = for 7 (family (held (checked_of c.args.problem.now))) in
    let more : List Clause = by_table_h c.args.problem.now.shape.sizes c.args.table.now c.args.problem.now.starts c.args.problem.now.goals in
    let room : length (each line base) + length (each line more) ≤ length c.args.f.now = omega (arith, c.requires.table_in_bounds, ap length (each_append line base more), length-append (each line base) (each line more)) in
    omega (arith, room)

pub offset_bounds-f-at : goal.offset_bounds-f-at
offset_bounds-f-at c =
    let base : List Clause = for 7 (family (held (checked_of c.args.problem.now))) in
    let more : List Clause = by_table_h c.args.problem.now.shape.sizes c.args.table.now c.args.problem.now.starts c.args.problem.now.goals in
    let room : length (each line base) + length (each line more) ≤ length c.args.f.now = omega (arith, c.requires.table_in_bounds, ap length (each_append line base more), length-append (each line base) (each line more)) in
    let long : length c.write_words-at.new.f ≡ length c.args.f.now = ap length c.write_words-at.ensures.1 ∙ filled_length (each line base) c.args.f.now (omega (arith, room)) in
    omega (arith, long, c.write_words-at.ensures.0, room)

pub slice_bounds-write_h-count : goal.slice_bounds-write_h-count
slice_bounds-write_h-count c =
    let base : List Clause = for 7 (family (held (checked_of c.args.problem.now))) in
    let more : List Clause = by_table_h c.args.problem.now.shape.sizes c.args.table.now c.args.problem.now.starts c.args.problem.now.goals in
    let room : length (each line base) + length (each line more) ≤ length c.args.f.now = omega (arith, c.requires.table_in_bounds, ap length (each_append line base more), length-append (each line base) (each line more)) in
    let long : length c.write_words-at.new.f ≡ length c.args.f.now = ap length c.write_words-at.ensures.1 ∙ filled_length (each line base) c.args.f.now (omega (arith, room)) in
    omega (arith, long, c.write_words-at.ensures.0, room)

pub slice_bounds-write_h-start : goal.slice_bounds-write_h-start
slice_bounds-write_h-start c =
    let base : List Clause = for 7 (family (held (checked_of c.args.problem.now))) in
    let more : List Clause = by_table_h c.args.problem.now.shape.sizes c.args.table.now c.args.problem.now.starts c.args.problem.now.goals in
    let room : length (each line base) + length (each line more) ≤ length c.args.f.now = omega (arith, c.requires.table_in_bounds, ap length (each_append line base more), length-append (each line base) (each line more)) in
    let long : length c.write_words-at.new.f ≡ length c.args.f.now = ap length c.write_words-at.ensures.1 ∙ filled_length (each line base) c.args.f.now (omega (arith, room)) in
    omega (arith, long, c.write_words-at.ensures.0, room)

pub write_h-requires : goal.write_h-requires
write_h-requires c =
    let base : List Clause = for 7 (family (held (checked_of c.args.problem.now))) in
    let more : List Clause = by_table_h c.args.problem.now.shape.sizes c.args.table.now c.args.problem.now.starts c.args.problem.now.goals in
    let room : length (each line base) + length (each line more) ≤ length c.args.f.now = omega (arith, c.requires.table_in_bounds, ap length (each_append line base more), length-append (each line base) (each line more)) in
    let long : length c.write_words-at.new.f ≡ length c.args.f.now = ap length c.write_words-at.ensures.1 ∙ filled_length (each line base) c.args.f.now (omega (arith, room)) in
    simp (length-take, length-drop) record { table_len = c.requires.table_len; table_in_bounds = omega (arith, long, c.write_words-at.ensures.0, room) }

pub returns : goal.returns
returns c =
    let base : List Clause = for 7 (family (held (checked_of c.args.problem.now))) in
    let more : List Clause = by_table_h c.args.problem.now.shape.sizes c.args.table.now c.args.problem.now.starts c.args.problem.now.goals in
    let room : length (each line base) + length (each line more) ≤ length c.args.f.now = omega (arith, c.requires.table_in_bounds, ap length (each_append line base more), length-append (each line base) (each line more)) in
    filled_part c.write_words-at.new.f c.args.f.now (each line base) (each line more) c.write_h.new.f c.write_words-at.result c.write_words-at.ensures.1 (sym c.write_words-at.ensures.0) (omega (arith, c.write_words-at.ensures.0, room)) c.write_h.ensures.1
    ∙ ap (λ (l : List ℤ). filled l c.args.f.now) (sym (each_append line base more))

pub shape_of-f : goal.shape_of-f
shape_of-f c =
    ap length (returns c)
    ∙ filled_length _ c.args.f.now c.requires.table_in_bounds
