-- `families::write_exchanges` meets its contract: the agents below a, then those above it. Assumes nothing.
use mathlib.Core.Path.{◌≡◌, ◌∙◌, ap}
use Prim.Native.Nat.{◌+◌, ◌-◌, ◌≤◌}
use native.Mathlib.Omega.{arith}
use borrow.Author.Rules.{rules}
use lib.ListN.{length, length-take, length-drop, take, drop}
use Rattle.lists.specs.Loop.{each}
use Rattle.lists.specs.Slice.{Wrote}
use Rattle.lists.proofs.Slices.{filled_length}
use Rattle.formula.specs.Formula.{line}
use Rattle.clauses.proofs.Laws.{wrote_behind}
use Rattle.families.proofs.Laws.{below, beyond, exchanging_room, exchanging_wrote}
use Rattle.families.proofs.write_exchanges.Goals as goal

pub write_each-at-requires : goal.write_each-at-requires
write_each-at-requires c =
    let room : length (each line (below c.args.s.sizes c.args.t.0 c.args.u.0 c.args.v.0 c.args.a.0)) + length (each line (beyond c.args.s.sizes c.args.t.0 c.args.u.0 c.args.v.0 c.args.a.0)) ≤ length c.args.f.now = exchanging_room c.args.s.sizes c.args.t.0 c.args.u.0 c.args.v.0 c.args.a.0 c.requires.t_lt_m.3 c.requires.a_in_bounds in
    let fits : length (each line (below c.args.s.sizes c.args.t.0 c.args.u.0 c.args.v.0 c.args.a.0)) ≤ length c.args.f.now = omega (arith, room) in
    search rules

pub offset_bounds-f-at : goal.offset_bounds-f-at
offset_bounds-f-at c =
    let room : length (each line (below c.args.s.sizes c.args.t.0 c.args.u.0 c.args.v.0 c.args.a.0)) + length (each line (beyond c.args.s.sizes c.args.t.0 c.args.u.0 c.args.v.0 c.args.a.0)) ≤ length c.args.f.now = exchanging_room c.args.s.sizes c.args.t.0 c.args.u.0 c.args.v.0 c.args.a.0 c.requires.t_lt_m.3 c.requires.a_in_bounds in
    let fits : length (each line (below c.args.s.sizes c.args.t.0 c.args.u.0 c.args.v.0 c.args.a.0)) ≤ length c.args.f.now = omega (arith, room) in
    let w : Wrote (each line (below c.args.s.sizes c.args.t.0 c.args.u.0 c.args.v.0 c.args.a.0)) c.args.f.now c.write_each-at.new.f c.write_each-at.result = search rules in
    let long : length c.write_each-at.new.f ≡ length c.args.f.now = ap length w.1 ∙ filled_length (each line (below c.args.s.sizes c.args.t.0 c.args.u.0 c.args.v.0 c.args.a.0)) c.args.f.now fits in
    omega (arith, long, w.0, room)

pub slice_bounds-write_each-count : goal.slice_bounds-write_each-count
slice_bounds-write_each-count c =
    let room : length (each line (below c.args.s.sizes c.args.t.0 c.args.u.0 c.args.v.0 c.args.a.0)) + length (each line (beyond c.args.s.sizes c.args.t.0 c.args.u.0 c.args.v.0 c.args.a.0)) ≤ length c.args.f.now = exchanging_room c.args.s.sizes c.args.t.0 c.args.u.0 c.args.v.0 c.args.a.0 c.requires.t_lt_m.3 c.requires.a_in_bounds in
    let fits : length (each line (below c.args.s.sizes c.args.t.0 c.args.u.0 c.args.v.0 c.args.a.0)) ≤ length c.args.f.now = omega (arith, room) in
    let w : Wrote (each line (below c.args.s.sizes c.args.t.0 c.args.u.0 c.args.v.0 c.args.a.0)) c.args.f.now c.write_each-at.new.f c.write_each-at.result = search rules in
    let long : length c.write_each-at.new.f ≡ length c.args.f.now = ap length w.1 ∙ filled_length (each line (below c.args.s.sizes c.args.t.0 c.args.u.0 c.args.v.0 c.args.a.0)) c.args.f.now fits in
    omega (arith, long, w.0, room)

pub slice_bounds-write_each-start : goal.slice_bounds-write_each-start
slice_bounds-write_each-start c =
    let room : length (each line (below c.args.s.sizes c.args.t.0 c.args.u.0 c.args.v.0 c.args.a.0)) + length (each line (beyond c.args.s.sizes c.args.t.0 c.args.u.0 c.args.v.0 c.args.a.0)) ≤ length c.args.f.now = exchanging_room c.args.s.sizes c.args.t.0 c.args.u.0 c.args.v.0 c.args.a.0 c.requires.t_lt_m.3 c.requires.a_in_bounds in
    let fits : length (each line (below c.args.s.sizes c.args.t.0 c.args.u.0 c.args.v.0 c.args.a.0)) ≤ length c.args.f.now = omega (arith, room) in
    let w : Wrote (each line (below c.args.s.sizes c.args.t.0 c.args.u.0 c.args.v.0 c.args.a.0)) c.args.f.now c.write_each-at.new.f c.write_each-at.result = search rules in
    let long : length c.write_each-at.new.f ≡ length c.args.f.now = ap length w.1 ∙ filled_length (each line (below c.args.s.sizes c.args.t.0 c.args.u.0 c.args.v.0 c.args.a.0)) c.args.f.now fits in
    omega (arith, long, w.0, room)

pub write_each-requires : goal.write_each-requires
write_each-requires c =
    let room : length (each line (below c.args.s.sizes c.args.t.0 c.args.u.0 c.args.v.0 c.args.a.0)) + length (each line (beyond c.args.s.sizes c.args.t.0 c.args.u.0 c.args.v.0 c.args.a.0)) ≤ length c.args.f.now = exchanging_room c.args.s.sizes c.args.t.0 c.args.u.0 c.args.v.0 c.args.a.0 c.requires.t_lt_m.3 c.requires.a_in_bounds in
    let fits : length (each line (below c.args.s.sizes c.args.t.0 c.args.u.0 c.args.v.0 c.args.a.0)) ≤ length c.args.f.now = omega (arith, room) in
    let w : Wrote (each line (below c.args.s.sizes c.args.t.0 c.args.u.0 c.args.v.0 c.args.a.0)) c.args.f.now c.write_each-at.new.f c.write_each-at.result = search rules in
    let long : length c.write_each-at.new.f ≡ length c.args.f.now = ap length w.1 ∙ filled_length (each line (below c.args.s.sizes c.args.t.0 c.args.u.0 c.args.v.0 c.args.a.0)) c.args.f.now fits in
    let space : length (each line (beyond c.args.s.sizes c.args.t.0 c.args.u.0 c.args.v.0 c.args.a.0)) ≤ length (take (length c.write_each-at.new.f - c.write_each-at.result) (drop c.write_each-at.result c.write_each-at.new.f)) = simp (length-take, length-drop) (omega (arith, long, w.0, room)) in
    search rules

pub overflow_add-result : goal.overflow_add-result
overflow_add-result c =
    let room : length (each line (below c.args.s.sizes c.args.t.0 c.args.u.0 c.args.v.0 c.args.a.0)) + length (each line (beyond c.args.s.sizes c.args.t.0 c.args.u.0 c.args.v.0 c.args.a.0)) ≤ length c.args.f.now = exchanging_room c.args.s.sizes c.args.t.0 c.args.u.0 c.args.v.0 c.args.a.0 c.requires.t_lt_m.3 c.requires.a_in_bounds in
    let fits : length (each line (below c.args.s.sizes c.args.t.0 c.args.u.0 c.args.v.0 c.args.a.0)) ≤ length c.args.f.now = omega (arith, room) in
    let w : Wrote (each line (below c.args.s.sizes c.args.t.0 c.args.u.0 c.args.v.0 c.args.a.0)) c.args.f.now c.write_each-at.new.f c.write_each-at.result = search rules in
    let long : length c.write_each-at.new.f ≡ length c.args.f.now = ap length w.1 ∙ filled_length (each line (below c.args.s.sizes c.args.t.0 c.args.u.0 c.args.v.0 c.args.a.0)) c.args.f.now fits in
    let space : length (each line (beyond c.args.s.sizes c.args.t.0 c.args.u.0 c.args.v.0 c.args.a.0)) ≤ length (take (length c.write_each-at.new.f - c.write_each-at.result) (drop c.write_each-at.result c.write_each-at.new.f)) = simp (length-take, length-drop) (omega (arith, long, w.0, room)) in
    let v : Wrote (each line (beyond c.args.s.sizes c.args.t.0 c.args.u.0 c.args.v.0 c.args.a.0)) (take (length c.write_each-at.new.f - c.write_each-at.result) (drop c.write_each-at.result c.write_each-at.new.f)) c.write_each.new.f c.write_each.result = search rules in
    omega (arith, w.0, v.0, room)

pub returns : goal.returns
returns c =
    let room : length (each line (below c.args.s.sizes c.args.t.0 c.args.u.0 c.args.v.0 c.args.a.0)) + length (each line (beyond c.args.s.sizes c.args.t.0 c.args.u.0 c.args.v.0 c.args.a.0)) ≤ length c.args.f.now = exchanging_room c.args.s.sizes c.args.t.0 c.args.u.0 c.args.v.0 c.args.a.0 c.requires.t_lt_m.3 c.requires.a_in_bounds in
    let fits : length (each line (below c.args.s.sizes c.args.t.0 c.args.u.0 c.args.v.0 c.args.a.0)) ≤ length c.args.f.now = omega (arith, room) in
    let w : Wrote (each line (below c.args.s.sizes c.args.t.0 c.args.u.0 c.args.v.0 c.args.a.0)) c.args.f.now c.write_each-at.new.f c.write_each-at.result = search rules in
    let long : length c.write_each-at.new.f ≡ length c.args.f.now = ap length w.1 ∙ filled_length (each line (below c.args.s.sizes c.args.t.0 c.args.u.0 c.args.v.0 c.args.a.0)) c.args.f.now fits in
    let space : length (each line (beyond c.args.s.sizes c.args.t.0 c.args.u.0 c.args.v.0 c.args.a.0)) ≤ length (take (length c.write_each-at.new.f - c.write_each-at.result) (drop c.write_each-at.result c.write_each-at.new.f)) = simp (length-take, length-drop) (omega (arith, long, w.0, room)) in
    let v : Wrote (each line (beyond c.args.s.sizes c.args.t.0 c.args.u.0 c.args.v.0 c.args.a.0)) (take (length c.write_each-at.new.f - c.write_each-at.result) (drop c.write_each-at.result c.write_each-at.new.f)) c.write_each.new.f c.write_each.result = search rules in
    exchanging_wrote c.args.s.sizes c.args.t.0 c.args.u.0 c.args.v.0 c.args.a.0 c.requires.t_lt_m.3 _ _ (wrote_behind (each line (below c.args.s.sizes c.args.t.0 c.args.u.0 c.args.v.0 c.args.a.0)) (each line (beyond c.args.s.sizes c.args.t.0 c.args.u.0 c.args.v.0 c.args.a.0)) c.args.f.now c.write_each-at.new.f c.write_each.new.f w (omega (arith, w.0, room)) v)
