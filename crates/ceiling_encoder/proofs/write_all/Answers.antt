-- `ceiling_encoder::write_all` meets its contract: what is added is written to the part of the slice behind the base formula's entries. Assumes nothing.
use mathlib.Core.Path.{◌≡◌, sym, ◌∙◌, ap}
use mathlib.Core.List.{List, ◌++◌, append_assoc}
use Prim.Native.Nat.{◌+◌, ◌≤◌}
use native.Mathlib.Omega.{arith}
use lib.IntN.{ℤ}
use lib.ListN.{length, length-take, length-drop}
use Rattle.lists.specs.Slice.{filled}
use Rattle.lists.proofs.Slices.{filled_part, filled_length}
use Rattle.formula.specs.Variables.{variable_count}
use Rattle.valuation.specs.Valuation.{plan_valuation}
use Rattle.valuation.proofs.Entries.{written_size}
use Rattle.ceiling.specs.Ceiling.{added_variables, ceiling_variables}
use Rattle.ceiling.specs.Encoded.{busy_entries, counter_entries, ceiling_valuation}
use Rattle.ceiling.proofs.Ceiling.{ceiling_valuation_lem}
use Rattle.ceiling_encoder.proofs.write_all.Goals as goal

pub write_valuation-requires : goal.write_valuation-requires
unfolding ceiling_variables
write_valuation-requires c =
    let room : variable_count c.args.s.sizes + added_variables c.args.s.sizes c.args.ceiling.c ≤ length c.args.z.now = c.requires.1 in
    (c.requires.0, omega (arith, room))

pub slice_bounds-write_added-count : goal.slice_bounds-write_added-count
unfolding ceiling_variables
slice_bounds-write_added-count c =
    let room : variable_count c.args.s.sizes + added_variables c.args.s.sizes c.args.ceiling.c ≤ length c.args.z.now = c.requires.1 in
    let long : length c.write_valuation.new.z ≡ length c.args.z.now = ap length c.write_valuation.ensures ∙ filled_length (plan_valuation c.args.s.sizes c.args.p.now) c.args.z.now (omega (arith, written_size c.args.s.sizes c.args.p.now, room)) in
    omega (arith, long, c.variable_count-n.ensures.0, room)

pub slice_bounds-write_added-start : goal.slice_bounds-write_added-start
unfolding ceiling_variables
slice_bounds-write_added-start c =
    let room : variable_count c.args.s.sizes + added_variables c.args.s.sizes c.args.ceiling.c ≤ length c.args.z.now = c.requires.1 in
    let long : length c.write_valuation.new.z ≡ length c.args.z.now = ap length c.write_valuation.ensures ∙ filled_length (plan_valuation c.args.s.sizes c.args.p.now) c.args.z.now (omega (arith, written_size c.args.s.sizes c.args.p.now, room)) in
    omega (arith, long, c.variable_count-n.ensures.0, room)

pub write_added-requires : goal.write_added-requires
unfolding ceiling_variables
write_added-requires c =
    let room : variable_count c.args.s.sizes + added_variables c.args.s.sizes c.args.ceiling.c ≤ length c.args.z.now = c.requires.1 in
    let long : length c.write_valuation.new.z ≡ length c.args.z.now = ap length c.write_valuation.ensures ∙ filled_length (plan_valuation c.args.s.sizes c.args.p.now) c.args.z.now (omega (arith, written_size c.args.s.sizes c.args.p.now, room)) in
    simp (length-take, length-drop) (c.requires.0, omega (arith, long, c.variable_count-n.ensures.0, room))

pub returns : goal.returns
unfolding ceiling_valuation ceiling_variables
returns c =
    let room : variable_count c.args.s.sizes + added_variables c.args.s.sizes c.args.ceiling.c ≤ length c.args.z.now = c.requires.1 in
    let p = c.args.p.now in
    let s = c.args.s.sizes in
    filled_part c.write_valuation.new.z c.args.z.now (plan_valuation s p) (busy_entries s p ++ counter_entries s p c.args.ceiling.c) c.write_added.new.z c.variable_count-n.result c.write_valuation.ensures (written_size s p ∙ sym c.variable_count-n.ensures.0) (omega (arith, c.variable_count-n.ensures.0, room)) c.write_added.ensures
    ∙ ap (λ (l : List ℤ). filled l c.args.z.now) (sym (append_assoc (plan_valuation s p) (busy_entries s p) (counter_entries s p c.args.ceiling.c)))

pub shape_of-z : goal.shape_of-z
unfolding ceiling_variables
shape_of-z c =
    let room : variable_count c.args.s.sizes + added_variables c.args.s.sizes c.args.ceiling.c ≤ length c.args.z.now = c.requires.1 in
    ap length (returns c) ∙ filled_length _ c.args.z.now (omega (arith, (ceiling_valuation_lem c.args.s.sizes c.args.p.now c.args.ceiling.c).size, room))
