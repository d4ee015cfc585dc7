-- `formula_printer::Formula::print_block` meets its contract: a block has at most 6,048 words, each of at most 8 bytes. Assumes nothing.
use mathlib.Core.Path.{◌≡◌}
use mathlib.Core.Logic.{◌≢◌}
use mathlib.Core.List.{List}
use Prim.Native.Nat.{ℕ, ◌≤◌}
use lib.IntN.{ℤ}
use lib.ListN.{length, length-take, length-drop, take}
use native.Mathlib.Omega.{arith}
use Rattle.lists.specs.Loop.{each}
use Rattle.lists.proofs.Slices.{take_filled}
use Rattle.instance.specs.declared.Sizes.{Sizes}
use Rattle.instance.specs.Ready.{Ready}
use Rattle.formula.specs.Formula.{line}
use Rattle.formula.specs.Blocks.{held_in, block}
use Rattle.counts.specs.Families.{place_of}
use Rattle.families.proofs.Words.{block_within, pairs_whole, pairs_end}
use Rattle.families.proofs.Room.{block_most}
use Rattle.dimacs.specs.Table.{Within}
use Rattle.formula_printer.proofs.Formula.print_block.Goals as goal

-- rule 1 is not rule 2, which alone has longer blocks
first : (s : Sizes) → s.rule ≡ 1 → (which : ℕ) → which ≡ 6 → s.rule ≢ 2
first s h which _ = let f : s.rule ≢ 2 = omega arith in f

most : (s : Sizes) (starts goals near : List ℕ) → Ready s starts goals near → s.rule ≡ 1 → (which t x : ℕ)
    → length (each line (block (held_in s starts goals near) which t x)) ≤ 6048
most s starts goals near ready h which t x = block_most (held_in s starts goals near) ready.limits which t x (first s h which)

pub write_block-n-requires-clause-x_in_bounds : goal.write_block-n-requires-clause-x_in_bounds
write_block-n-requires-clause-x_in_bounds c =
    let f = c.args.self in
    let b = f.problem.now in
    omega (arith, most b.shape.sizes b.starts b.goals b.near b.ready f.rule (place_of c.args.family) c.args.t c.args.x, c.args.page.now.room.words_room)

pub slice_bounds-put_block-end-2 : goal.slice_bounds-put_block-end-2
slice_bounds-put_block-end-2 c =
    let f = c.args.self in
    let b = f.problem.now in
    omega (
      arith,
      most b.shape.sizes b.starts b.goals b.near b.ready f.rule (place_of c.args.family) c.args.t c.args.x,
      c.args.page.now.room.words_room,
      c.write_block-n.ensures.0,
      length-take c.write_block-n.result c.write_block-n.new.f,
    )

pub put_block-more-requires : goal.put_block-more-requires
unfolding Within
put_block-more-requires c =
    let f = c.args.self in
    let b = f.problem.now in
    let g = held_in b.shape.sizes b.starts b.goals b.near in
    let j = (place_of c.args.family) in
    let t = c.args.t in
    let x = c.args.x in
    let out : List ℤ = each line (block g j t x) in
    let e : take c.write_block-n.result c.write_block-n.new.f ≡ out =
    rw (c.write_block-n.ensures.1, c.write_block-n.ensures.0) (take_filled out c.args.page.now.words.now) in
    let m = most b.shape.sizes b.starts b.goals b.near b.ready f.rule j t x in
    rw (e, f.top) (
      block_within b.shape.sizes b.starts b.goals b.near b.ready j t x c.requires.0 c.requires.1,
      (λ p. record { whole = pairs_whole g j t x (first b.shape.sizes f.rule j) p; ends = pairs_end g j t x (first b.shape.sizes f.rule j) p }),
      simp (length-take, length-drop) (omega (arith, m, c.args.page.now.room.text_room, c.args.page.now.less)),
    )

pub gather-requires : goal.gather-requires
gather-requires c =
    let f = c.args.self in
    let b = f.problem.now in
    omega (
      arith,
      most b.shape.sizes b.starts b.goals b.near b.ready f.rule (place_of c.args.family) c.args.t c.args.x,
      c.put_block-more.ensures.1,
      c.write_block-n.ensures.0,
      length-take c.write_block-n.result c.write_block-n.new.f,
    )
