-- `distance_table::spread` meets its contract. The invariant: for some `from`, the frontier's bits below it are done, and `rest` has those from it on. Assumes nothing.
use mathlib.Core.Path.{sym, ◌∙◌}
use Prim.Native.Nat.{◌+◌, ◌-◌, ◌<◌}
use native.Mathlib.Omega.{arith}
use lib.Bits.{and_le_r}
use lib.Count.{count_trailing_zeros}
use Rattle.distance_table.proofs.Laws.{spreading_none, spreading_below, spreading_next, spread_bytes, spread_bits}
use Rattle.distance_table.proofs.spread.Goals as goal

pub loop-rest-init : goal.loop-rest-init
loop-rest-init c = (0, spreading_none c.ranges.frontier.fits c.requires)

pub overflow_cast-w : goal.overflow_cast-w
overflow_cast-w c =
    let below : count_trailing_zeros 64 c.loop-rest.rest < 64 = spreading_below c.ranges.frontier.fits c.loop-rest.invariant.1 (omega arith) in
    omega (arith, below)

pub bounds-row-w : goal.bounds-row-w
bounds-row-w c =
    let below : count_trailing_zeros 64 c.loop-rest.rest < 64 = spreading_below c.ranges.frontier.fits c.loop-rest.invariant.1 (omega arith) in
    omega (arith, below, c.loop-rest.invariant.1.wide)

pub offset_bounds-near-w : goal.offset_bounds-near-w
offset_bounds-near-w c =
    let below : count_trailing_zeros 64 c.loop-rest.rest < 64 = spreading_below c.ranges.frontier.fits c.loop-rest.invariant.1 (omega arith) in
    omega (arith, below)

pub bounds-near-w : goal.bounds-near-w
bounds-near-w c =
    let below : count_trailing_zeros 64 c.loop-rest.rest < 64 = spreading_below c.ranges.frontier.fits c.loop-rest.invariant.1 (omega arith) in
    omega (arith, below)

pub overflow_sub-rest : goal.overflow_sub-rest
overflow_sub-rest c = omega arith

pub loop-rest-smaller : goal.loop-rest-smaller
loop-rest-smaller c = omega (arith, and_le_r c.loop-rest.rest (c.loop-rest.rest - 1), c.loop-rest-test.true)

pub loop-rest-preserved : goal.loop-rest-preserved
loop-rest-preserved c = (count_trailing_zeros 64 c.loop-rest.rest + 1, spreading_next c.ranges.frontier.fits c.loop-rest.invariant.1 (omega arith))

pub shape_of-row : goal.shape_of-row
shape_of-row c = c.loop-rest.invariant.1.wide ∙ sym c.requires

pub returns : goal.returns
returns c = record { row_len = (c.loop-rest.invariant.1.wide, spread_bytes c.ranges.frontier.fits c.loop-rest.invariant.1 c.loop-rest-test.false); by_index = spread_bits c.ranges.frontier.fits c.loop-rest.invariant.1 c.loop-rest-test.false }
