-- `distance_table::fill_row` meets its contract. The invariant: `Round`. Assumes nothing.
use native.Mathlib.Omega.{arith}
use Rattle.distance_table.proofs.Laws.{round_none, round_stop, round_all, round_next}
use Rattle.distance_table.proofs.fill_row.Goals as goal

pub loop-d-init : goal.loop-d-init
loop-d-init c = round_none c.args.near.now c.args.n c.args.v c.requires.n_bound.0 c.requires.n_bound.1 c.requires.n_bound.2 c.args.row.now c.requires.row_value c.with_bit-frontier.result c.with_bit-frontier.ensures

pub returns-then-frontier-eq0 : goal.returns-then-frontier-eq0
returns-then-frontier-eq0 c = (c.loop-d.invariant.wide, round_stop c.args.near.now c.args.n c.args.v c.requires.n_bound.0 c.requires.n_bound.1 c.requires.n_bound.2 c.loop-d.d c.loop-d.frontier c.loop-d.seen c.loop-d.row c.loop-d.invariant c.if-frontier-eq0.true)

pub spread-reached-requires : goal.spread-reached-requires
spread-reached-requires c = c.loop-d.invariant.wide

pub loop-d-preserved : goal.loop-d-preserved
loop-d-preserved c = round_next c.args.near.now c.args.n c.args.v c.requires.n_bound.0 c.requires.n_bound.1 c.requires.n_bound.2 c.loop-d.d c.loop-d.frontier c.loop-d.seen c.loop-d.row c.loop-d.invariant c.loop-d-test.true c.spread-reached.new.row c.spread-reached.result c.without-frontier.result c.spread-reached.ensures.row_len.0 c.spread-reached.ensures.row_len.1 c.spread-reached.ensures.by_index c.without-frontier.ensures

pub returns : goal.returns
returns c = (c.loop-d.invariant.wide, round_all c.args.near.now c.args.n c.args.v c.requires.n_bound.0 c.requires.n_bound.1 c.requires.n_bound.2 c.loop-d.d c.loop-d.frontier c.loop-d.seen c.loop-d.row c.loop-d.invariant (omega arith))
