-- `instance_check::neighbour_words` meets its contract. The invariant: the edges before j are marked. Assumes nothing.
use mathlib.Core.Path.{◌≡◌}
use native.Mathlib.Omega.{arith}
use Rattle.instance.specs.Instance.{edges}
use Rattle.instance_check.proofs.Words.{marked_none, marked_all}
use Rattle.instance_check.proofs.neighbour_words.Goals as goal

pub loop-j-init : goal.loop-j-init
loop-j-init c = (omega arith, marked_none c.args.edges.now.b.now)

pub slice_bounds-mark_edges-end : goal.slice_bounds-mark_edges-end
slice_bounds-mark_edges-end c = omega (arith, c.loop-j.invariant.1.long)

pub mark_edges-j-requires : goal.mark_edges-j-requires
mark_edges-j-requires c = record { from_lt_e = (c.loop-j-test.true, c.requires.n_value.0, c.requires.n_value.1); edges = (c.requires.edges, c.loop-j.invariant.1) }

pub loop-j-smaller : goal.loop-j-smaller
loop-j-smaller c = omega (arith, c.mark_edges-j.ensures.0, c.mark_edges-j.ensures.1)

pub loop-j-preserved : goal.loop-j-preserved
loop-j-preserved c = (c.mark_edges-j.ensures.1, c.mark_edges-j.ensures.2)

pub returns : goal.returns
returns c =
    let e : c.loop-j.j ≡ edges c.args.edges.now.b.now = omega (arith, c.args.edges.now.counted) in
    marked_all c.args.edges.now.b.now (omega arith) c.requires.edges c.loop-j.j e c.loop-j.near c.loop-j.invariant.1
