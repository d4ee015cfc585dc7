-- `added_writer::busy` meets its contract: few B come before. Assumes nothing.
use Prim.Native.Nat.{◌+◌, ◌*◌, ◌<◌}
use native.Mathlib.Omega.{arith}
use Rattle.lists.proofs.Blocks.{place_lt}
use Rattle.formula.proofs.Limits.{agent_steps}
use Rattle.added_writer.proofs.busy.Goals as goal

pub overflow_add-result-3 : goal.overflow_add-result-3
overflow_add-result-3 c =
    let few : c.args.t.0 * c.args.s.sizes.k + c.args.a.0 < 512 = omega (arith, place_lt c.args.s.sizes.m c.args.s.sizes.k c.args.t.0 c.args.a.0 c.requires.0 c.requires.1, agent_steps c.args.s.sizes c.args.s.limits) in
    omega (arith, few, c.variable_count.ensures.1)

pub returns : goal.returns
returns c =
    let few : c.args.t.0 * c.args.s.sizes.k + c.args.a.0 < 512 = omega (arith, place_lt c.args.s.sizes.m c.args.s.sizes.k c.args.t.0 c.args.a.0 c.requires.0 c.requires.1, agent_steps c.args.s.sizes c.args.s.limits) in
    (omega (arith, c.variable_count.ensures.0), omega (arith, few, c.variable_count.ensures.1))
