-- `satisfaction::lowest_shared` meets its contract: before turn a it is the lowest of the agents below a. Assumes nothing.
use mathlib.Core.Path.{◌≡◌}
use native.Mathlib.Omega.{arith}
use lib.ListN.{length}
use Rattle.satisfaction.proofs.Steps.{lowest_none}
use Rattle.satisfaction.proofs.lowest_shared.Goals as goal

pub loop-a-init : goal.loop-a-init
loop-a-init c = (omega arith, lowest_none _ _)

pub loop-a-preserved : goal.loop-a-preserved
loop-a-preserved c = (omega arith, c.lower-low.ensures)

pub returns : goal.returns
returns c = let e : c.loop-a.a ≡ length c.args.here.now = omega arith in rw e at c.loop-a.invariant.1
