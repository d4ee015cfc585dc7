-- `conditions::occupied` meets its contract. The loop keeps the word of the agents passed. Assumes nothing.
use Rattle.plan.specs.Plan.{row}
use Rattle.conditions.proofs.Laws.{standing_none, standing_next}
use Rattle.conditions.proofs.occupied.Goals as goal

pub loop-v-init : goal.loop-v-init
loop-v-init c = standing_none (row c.args.here.now)

pub loop-v-preserved : goal.loop-v-preserved
loop-v-preserved c = standing_next (row c.args.here.now) c.loop-v.v-index _ _ _ c.loop-v.invariant c.from.ensures c.with_bit-word.ensures
