-- `conditions::occupied` meets its contract. The loop keeps the word of the agents passed. Assumes nothing.
use Rattle.plan.specs.Plan.{row}
use Rattle.conditions.specs.Inside.{Standing}
use Rattle.conditions.proofs.occupied.Given as goal

abbrev pub invariant-loop-v : goal.invariant-loop-v
invariant-loop-v l = Standing (row l.here) l.v-index l.word
