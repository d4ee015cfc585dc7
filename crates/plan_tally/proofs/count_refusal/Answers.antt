-- `plan_tally::count_refusal` meets its contract: one counter is raised. Assumes nothing.
use Rattle.tally.specs.Tally.{with_refusal}
use Rattle.plan_tally.proofs.count_refusal.Goals as goal

pub returns : goal.returns
unfolding with_refusal
returns c = rw c.number.ensures
