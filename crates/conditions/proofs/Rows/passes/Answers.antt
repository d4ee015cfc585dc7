-- `Rows::passes` meets its contract: by the condition. Assumes nothing.
use Rattle.conditions.proofs.Rows.passes.Goals as goal

pub returns-in-Crossing : goal.returns-in-Crossing
returns-in-Crossing c = rw c.in-Crossing.is c.crosses.ensures

pub returns-in-Entering : goal.returns-in-Entering
returns-in-Entering c = rw c.in-Entering.is c.enters.ensures

pub returns-in-Sharing : goal.returns-in-Sharing
returns-in-Sharing c = rw c.in-Sharing.is c.stands_alone.ensures
