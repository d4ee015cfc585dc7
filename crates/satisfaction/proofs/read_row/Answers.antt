-- `satisfaction::read_row` meets its contract: its four ends, one law each. Assumes nothing.
use Rattle.answers.proofs.Faults.{holds, fails}
use Rattle.satisfaction.proofs.Entries as laws
use Rattle.satisfaction.proofs.read_row.Goals as goal

pub returns-then-t-eq0 : goal.returns-then-t-eq0
returns-then-t-eq0 c = laws.came_none c.args.entries.now c.args.base c.args.n c.tally_row-t.result.count c.tally_row-t.result.sum c.tally_row-t.ensures c.if-t-eq0.true

pub returns-then-is_right : goal.returns-then-is_right
returns-then-is_right c = laws.came_one c.args.entries.now c.args.base c.args.n c.tally_row-t.result.count c.tally_row-t.result.sum c.tally_row-t.ensures c.if-t-eq1.true (holds c.is_right.ensures c.if-is_right.true)

pub returns-then-t-eq1 : goal.returns-then-t-eq1
returns-then-t-eq1 c = laws.came_wrong c.args.entries.now c.args.base c.args.n c.tally_row-t.result.count c.tally_row-t.result.sum c.tally_row-t.ensures c.if-t-eq1.true (fails c.is_right.ensures c.if-is_right.false)

pub returns-in-None : goal.returns-in-None
returns-in-None c = laws.came_several c.args.entries.now c.args.base c.args.n c.tally_row-t.result.count c.tally_row-t.result.sum c.tally_row-t.ensures c.if-t-eq0.false c.if-t-eq1.false c.in-None.ensures
