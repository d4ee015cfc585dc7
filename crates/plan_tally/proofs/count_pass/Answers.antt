-- `plan_tally::count_pass` meets its contract: the first plan sets least and greatest, a later one is compared with them. Assumes nothing.
use native.Mathlib.Omega.{arith}
use Rattle.plan_tally.proofs.Laws.{first_pass, later_pass}
use Rattle.plan_tally.proofs.count_pass.Goals as goal
use Rattle.plan_tally.proofs.count_pass.Goals.{then-t-eq0, else-t-eq0}

pub returns : goal.returns
returns c =
    let t = c.args.t.now in
    elim c.if-t-eq0.branch [
      | then-t-eq0 w ↦ rw w.t-is (first_pass t c.args.cost _ _ w.if-t-eq0.true (let least = rw w.t-is at c.min-t.ensures in omega arith) (let greatest = rw w.t-is at c.max-t.ensures in omega arith))
      | else-t-eq0 w ↦ rw w.t-is (later_pass t c.args.cost _ _ w.if-t-eq0.false (rw w.t-is at c.min-t.ensures) (rw w.t-is at c.max-t.ensures))
    ]
