-- `plan_tally::takes_more` meets its contract: the total first, then the sum, which is then compared with a small number. Assumes nothing.
use native.Mathlib.Omega.{arith}
use Rattle.tally.proofs.Laws.{passed_most}
use Rattle.plan_tally.proofs.Laws.{within, room, full}
use Rattle.plan_tally.proofs.takes_more.Goals as goal

pub overflow_mul-result : goal.overflow_mul-result
overflow_mul-result c =
    let t = c.args.t.now in
    record { fits = omega (arith, passed_most t, within t _ c.total_of.ensures c.if-total_of-lt65535.true) }

pub returns-then-total_of-lt65535 : goal.returns-then-total_of-lt65535
returns-then-total_of-lt65535 c = room _ _ c.total_of.ensures c.if-total_of-lt65535.true

pub returns : goal.returns
returns c = full _ _ c.total_of.ensures c.if-total_of-lt65535.false
