-- `satisfaction::lower` meets its contract: agent a's vertex is no lower, or shared, or not shared. Assumes nothing.
use native.Mathlib.Omega.{arith}
use lib.ListN.{get_or}
use Rattle.satisfaction.proofs.Steps.{lowest_keep, earlier_alone, earlier_shares}
use Rattle.satisfaction.proofs.lower.Goals as goal

pub returns-then-unwrap_or-v : goal.returns-then-unwrap_or-v
returns-then-unwrap_or-v c =
    lowest_keep c.args.a (λ i. get_or c.args.here.now i 0) c.args.n c.args.low c.requires.1 (λ i l e. omega (arith, c.from-v.ensures, c.unwrap_or.ensures, c.if-unwrap_or-v.true))

pub returns-then-is_some : goal.returns-then-is_some
returns-then-is_some c =
    earlier_shares c.args.here.now c.args.a c.args.n c.requires.0 c.args.low c.requires.1 c.first_on.result c.first_on.ensures c.if-is_some.ensures c.from-v.result c.from-v.ensures
    (omega (arith, c.unwrap_or.ensures, c.if-unwrap_or-v.false))

pub returns : goal.returns
returns c = earlier_alone c.args.here.now c.args.a c.args.n c.requires.0 c.args.low c.requires.1 c.first_on.result c.first_on.ensures c.if-is_some.ensures
