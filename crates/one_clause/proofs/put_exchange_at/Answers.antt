-- `one_clause::put_exchange_at` meets its contract. The place names the time, the edge and the two agents. Assumes nothing.
use native.Mathlib.Omega.{arith}
use Rattle.formula.specs.Blocks.{held, family}
use Rattle.instance.specs.Problem.{checked_of}
use Rattle.one_clause.proofs.Clauses.{room_put, wrote_put, exchange_at, exchange_clause}
use Rattle.one_clause.proofs.put_exchange_at.Goals as goal

pub put_exchange-requires : goal.put_exchange-requires
unfolding family
put_exchange-requires c =
    let q = exchange_at (held (checked_of c.args.problem.now)) c.args.place c.requires.place_bound.0 in
    let (l, h, up, at) = c.edge_at-edge.ensures in
    let r = c.args.problem.now.ready in (
      q.step,
      l,
      h,
      q.first,
      omega (arith, c.other-b.ensures.2, q.second),
      room_put (exchange_clause (held (checked_of c.args.problem.now)) c.args.place c.requires.rule_2 r.edged q _ _ _ l h up at c.other-b.ensures.0 c.other-b.ensures.1) c.requires.place_bound.1,
    )

pub returns : goal.returns
unfolding family
returns c =
    let q = exchange_at (held (checked_of c.args.problem.now)) c.args.place c.requires.place_bound.0 in
    let (l, h, up, at) = c.edge_at-edge.ensures in
    wrote_put
    (exchange_clause (held (checked_of c.args.problem.now)) c.args.place c.requires.rule_2 c.args.problem.now.ready.edged q _ _ _ l h up at c.other-b.ensures.0 c.other-b.ensures.1)
    _
    _
    c.put_exchange.ensures
