-- `one_clause::put_number` meets its contract. The number is a place of a family, and that, but in G under rule 2, a place of a block.
-- Assumes nothing.
use mathlib.Core.Path.{refl}
use borrow.Author.Rules.{rules}
use Rattle.formula.specs.Blocks.{family}
use Rattle.formula.specs.Counts.{clause_count}
use Rattle.one_clause.proofs.Clauses.{room_put, wrote_put}
use Rattle.one_clause.proofs.Stands.{by_exchange, by_slot}
use Rattle.one_clause.proofs.put_number.Goals as goal

pub spot_of-family-requires : goal.spot_of-family-requires
unfolding clause_count
spot_of-family-requires c = c.requires.0

pub put_exchange_at-requires-clause-rule_2 : goal.put_exchange_at-requires-clause-rule_2
put_exchange_at-requires-clause-rule_2 c = (by_exchange c.args.problem.now _ c.spot_of-family.ensures c.eq.ensures c.if-eq-s.true).0

pub put_exchange_at-requires-clause-place_bound : goal.put_exchange_at-requires-clause-place_bound
unfolding family
put_exchange_at-requires-clause-place_bound c =
    let x = by_exchange c.args.problem.now _ c.spot_of-family.ensures c.eq.ensures c.if-eq-s.true in (x.1, room_put x.2 c.requires.1)

pub returns-then-eq-s : goal.returns-then-eq-s
unfolding family
returns-then-eq-s c = wrote_put (by_exchange c.args.problem.now _ c.spot_of-family.ensures c.eq.ensures c.if-eq-s.true).2 _ _ c.put_exchange_at.ensures

pub nonzero_div-block : goal.nonzero_div-block
nonzero_div-block c =
    (by_slot c.args.problem.now _ c.spot_of-family.ensures c.eq.ensures c.if-eq-s.false _ refl c.slot_of-slot.ensures).1.some

pub nonzero_div-block-2 : goal.nonzero_div-block-2
nonzero_div-block-2 c =
    (by_slot c.args.problem.now _ c.spot_of-family.ensures c.eq.ensures c.if-eq-s.false _ c.blocks_at-width.ensures.0 c.slot_of-slot.ensures).1.wide

pub nonzero_rem-block : goal.nonzero_rem-block
nonzero_rem-block c =
    (by_slot c.args.problem.now _ c.spot_of-family.ensures c.eq.ensures c.if-eq-s.false _ c.blocks_at-width.ensures.0 c.slot_of-slot.ensures).1.wide

pub nonzero_rem-slot : goal.nonzero_rem-slot
nonzero_rem-slot c =
    let block = (by_slot c.args.problem.now _ c.spot_of-family.ensures c.eq.ensures c.if-eq-s.false _ c.blocks_at-width.ensures.0 c.slot_of-slot.ensures).1 in search rules

pub put_clause-requires-clause-x_bound : goal.put_clause-requires-clause-x_bound
put_clause-requires-clause-x_bound c =
    let (apart, x) = by_slot c.args.problem.now _ c.spot_of-family.ensures c.eq.ensures c.if-eq-s.false _ c.blocks_at-width.ensures.0 c.slot_of-slot.ensures in
    (x.step, x.cell, x.inside, x.has, apart)

pub put_clause-requires-clause-place_in_bounds : goal.put_clause-requires-clause-place_in_bounds
put_clause-requires-clause-place_in_bounds c =
    room_put (by_slot c.args.problem.now _ c.spot_of-family.ensures c.eq.ensures c.if-eq-s.false _ c.blocks_at-width.ensures.0 c.slot_of-slot.ensures).1.same c.requires.1

pub returns : goal.returns
returns c =
    wrote_put (by_slot c.args.problem.now _ c.spot_of-family.ensures c.eq.ensures c.if-eq-s.false _ c.blocks_at-width.ensures.0 c.slot_of-slot.ensures).1.same _ _ c.put_clause.ensures
