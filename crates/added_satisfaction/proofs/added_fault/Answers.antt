-- `added_satisfaction::added_fault` meets its contract: the parts before have a true literal in every clause. Assumes nothing.
use native.Mathlib.Omega.{arith}
use borrow.Author.Rules.{rules}
use Rattle.formula.proofs.Limits.{agent_steps}
use Rattle.ceiling.specs.Ceiling.{added_clauses}
use Rattle.added_satisfaction.specs.Search.{Fails}
use Rattle.added_satisfaction.proofs.Truth.{right_entries}
use Rattle.added_satisfaction.proofs.Added.{inputs_some, moves_size, moves_most, chain_size, chain_most, counted_most, room, few, added_none, moves_left, chain_left, counted_fails, counted_passes}
use Rattle.added_satisfaction.proofs.added_fault.Goals as goal

pub returns-then-s-eq0 : goal.returns-then-s-eq0
returns-then-s-eq0 c = added_none c.args.s.sizes c.args.ceiling.c c.args.entries.now c.if-s-eq0.true

pub invariant_of-of : goal.invariant_of-of
invariant_of-of c = record { right = right_entries c.args.entries.now c.requires.valuation; few = few c.args.s.sizes c.args.ceiling.c c.args.entries.now c.args.s.limits c.requires.valuation }

-- each added variable has an entry
pub moves_fault-requires-clause-entries_len : goal.moves_fault-requires-clause-entries_len
moves_fault-requires-clause-entries_len c = omega (arith, room c.args.s.sizes c.args.ceiling.c c.args.entries.now c.requires.valuation)

pub chain_fault-requires-clause-entries_len : goal.chain_fault-requires-clause-entries_len
chain_fault-requires-clause-entries_len c = omega (arith, room c.args.s.sizes c.args.ceiling.c c.args.entries.now c.requires.valuation)

pub counted_fault-requires-clause-entries_len : goal.counted_fault-requires-clause-entries_len
counted_fault-requires-clause-entries_len c = omega (arith, room c.args.s.sizes c.args.ceiling.c c.args.entries.now c.requires.valuation)

pub returns-in_err-moves : goal.returns-in_err-moves
returns-in_err-moves c =
    let f : Fails c.args.entries.now (added_clauses c.args.s.sizes c.args.ceiling.c) c.in_err-moves.field-0.0 = moves_left c.args.s.sizes c.args.ceiling.c c.args.entries.now c.in_err-moves.ensures in
    search rules

pub overflow_add-before : goal.overflow_add-before
overflow_add-before c =
    omega (arith, c.in_ok-moves.ensures.count, c.in-Ok.ensures.count, moves_size c.args.s.sizes, moves_most c.args.s.sizes c.args.s.limits, chain_size c.args.s.sizes, chain_most c.args.s.sizes c.args.s.limits)

pub overflow_add-result : goal.overflow_add-result
overflow_add-result c =
    omega (arith, c.in_ok-moves.ensures.count, c.in-Err.ensures.within, moves_size c.args.s.sizes, moves_most c.args.s.sizes c.args.s.limits, chain_size c.args.s.sizes, chain_most c.args.s.sizes c.args.s.limits)

pub returns-in-Err : goal.returns-in-Err
returns-in-Err c = chain_left c.args.s.sizes c.args.ceiling.c c.args.entries.now c.in_ok-moves.ensures c.in-Err.ensures

pub overflow_add-result-in-Ok-counted_fault : goal.overflow_add-result-in-Ok-counted_fault
overflow_add-result-in-Ok-counted_fault c =
    let some = inputs_some c.args.s.sizes c.args.s.limits (omega (arith, c.if-s-eq0.false)) in
    omega (arith, c.in_ok-moves.ensures.count, c.in-Ok.ensures.count, c.in-Ok-counted_fault.ensures.count, moves_size c.args.s.sizes, moves_most c.args.s.sizes c.args.s.limits, chain_size c.args.s.sizes, chain_most c.args.s.sizes c.args.s.limits, counted_most c.args.s.sizes c.args.ceiling.c c.args.entries.now c.args.ceiling.c_most some (agent_steps c.args.s.sizes c.args.s.limits))

pub overflow_add-result-in-Err-counted_fault : goal.overflow_add-result-in-Err-counted_fault
overflow_add-result-in-Err-counted_fault c =
    let some = inputs_some c.args.s.sizes c.args.s.limits (omega (arith, c.if-s-eq0.false)) in
    omega (arith, c.in_ok-moves.ensures.count, c.in-Ok.ensures.count, c.in-Err-counted_fault.ensures.within, moves_size c.args.s.sizes, moves_most c.args.s.sizes c.args.s.limits, chain_size c.args.s.sizes, chain_most c.args.s.sizes c.args.s.limits, counted_most c.args.s.sizes c.args.ceiling.c c.args.entries.now c.args.ceiling.c_most some (agent_steps c.args.s.sizes c.args.s.limits))

pub returns-in-Ok-counted_fault : goal.returns-in-Ok-counted_fault
returns-in-Ok-counted_fault c = counted_passes c.args.s.sizes c.args.ceiling.c c.args.entries.now c.in_ok-moves.ensures c.in-Ok.ensures c.in-Ok-counted_fault.ensures

pub returns-in-Err-counted_fault : goal.returns-in-Err-counted_fault
returns-in-Err-counted_fault c = counted_fails c.args.s.sizes c.args.ceiling.c c.args.entries.now c.in_ok-moves.ensures c.in-Ok.ensures c.in-Err-counted_fault.ensures
