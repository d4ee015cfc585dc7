-- `added_satisfaction::counted_fault` meets its contract: the tree's clauses, then the limit. Assumes nothing.
use mathlib.Core.List.{◌++◌}
use native.Mathlib.Omega.{arith}
use borrow.Author.Rules.{rules}
use Rattle.formula.proofs.Limits.{agent_steps}
use Rattle.ceiling.specs.Ceiling.{counters, limit}
use Rattle.added_satisfaction.specs.Search.{Fails}
use Rattle.added_satisfaction.proofs.Added.{inputs_some, counters_fails, limit_fails, limit_passes, counted_most}
use Rattle.added_satisfaction.proofs.counted_fault.Goals as goal

pub returns-in_err-passed : goal.returns-in_err-passed
returns-in_err-passed c =
    let f : Fails c.args.of.entries.now (counters c.args.s.sizes c.args.ceiling.c ++ limit c.args.s.sizes c.args.ceiling.c) c.in_err-passed.field-0.0 = counters_fails c.args.s.sizes c.args.ceiling.c c.args.of.entries.now (rw c.variable_count.ensures.0 at c.in_err-passed.ensures) in
    search rules

pub returns-in-Ok : goal.returns-in-Ok
returns-in-Ok c =
    let v = c.variable_count.ensures.0 in
    let passed = rw v at c.in_ok-passed.ensures in
    limit_passes c.args.s.sizes c.args.ceiling.c c.args.of.entries.now passed.0 (inputs_some c.args.s.sizes c.args.s.limits c.requires.m_nonzero) _ passed.1 (rw v at c.in-Ok.ensures)

pub returns-in-Err : goal.returns-in-Err
returns-in-Err c =
    let v = c.variable_count.ensures.0 in
    let passed = rw v at c.in_ok-passed.ensures in
    limit_fails c.args.s.sizes c.args.ceiling.c c.args.of.entries.now passed.0 (inputs_some c.args.s.sizes c.args.s.limits c.requires.m_nonzero) _ passed.1 (rw v at c.in-Err.ensures)

pub overflow_add-result : goal.overflow_add-result
overflow_add-result c =
    let some = inputs_some c.args.s.sizes c.args.s.limits c.requires.m_nonzero in
    let v = c.variable_count.ensures.0 in
    let passed = rw v at c.in_ok-passed.ensures in
    let all = limit_passes c.args.s.sizes c.args.ceiling.c c.args.of.entries.now passed.0 some _ passed.1 (rw v at c.in-Ok.ensures) in
    omega (arith, all.count, counted_most c.args.s.sizes c.args.ceiling.c c.args.of.entries.now c.args.ceiling.c_most some (agent_steps c.args.s.sizes c.args.s.limits))
