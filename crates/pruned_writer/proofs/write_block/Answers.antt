-- `pruned_writer::write_block` meets its contract. Assumes nothing.
use mathlib.Core.Path.{◌≡◌, ap₂}
use mathlib.Core.List.{List}
use Prim.Native.Nat.{ℕ}
use native.Mathlib.Omega.{arith}
use borrow.Author.Rules.{rules}
use lib.ListN.{get_or}
use Rattle.formula.specs.Pruned.{block_h}
use Rattle.pruned_writer.specs.ByTable.{block_by_table}
use Rattle.pruned_writer.proofs.write_block.Goals as goal

pub row_for-from-requires : goal.row_for-from-requires
row_for-from-requires c =
    let p = c.args.problem.now in
    (omega (arith, p.shape.limits.k_most, c.requires.t_le_m.1), omega (arith, p.ready.starts_below c.args.a.0 c.requires.t_le_m.1, p.shape.limits.n_most, c.requires.t_le_m.2))

pub goal_row-to-requires : goal.goal_row-to-requires
goal_row-to-requires c =
    let p = c.args.problem.now in
    (omega (arith, p.shape.limits.k_most, c.requires.t_le_m.1), λ g. omega (arith, p.ready.goals_below c.args.a.0 c.requires.t_le_m.1 g, p.shape.limits.n_most, c.requires.t_le_m.2))

pub write_each-requires : goal.write_each-requires
write_each-requires c =
    let s = c.args.problem.now.shape.sizes in
    let same : block_h s (λ v. get_or c.row_for-from.result v 0) (λ v. get_or c.goal_row-to.result v 0) c.args.t.0 c.args.a.0 ≡ block_by_table s c.args.table.now c.args.problem.now.starts c.args.problem.now.goals c.args.t.0 c.args.a.0 = ap₂ (λ (from to : List ℕ). block_h s (λ v. get_or from v 0) (λ v. get_or to v 0) c.args.t.0 c.args.a.0) c.row_for-from.ensures c.goal_row-to.ensures in
    let room = rw (← same) at c.requires.a_in_bounds in
    search rules

pub returns : goal.returns
returns c =
    let s = c.args.problem.now.shape.sizes in
    let same : block_h s (λ v. get_or c.row_for-from.result v 0) (λ v. get_or c.goal_row-to.result v 0) c.args.t.0 c.args.a.0 ≡ block_by_table s c.args.table.now c.args.problem.now.starts c.args.problem.now.goals c.args.t.0 c.args.a.0 = ap₂ (λ (from to : List ℕ). block_h s (λ v. get_or from v 0) (λ v. get_or to v 0) c.args.t.0 c.args.a.0) c.row_for-from.ensures c.goal_row-to.ensures in
    let room = rw (← same) at c.requires.a_in_bounds in
    rw (← same) (search rules)
