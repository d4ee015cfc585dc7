-- `added_satisfaction::tree::Outputs::row_fault` meets its contract: by the outputs for i, then by the rest of the row. Assumes nothing.
use Prim.Native.Nat.{◌<◌}
use native.Mathlib.Omega.{arith}
use Rattle.answers.proofs.Faults.{holds, fails}
use Rattle.added_satisfaction.proofs.Truth.{valuation}
use Rattle.added_satisfaction.proofs.Nodes.{row_skipped, row_first, row_found}
use Rattle.added_satisfaction.proofs.tree.Outputs.row_fault.Goals as goal

pub returns-then-i-eq0 : goal.returns-then-i-eq0
returns-then-i-eq0 c =
    let none : 0 < c.args.i → ⊥ = λ h. omega arith in
    row_found c.args.self.of.entries.now (valuation c.args.self.of.entries.now c.args.self.of.right) c.args.self.d c.args.self.within c.args.i c.requires (λ h. absurd (none h)) (λ h. absurd (none h)) c.rest_of_row.result c.rest_of_row.ensures

pub returns-then-not-is_true : goal.returns-then-not-is_true
returns-then-not-is_true c =
    row_skipped c.args.self.of.entries.now (valuation c.args.self.of.entries.now c.args.self.of.right) c.args.self.d c.args.self.within c.args.i c.requires (omega arith) (fails c.is_true.ensures c.if-not-is_true.true)

pub returns-then-not-is_true-2 : goal.returns-then-not-is_true-2
returns-then-not-is_true-2 c = (
  row_first c.args.self.of.entries.now (valuation c.args.self.of.entries.now c.args.self.of.right) c.args.self.d c.args.self.within c.args.i c.requires (omega arith)
      (holds c.is_true.ensures c.if-not-is_true.false)
      (fails c.is_true-2.ensures c.if-not-is_true-2.true),
  omega arith,
)

pub returns : goal.returns
returns c =
    row_found c.args.self.of.entries.now (valuation c.args.self.of.entries.now c.args.self.of.right) c.args.self.d c.args.self.within c.args.i c.requires
    (λ h. holds c.is_true.ensures c.if-not-is_true.false)
    (λ h. holds c.is_true-2.ensures c.if-not-is_true-2.false)
    c.rest_of_row-2.result c.rest_of_row-2.ensures
