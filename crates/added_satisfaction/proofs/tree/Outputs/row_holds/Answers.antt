-- `added_satisfaction::tree::Outputs::row_holds` meets its contract: up to the cap output by output, beyond it by one. Assumes nothing.
use Rattle.answers.proofs.Faults.{holds}
use Rattle.added_satisfaction.proofs.Truth.{valuation}
use Rattle.added_satisfaction.proofs.Rows.{far_none_left, far_true, far_false}
use Rattle.added_satisfaction.proofs.tree.Outputs.row_holds.Goals as goal

pub returns-then-near-self : goal.returns-then-near-self
returns-then-near-self c = λ e.
    far_none_left c.args.self.of.entries.now (valuation c.args.self.of.entries.now c.args.self.of.right) c.args.self.d c.args.self.within c.args.i c.min-near.result c.requires c.min-near.ensures
    (holds c.all_imply.ensures c.if-not-all_imply.false) c.if-near-self.true

pub returns-then-is_true : goal.returns-then-is_true
returns-then-is_true c = λ e.
    far_true c.args.self.of.entries.now (valuation c.args.self.of.entries.now c.args.self.of.right) c.args.self.d c.args.self.within c.args.i c.min-near.result c.requires c.min-near.ensures
    (holds c.all_imply.ensures c.if-not-all_imply.false) (holds c.is_true.ensures c.if-is_true.true)

pub returns-else-is_true : goal.returns-else-is_true
returns-else-is_true c = λ e.
    far_false c.args.self.of.entries.now (valuation c.args.self.of.entries.now c.args.self.of.right) c.args.self.d c.args.self.within c.args.i c.min-near.result c.requires c.min-near.ensures
    (holds c.all_imply.ensures c.if-not-all_imply.false) (holds c.none_true.ensures e)
