-- `added_satisfaction::tree::Outputs::sum_reached` meets its contract: no output behind the two reached is true, and the node's are up to their sum. Assumes nothing.
use native.Mathlib.Omega.{arith}
use Rattle.added_satisfaction.proofs.Truth.{valuation}
use Rattle.added_satisfaction.proofs.Nodes.{all_cells}
use Rattle.added_satisfaction.proofs.tree.Outputs.sum_reached.Goals as goal

pub returns : goal.returns
returns c = λ e.
    all_cells c.args.self.of.entries.now (valuation c.args.self.of.entries.now c.args.self.of.right) c.args.self.d c.args.self.within c.reached-i.result c.reached-j.result c.reached-i.ensures.1 c.reached-j.ensures.1
    (λ z l. c.all_true.ensures e z (omega (arith, c.outputs.ensures)))
