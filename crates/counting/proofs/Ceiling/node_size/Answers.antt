-- `counting::Ceiling::node_size` meets its contract: the law of a node's counts. Assumes nothing.
use mathlib.Core.Path.{refl}
use Rattle.counting.proofs.Laws.{node_adds}
use Rattle.counting.proofs.Ceiling.node_size.Goals as goal

pub returns : goal.returns
returns c = node_adds _ _ _ _ _ c.args.self.c_most c.requires.0 c.requires.1 c.outputs-a.ensures c.outputs-b.ensures c.outputs.ensures refl refl
