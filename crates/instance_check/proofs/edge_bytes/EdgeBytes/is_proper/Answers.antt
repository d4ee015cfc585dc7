-- `EdgeBytes::is_proper` meets its contract: its comparisons are those of the definition. Assumes nothing.
use Rattle.instance_check.proofs.edge_bytes.EdgeBytes.is_proper.Goals as goal

pub returns : goal.returns
returns c = rw (← c.args.self.now.counted)
