-- `dimacs::put_refusal` meets its contract: the label, the number and the place are a line. Assumes nothing.
use Rattle.dimacs.specs.Text.{refusal_text}
use Rattle.dimacs.proofs.put_refusal.Goals as goal

pub returns : goal.returns
unfolding refusal_text
returns c = (c.put_line.ensures.0, c.put_line.ensures.1)
