-- `dimacs::put_header` meets its contract: the label and the counts are a line. Assumes nothing.
use Rattle.dimacs.specs.Text.{header_text}
use Rattle.dimacs.proofs.put_header.Goals as goal

pub returns : goal.returns
unfolding header_text
returns c = (c.put_line.ensures.0, c.put_line.ensures.1)
