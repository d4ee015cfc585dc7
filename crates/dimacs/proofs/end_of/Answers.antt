-- `dimacs::end_of` meets its contract: any number but 0 is followed by a space. Assumes nothing.
use Rattle.dimacs.proofs.Laws.{end_space}
use Rattle.dimacs.proofs.end_of.Goals as goal

pub returns : goal.returns
returns c = end_space c.args.x c.if-x-eq0.false
