-- `dimacs::put_ended` meets its contract: the byte is stored behind the digits. Assumes nothing.
use Rattle.dimacs.proofs.Laws.{put_after}
use Rattle.dimacs.proofs.put_ended.Goals as goal

pub returns : goal.returns
returns c =
    put_after c.args.x c.args.byte c.put_digits-n.result c.put_digits-n.new.out c.args.out.now c.put_digits-n.ensures.0 c.requires c.put_digits-n.ensures.1 c.ranges.x.fits
