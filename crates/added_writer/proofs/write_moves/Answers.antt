-- `added_writer::write_moves` meets its contract. Assumes nothing.
use borrow.Author.Rules.{rules}
use Rattle.ceiling.specs.Ceiling.{moves}
use Rattle.added_writer.proofs.write_moves.Goals as goal

pub write_each-requires : goal.write_each-requires
unfolding moves
write_each-requires c = search rules

pub returns : goal.returns
unfolding moves
returns c = search rules
