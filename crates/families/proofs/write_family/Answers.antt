-- `families::write_family` meets its contract: a family is its blocks. Assumes nothing.
use borrow.Author.Rules.{rules}
use Rattle.instance.specs.Problem.{checked_of}
use Rattle.counts.specs.Families.{place_of}
use Rattle.formula.specs.Blocks.{held}
use Rattle.formula.proofs.Blocks.{family_blocks}
use Rattle.families.proofs.write_family.Goals as goal

pub write_each-requires : goal.write_each-requires
write_each-requires c =
    let room = rw (family_blocks (held (checked_of c.args.problem.now)) (place_of c.args.which)) at c.requires in
    search rules

pub returns : goal.returns
returns c =
    let room = rw (family_blocks (held (checked_of c.args.problem.now)) (place_of c.args.which)) at c.requires in
    rw (family_blocks (held (checked_of c.args.problem.now)) (place_of c.args.which)) (search rules)
