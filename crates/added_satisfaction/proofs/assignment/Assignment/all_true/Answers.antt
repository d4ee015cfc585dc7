-- `added_satisfaction::assignment::Assignment::all_true` meets its contract: an entry is positive where its variable is true. Assumes nothing.
use native.Mathlib.Omega.{arith}
use Rattle.answers.proofs.Faults.{holds}
use Rattle.added_satisfaction.proofs.Truth.{valuation, part_true, part_size}
use Rattle.added_satisfaction.proofs.assignment.Assignment.all_true.Goals as goal

pub returns : goal.returns
returns c = λ t j l.
    let es = c.args.self.entries.now in
    let w = valuation es c.args.self.right in
    holds (part_true es w c.args.z c.args.n c.requires j l) (c.all_positive.ensures t j (omega (arith, part_size es w c.args.z c.args.n c.requires)))
