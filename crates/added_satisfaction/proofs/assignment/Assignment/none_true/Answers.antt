-- `added_satisfaction::assignment::Assignment::none_true` meets its contract: an entry is positive where its variable is true. Assumes nothing.
use mathlib.Core.Path.{◌∙◌, ap}
use mathlib.Core.Bool.{not}
use Prim.Native.Nat.{◌+◌}
use lib.IntN.{pos}
use lib.Signed.{lt_z}
use Rattle.valuation.specs.Valuation.{true?}
use Rattle.ceiling.specs.Tree.{on}
use Rattle.added_satisfaction.proofs.Truth.{valuation, part_true, part_size, fold_every}
use Rattle.added_satisfaction.proofs.assignment.Assignment.none_true.Goals as goal

pub returns : goal.returns
returns c =
    let es = c.args.self.entries.now in
    let v = valuation es c.args.self.right in
    let z = c.args.z in
    let n = c.args.n in
    c.none_positive.ensures
    ∙ fold_every (λ x. not (lt_z (pos 0) x)) (pos 0) _ n (λ j. not (true? es (on (z + (j + 1))))) (part_size es v z n c.requires) (λ j l. ap not (part_true es v z n c.requires j l))
