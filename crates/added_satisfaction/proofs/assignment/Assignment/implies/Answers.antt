-- `added_satisfaction::assignment::Assignment::implies` meets its contract: by the truth of the two. Assumes nothing.
use mathlib.Core.Path.{◌∙◌, ap₂}
use mathlib.Core.Bool.{Bool, not, ◌||◌}
use Rattle.added_satisfaction.proofs.Truth.{valuation, says_or}
use Rattle.added_satisfaction.proofs.assignment.Assignment.implies.Goals as goal

pub returns : goal.returns
returns c =
    let es = c.args.self.entries.now in
    ap₂ (λ (a b : Bool). not a || b) c.is_true.ensures c.is_true-2.ensures ∙ says_or es (valuation es c.args.self.right) c.args.z c.requires.z_bound.0 c.requires.z_bound.1 c.args.w
