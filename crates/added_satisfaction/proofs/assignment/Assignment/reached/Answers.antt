-- `added_satisfaction::assignment::Assignment::reached` meets its contract: an entry is positive where its variable is true. Assumes nothing.
use mathlib.Core.Path.{◌≡◌, subst}
use Prim.Native.Nat.{ℕ, ◌+◌, ◌-◌}
use native.Mathlib.Omega.{arith}
use lib.Dec.{T}
use Rattle.answers.proofs.Faults.{fails}
use Rattle.valuation.specs.Valuation.{true?}
use Rattle.ceiling.specs.Tree.{on}
use Rattle.added_satisfaction.proofs.Truth.{valuation, part_true, part_size}
use Rattle.added_satisfaction.proofs.assignment.Assignment.reached.Goals as goal

pub returns : goal.returns
returns c =
    let es = c.args.self.entries.now in
    let w = valuation es c.args.self.right in
    let size = part_size es w c.args.z c.args.n c.requires in (
      omega (arith, c.positive_up_to.ensures.within),
      (λ j h l t.
          let i = j - 1 in
          let e : c.args.z + j ≡ c.args.z + (i + 1) = omega arith in
          fails (part_true es w c.args.z c.args.n c.requires i (omega arith)) (c.positive_up_to.ensures.beyond i (omega arith) (omega arith))
          (subst (λ (x : ℕ). T (true? es (on x))) e t)),
    )
