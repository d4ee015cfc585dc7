-- `added_satisfaction::assignment::Assignment::all_imply` meets its contract: an entry is positive where its variable is true. Assumes nothing.
use mathlib.Core.Path.{◌∙◌, ap₂}
use mathlib.Core.List.{[], ◌∷◌}
use mathlib.Core.Bool.{Bool, not, ◌||◌}
use Prim.Native.Nat.{◌+◌, ◌-◌}
use native.Mathlib.Omega.{arith}
use lib.IntN.{ℤ, pos}
use lib.ListN.{take, drop}
use lib.Signed.{lt_z}
use Rattle.std.specs.Prelude.{zip}
use Rattle.std.proofs.lemmas.Slice.Zip.{length-zip, get_or-zip}
use Rattle.valuation.specs.Valuation.{satisfied?}
use Rattle.ceiling.specs.Tree.{on, off}
use Rattle.added_satisfaction.proofs.Truth.{valuation, part_true, part_size, fold_every, says_or}
use Rattle.added_satisfaction.proofs.assignment.Assignment.all_imply.Goals as goal

pub returns : goal.returns
returns c =
    let es = c.args.self.entries.now in
    let v = valuation es c.args.self.right in
    let z = c.args.z in
    let w = c.args.w in
    let n = c.args.n in
    let xs = take (z + n - z) (drop z es) in
    let ys = take (w + n - w) (drop w es) in
    let p = part_size es v z n c.requires.0 in
    let q = part_size es v w n c.requires.1 in
    c.positive_where.ensures
    ∙ fold_every (λ (r : ℤ × ℤ). not (lt_z (pos 0) r.0) || lt_z (pos 0) r.1) (pos 0, pos 0) (zip xs ys) n (λ j. satisfied? es (off (z + (j + 1)) ∷ on (w + (j + 1)) ∷ []))
    (omega (arith, length-zip xs ys, p, q))
    (λ j l.
    rw (get_or-zip xs ys j (pos 0, pos 0) (omega (arith, p)) (omega (arith, q)))
    (ap₂ (λ (a b : Bool). not a || b) (part_true es v z n c.requires.0 j l) (part_true es v w n c.requires.1 j l)
    ∙ says_or es v (z + (j + 1)) (omega arith) (omega arith) (w + (j + 1))))
