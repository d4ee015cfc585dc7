-- `plan_tally::total_of` meets its contract: the counts, each taken as at most 65,535, are summed one after another. Assumes nothing.
use mathlib.Core.Path.{◌≡◌, ◌∙◌, ap, ap₂}
use Prim.Native.Nat.{ℕ, ◌+◌, min}
use native.Mathlib.Omega.{arith}
use native.Mathlib.Numerals.{add-one}
use Rattle.lists.specs.Loop.{sum as total}
use Rattle.tally.specs.Tally.{under, total as allCounted}
use Rattle.plan_tally.proofs.Laws.{capped_sum}
use Rattle.plan_tally.proofs.total_of.Goals as goal

pub loop-count-preserved : goal.loop-count-preserved
loop-count-preserved c = (rw (add-one c.loop-count.count-index) (omega (arith, c.loop-count.invariant.0, c.min-sum-in-loop-count.ensures)), omega (arith, c.min-sum-in-loop-count.ensures))

pub returns : goal.returns
unfolding allCounted
returns c =
    let l = c.loop-count in
    let e : l.count-index ≡ 36 = omega arith in
    ap (λ (x : ℕ). min x 65535) (l.invariant.0 ∙ ap₂ (λ (x j : ℕ). x + total j (λ i. min (under c.args.t.now i) 65535)) c.min-sum.ensures e)
    ∙ capped_sum 36 65535 c.args.t.now.passed (under c.args.t.now)
