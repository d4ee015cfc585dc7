-- `one_clause::spot_of` meets its contract: the families passed have fewer clauses than the number. Assumes nothing.
use mathlib.Core.Path.{◌≡◌, refl, subst}
use native.Mathlib.Omega.{arith}
use Prim.Native.Nat.{ℕ, ◌+◌}
use Rattle.lists.specs.Loop.{sum}
use Rattle.one_clause.specs.Spot.{count}
use Rattle.one_clause.proofs.Stands.{listed, stands_here, stands_later, stands_last}
use Rattle.one_clause.proofs.spot_of.Goals as goal

pub loop-family-init : goal.loop-family-init
loop-family-init c =
    let (a, b, x, d, e, f, g) = c.clauses_by-count.ensures.a_value in
    (listed c.args.s.sizes a b x d e f c.pair_count.ensures.0 c.pair_count-2.ensures.0, omega arith)

pub returns-then-place-clauses : goal.returns-then-place-clauses
returns-then-place-clauses c = stands_here c.loop-family.invariant.0 c.loop-family.invariant.1 c.loop-family-test.true _ c.if-place-clauses.true

pub loop-family-preserved : goal.loop-family-preserved
loop-family-preserved c =
    (c.loop-family.invariant.0, stands_later c.loop-family.invariant.0 c.loop-family.invariant.1 c.loop-family-test.true _ c.if-place-clauses.false)

pub returns : goal.returns
returns c =
    let e : c.loop-family.family-index ≡ 6 = omega arith in
    stands_last c.args.s.sizes (subst (λ (i : ℕ). c.args.number ≡ sum i (count c.args.s.sizes) + c.loop-family.place) e c.loop-family.invariant.1) c.requires refl
