-- `satisfaction::clause_fault` meets its contract: the rows and families before have a true literal in every clause, and at is their number of clauses. Assumes nothing.
use Prim.Native.Nat.{◌<◌}
use mathlib.Core.Path.{◌≡◌}
use native.Mathlib.Numerals.{add-one}
use native.Mathlib.Omega.{arith}
use lib.ListN.{get_or, length-append}
use Rattle.lists.specs.Loop.{for}
use Rattle.lists.proofs.Loops.{for_all}
use Rattle.instance.specs.Problem.{checked_of}
use Rattle.counts.specs.Families.{place_of}
use Rattle.counts.specs.declared.Family.TheVariants.{A}
use Rattle.formula.specs.Blocks.{times, family, held}
use Rattle.valuation.specs.Valuation.{satisfied?}
use Rattle.satisfaction.specs.Rows.{row, Before}
use Rattle.satisfaction.proofs.Laws.{failing_none, failing_below, row_passed}
use Rattle.satisfaction.proofs.Families.{families, place_at, in_families, next_family}
use Rattle.satisfaction.proofs.clause_fault.Goals as goal

pub loop-t-init : goal.loop-t-init
loop-t-init c =
    let e = place_at c.loop-family.family-index c.loop-family-test.true in
    (omega (arith, e, c.loop-family.invariant.0), rw e (omega (arith, c.loop-family.invariant.1)), tt)

pub row_fault-requires-clause-before : goal.row_fault-requires-clause-before
unfolding Before
row_fault-requires-clause-before c =
    let g = held (checked_of c.args.problem.now) in
    let e = place_at c.loop-family.family-index c.loop-family-test.true in
    (omega (arith, c.loop-t-test.true, c.times_of-t-end.ensures.0), rw e ((for_all (satisfied? c.args.entries.now) c.loop-family.family-index (family g)).0 c.loop-family.invariant.2))

-- `here`: the place in the row
pub overflow_add-result : goal.overflow_add-result
overflow_add-result c =
    let e = place_at c.loop-family.family-index c.loop-family-test.true in
    let here = failing_below c.args.entries.now _ c.in-Some.fault c.in-Some.ensures in
    omega (arith, e, c.loop-family-test.true, c.loop-t.invariant.0, c.loop-t-test.true, c.times_of-t-end.ensures.1, c.row_size-size.ensures.1, c.row_size-size.ensures.0 c.loop-t.t, here)

pub returns-in-Some : goal.returns-in-Some
returns-in-Some c =
    let g = held (checked_of c.args.problem.now) in
    let which = c.loop-family.family-index in
    let e = place_at which c.loop-family-test.true in
    let inner = rw e at c.loop-t.invariant in
    let here = rw (c.in-Some.is, e) at c.row_fault.ensures in
    in_families g c.args.entries.now which c.loop-t.at c.loop-t.t c.loop-family.invariant.2 inner.1 inner.2 c.in-Some.fault c.loop-family-test.true
    (rw e at (let h : c.loop-t.t < times c.args.problem.now.shape.sizes (place_of (get_or families which A)) = omega (arith, c.loop-t-test.true, c.times_of-t-end.ensures.0) in h)) here

pub overflow_add-at : goal.overflow_add-at
overflow_add-at c =
    let e = place_at c.loop-family.family-index c.loop-family-test.true in
    omega (arith, e, c.loop-family-test.true, c.loop-t.invariant.0, c.loop-t-test.true, c.times_of-t-end.ensures.1, c.row_size-size.ensures.1)

pub loop-t-preserved : goal.loop-t-preserved
loop-t-preserved c =
    let g = held (checked_of c.args.problem.now) in
    let place = place_of (get_or families c.loop-family.family-index A) in
    let none = rw c.in_default.is at c.row_fault.ensures in (
      omega (arith, c.loop-t.invariant.0, c.row_size-size.ensures.1),
      rw (add-one, length-append) (omega (arith, c.loop-t.invariant.1, c.row_size-size.ensures.0 c.loop-t.t)),
      row_passed c.args.entries.now (row g place) c.loop-t.t c.loop-t.invariant.2 none,
    )

pub loop-family-preserved : goal.loop-family-preserved
loop-family-preserved c =
    let g = held (checked_of c.args.problem.now) in
    let which = c.loop-family.family-index in
    let e = place_at which c.loop-family-test.true in
    let inner = rw e at c.loop-t.invariant in
    let x : c.loop-t.t ≡ times c.args.problem.now.shape.sizes which = rw e at (let h : c.loop-t.t ≡ times c.args.problem.now.shape.sizes (place_of (get_or families which A)) = omega (arith, c.loop-t.auto.t-end, c.loop-t-test.false, c.times_of-t-end.ensures.0) in h) in
    let o = next_family g c.args.entries.now which c.loop-t.at c.loop-t.t c.loop-family.invariant.2 inner.1 inner.2 x in
    (omega (arith, inner.0, c.loop-t.auto.t-end, c.times_of-t-end.ensures.1), o.0, o.1)

pub returns : goal.returns
returns c = failing_none c.args.entries.now (for 7 (family (held (checked_of c.args.problem.now))))
    (let e : c.loop-family.family-index ≡ 7 = omega (arith, c.loop-family.auto.family-index-end, c.loop-family-test.false) in rw e at c.loop-family.invariant.2)
