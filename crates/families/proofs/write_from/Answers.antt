-- `families::write_from` meets its contract. The invariant: for some `from`, the clauses of the high ends below it are written, and `rest` has the bits from it on. Assumes nothing.
use mathlib.Core.Path.{◌≡◌, sym, ◌∙◌, ap}
use mathlib.Core.Bool.{Bool, true}
use mathlib.Core.List.{[]}
use Prim.Native.Nat.{ℕ, ◌+◌, ◌-◌, ◌^◌, ◌≤◌, ◌<◌}
use native.Mathlib.Nat.{le_refl}
use native.Mathlib.Omega.{arith}
use borrow.Author.Rules.{rules}
use lib.Bits.{and_le_r}
use lib.Count.{count_trailing_zeros}
use lib.Dec.{eqb}
use lib.ListN.{length, length-take, length-drop}
use Rattle.lists.specs.Loop.{when, each}
use Rattle.lists.proofs.Slices.{Filling, each_filling, filling_room, filling_next, each_filled}
use Rattle.bits.specs.Bits.{bit, set?}
use Rattle.bits.proofs.Lowest.{left_all, low_below, low_set, left_next, filling_low, filling_end}
use Rattle.instance.specs.Instance.{upward}
use Rattle.formula.specs.Formula.{line, no_exchange}
use Rattle.families.proofs.Laws.{holding}
use Rattle.families.proofs.write_from.Invariants.{turn}
use Rattle.families.proofs.write_from.Goals as goal

pub loop-rest-init : goal.loop-rest-init
loop-rest-init c = (0, (each_filling line (turn c.args.s.sizes c.args.word c.args.t.0 c.args.u.0) c.requires.u_in_bounds, left_all c.above-rest.result (omega (arith, c.above-rest.ensures.0, c.ranges.word.fits))))

pub overflow_cast-v : goal.overflow_cast-v
overflow_cast-v c =
    let high : c.above-rest.result < 2 ^ c.args.s.sizes.n = omega (arith, c.above-rest.ensures.0, c.requires.t_lt_m.2) in
    let below : count_trailing_zeros 64 c.loop-rest.rest < c.args.s.sizes.n = low_below c.args.s.sizes.n c.above-rest.result high c.loop-rest.rest c.loop-rest.invariant.0 c.loop-rest.invariant.1.1 (omega arith) in
    omega (arith, below, c.args.s.limits.n_most)

pub slice_bounds-write_no_exchange-count : goal.slice_bounds-write_no_exchange-count
slice_bounds-write_no_exchange-count c =
    let high : c.above-rest.result < 2 ^ c.args.s.sizes.n = omega (arith, c.above-rest.ensures.0, c.requires.t_lt_m.2) in
    let unset : (v : ℕ) → bit c.above-rest.result v ≡ 0 → each line (turn c.args.s.sizes c.args.word c.args.t.0 c.args.u.0 v) ≡ [] = λ v e. ap (λ (b : Bool). each line (when b (no_exchange c.args.s.sizes c.args.t.0 c.args.u.0 v))) (sym (c.above-rest.ensures.1 v) ∙ ap (λ (b : ℕ). eqb b 1) e) in
    let next : Filling (λ v. each line (turn c.args.s.sizes c.args.word c.args.t.0 c.args.u.0 v)) c.args.s.sizes.n c.args.f.now (count_trailing_zeros 64 c.loop-rest.rest) c.loop-rest.at c.loop-rest.f = filling_low c.args.s.sizes.n c.above-rest.result unset c.loop-rest.invariant.1.0 c.loop-rest.invariant.1.1 high (omega arith) in
    let fits : c.loop-rest.at ≤ length c.loop-rest.f = omega (arith, next.fits, next.same) in
    fits

pub slice_bounds-write_no_exchange-start : goal.slice_bounds-write_no_exchange-start
slice_bounds-write_no_exchange-start c =
    let high : c.above-rest.result < 2 ^ c.args.s.sizes.n = omega (arith, c.above-rest.ensures.0, c.requires.t_lt_m.2) in
    let unset : (v : ℕ) → bit c.above-rest.result v ≡ 0 → each line (turn c.args.s.sizes c.args.word c.args.t.0 c.args.u.0 v) ≡ [] = λ v e. ap (λ (b : Bool). each line (when b (no_exchange c.args.s.sizes c.args.t.0 c.args.u.0 v))) (sym (c.above-rest.ensures.1 v) ∙ ap (λ (b : ℕ). eqb b 1) e) in
    let next : Filling (λ v. each line (turn c.args.s.sizes c.args.word c.args.t.0 c.args.u.0 v)) c.args.s.sizes.n c.args.f.now (count_trailing_zeros 64 c.loop-rest.rest) c.loop-rest.at c.loop-rest.f = filling_low c.args.s.sizes.n c.above-rest.result unset c.loop-rest.invariant.1.0 c.loop-rest.invariant.1.1 high (omega arith) in
    let fits : c.loop-rest.at ≤ length c.loop-rest.f = omega (arith, next.fits, next.same) in
    fits

pub write_no_exchange-at-requires : goal.write_no_exchange-at-requires
write_no_exchange-at-requires c =
    let high : c.above-rest.result < 2 ^ c.args.s.sizes.n = omega (arith, c.above-rest.ensures.0, c.requires.t_lt_m.2) in
    let below : count_trailing_zeros 64 c.loop-rest.rest < c.args.s.sizes.n = low_below c.args.s.sizes.n c.above-rest.result high c.loop-rest.rest c.loop-rest.invariant.0 c.loop-rest.invariant.1.1 (omega arith) in
    let end : upward (λ _. set? c.args.word) c.args.u.0 (count_trailing_zeros 64 c.loop-rest.rest) ≡ true = sym (c.above-rest.ensures.1 (count_trailing_zeros 64 c.loop-rest.rest))
    ∙ ap (λ (b : ℕ). eqb b 1) (low_set c.args.s.sizes.n c.above-rest.result high c.loop-rest.rest c.loop-rest.invariant.0 c.loop-rest.invariant.1.1 (omega arith)) in
    let unset : (v : ℕ) → bit c.above-rest.result v ≡ 0 → each line (turn c.args.s.sizes c.args.word c.args.t.0 c.args.u.0 v) ≡ [] = λ v e. ap (λ (b : Bool). each line (when b (no_exchange c.args.s.sizes c.args.t.0 c.args.u.0 v))) (sym (c.above-rest.ensures.1 v) ∙ ap (λ (b : ℕ). eqb b 1) e) in
    let next : Filling (λ v. each line (turn c.args.s.sizes c.args.word c.args.t.0 c.args.u.0 v)) c.args.s.sizes.n c.args.f.now (count_trailing_zeros 64 c.loop-rest.rest) c.loop-rest.at c.loop-rest.f = filling_low c.args.s.sizes.n c.above-rest.result unset c.loop-rest.invariant.1.0 c.loop-rest.invariant.1.1 high (omega arith) in
    simp (length-take, length-drop)
    (let r = rw end at (filling_room next below) in
    let l = below in search rules)

pub loop-rest-preserved : goal.loop-rest-preserved
loop-rest-preserved c =
    let high : c.above-rest.result < 2 ^ c.args.s.sizes.n = omega (arith, c.above-rest.ensures.0, c.requires.t_lt_m.2) in
    let below : count_trailing_zeros 64 c.loop-rest.rest < c.args.s.sizes.n = low_below c.args.s.sizes.n c.above-rest.result high c.loop-rest.rest c.loop-rest.invariant.0 c.loop-rest.invariant.1.1 (omega arith) in
    let end : upward (λ _. set? c.args.word) c.args.u.0 (count_trailing_zeros 64 c.loop-rest.rest) ≡ true = sym (c.above-rest.ensures.1 (count_trailing_zeros 64 c.loop-rest.rest))
    ∙ ap (λ (b : ℕ). eqb b 1) (low_set c.args.s.sizes.n c.above-rest.result high c.loop-rest.rest c.loop-rest.invariant.0 c.loop-rest.invariant.1.1 (omega arith)) in
    let unset : (v : ℕ) → bit c.above-rest.result v ≡ 0 → each line (turn c.args.s.sizes c.args.word c.args.t.0 c.args.u.0 v) ≡ [] = λ v e. ap (λ (b : Bool). each line (when b (no_exchange c.args.s.sizes c.args.t.0 c.args.u.0 v))) (sym (c.above-rest.ensures.1 v) ∙ ap (λ (b : ℕ). eqb b 1) e) in
    let next : Filling (λ v. each line (turn c.args.s.sizes c.args.word c.args.t.0 c.args.u.0 v)) c.args.s.sizes.n c.args.f.now (count_trailing_zeros 64 c.loop-rest.rest) c.loop-rest.at c.loop-rest.f = filling_low c.args.s.sizes.n c.above-rest.result unset c.loop-rest.invariant.1.0 c.loop-rest.invariant.1.1 high (omega arith) in (
      count_trailing_zeros 64 c.loop-rest.rest + 1,
      (
        filling_next next below (holding end _ _ _ c.write_no_exchange-at.ensures),
        left_next c.args.s.sizes.n c.above-rest.result high c.loop-rest.rest c.loop-rest.invariant.0 c.loop-rest.invariant.1.1 (omega arith),
      ),
    )

pub overflow_add-at : goal.overflow_add-at
overflow_add-at c = let q = (loop-rest-preserved c).1.0.fits in omega arith

pub loop-rest-smaller : goal.loop-rest-smaller
loop-rest-smaller c = omega (arith, and_le_r c.loop-rest.rest (c.loop-rest.rest - 1), c.loop-rest-test.true)

pub shape_of-f : goal.shape_of-f
shape_of-f c = c.loop-rest.invariant.1.0.same

pub returns : goal.returns
returns c =
    let unset : (v : ℕ) → bit c.above-rest.result v ≡ 0 → each line (turn c.args.s.sizes c.args.word c.args.t.0 c.args.u.0 v) ≡ [] = λ v e. ap (λ (b : Bool). each line (when b (no_exchange c.args.s.sizes c.args.t.0 c.args.u.0 v))) (sym (c.above-rest.ensures.1 v) ∙ ap (λ (b : ℕ). eqb b 1) e) in
    each_filled line (turn c.args.s.sizes c.args.word c.args.t.0 c.args.u.0)
    (filling_end c.args.s.sizes.n c.above-rest.result unset c.loop-rest.invariant.1.0 c.loop-rest.invariant.1.1 c.loop-rest-test.false) (le_refl _)
