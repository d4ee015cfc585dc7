-- `clauses::put_few` meets its contract. The invariant: for some `from`, the literals of the bits below it are written, and `rest` has the bits from it on. Assumes nothing.
use mathlib.Core.Path.{◌≡◌, refl, sym, ◌∙◌, ap}
use mathlib.Core.List.{List, [], ◌∷◌}
use Prim.Native.Nat.{ℕ, ◌+◌, ◌-◌, ◌≤◌, ◌<◌}
use native.Mathlib.Omega.{arith}
use mir.Facts.{to_z-of_z}
use borrow.Author.Rules.{sfits_of}
use lib.Bits.{and_le_r}
use lib.Count.{count_trailing_zeros}
use lib.Dec.{eqb}
use lib.IntN.{ℤ, pos}
use lib.ListN.{length, set, length-set}
use Rattle.lists.specs.Loop.{when}
use Rattle.lists.proofs.Slices.{Filling, filling_from, filling_set, filled_set}
use Rattle.bits.specs.Bits.{bit, set?}
use Rattle.bits.proofs.Lowest.{left_all, low_below, low_set, left_next, filling_low, filling_end}
use Rattle.formula.specs.Variables.{Literal, X}
use Rattle.formula.specs.Formula.{nearby}
use Rattle.clauses.proofs.Laws.{line_length}
use Rattle.clauses.proofs.put_few.Goals as goal

pub loop-rest-init : goal.loop-rest-init
loop-rest-init c =
    let room : length (nearby c.args.s.sizes (set? c.args.word) c.args.t.0 c.args.a.0) + 1 ≤ length c.args.f.now = omega (arith, c.requires.a_in_bounds, line_length (nearby c.args.s.sizes (set? c.args.word) c.args.t.0 c.args.a.0)) in
    (0, (filling_from 0 (omega arith) refl (omega (arith, room)), left_all c.args.word c.ranges.word.fits))

pub overflow_cast-w : goal.overflow_cast-w
overflow_cast-w c =
    let below : count_trailing_zeros 64 c.loop-rest.rest < c.args.s.sizes.n = low_below c.args.s.sizes.n c.args.word c.requires.t_le_m.2 c.loop-rest.rest c.loop-rest.invariant.0 c.loop-rest.invariant.1.1 (omega arith) in
    omega (arith, below, c.args.s.limits.n_most)

pub positive-requires : goal.positive-requires
positive-requires c =
    let below : count_trailing_zeros 64 c.loop-rest.rest < c.args.s.sizes.n = low_below c.args.s.sizes.n c.args.word c.requires.t_le_m.2 c.loop-rest.rest c.loop-rest.invariant.0 c.loop-rest.invariant.1.1 (omega arith) in
    (c.requires.t_le_m.0, c.requires.t_le_m.1, below)

pub bounds-f-at : goal.bounds-f-at
bounds-f-at c =
    let literal : ℕ → Literal = X c.args.s.sizes c.args.t.0 c.args.a.0 in
    let unset : (u : ℕ) → bit c.args.word u ≡ 0 → when (set? c.args.word u) (literal u ∷ []) ≡ [] = λ u e. ap (λ (b : ℕ). when (eqb b 1) (literal u ∷ [])) e in
    let below : count_trailing_zeros 64 c.loop-rest.rest < c.args.s.sizes.n = low_below c.args.s.sizes.n c.args.word c.requires.t_le_m.2 c.loop-rest.rest c.loop-rest.invariant.0 c.loop-rest.invariant.1.1 (omega arith) in
    let turn : Filling (λ w. when (set? c.args.word w) (literal w ∷ [])) c.args.s.sizes.n c.args.f.now (count_trailing_zeros 64 c.loop-rest.rest + 1) (c.loop-rest.at + 1) (set c.loop-rest.f c.loop-rest.at (literal (count_trailing_zeros 64 c.loop-rest.rest))) = filling_set
    (filling_low c.args.s.sizes.n c.args.word unset c.loop-rest.invariant.1.0 c.loop-rest.invariant.1.1 c.requires.t_le_m.2 (omega arith))
    below (literal (count_trailing_zeros 64 c.loop-rest.rest))
    (ap (λ (b : ℕ). when (eqb b 1) (literal (count_trailing_zeros 64 c.loop-rest.rest) ∷ [])) (low_set c.args.s.sizes.n c.args.word c.requires.t_le_m.2 c.loop-rest.rest c.loop-rest.invariant.0 c.loop-rest.invariant.1.1 (omega arith))) in
    omega (arith, turn.fits, c.loop-rest.invariant.1.0.same)

pub overflow_sub-rest : goal.overflow_sub-rest
overflow_sub-rest c = omega arith

pub loop-rest-smaller : goal.loop-rest-smaller
loop-rest-smaller c = omega (arith, and_le_r c.loop-rest.rest (c.loop-rest.rest - 1), c.loop-rest-test.true)

pub loop-rest-preserved : goal.loop-rest-preserved
loop-rest-preserved c =
    let literal : ℕ → Literal = X c.args.s.sizes c.args.t.0 c.args.a.0 in
    let unset : (u : ℕ) → bit c.args.word u ≡ 0 → when (set? c.args.word u) (literal u ∷ []) ≡ [] = λ u e. ap (λ (b : ℕ). when (eqb b 1) (literal u ∷ [])) e in
    let below : count_trailing_zeros 64 c.loop-rest.rest < c.args.s.sizes.n = low_below c.args.s.sizes.n c.args.word c.requires.t_le_m.2 c.loop-rest.rest c.loop-rest.invariant.0 c.loop-rest.invariant.1.1 (omega arith) in
    let turn : Filling (λ w. when (set? c.args.word w) (literal w ∷ [])) c.args.s.sizes.n c.args.f.now (count_trailing_zeros 64 c.loop-rest.rest + 1) (c.loop-rest.at + 1) (set c.loop-rest.f c.loop-rest.at (literal (count_trailing_zeros 64 c.loop-rest.rest))) = filling_set
    (filling_low c.args.s.sizes.n c.args.word unset c.loop-rest.invariant.1.0 c.loop-rest.invariant.1.1 c.requires.t_le_m.2 (omega arith))
    below (literal (count_trailing_zeros 64 c.loop-rest.rest))
    (ap (λ (b : ℕ). when (eqb b 1) (literal (count_trailing_zeros 64 c.loop-rest.rest) ∷ [])) (low_set c.args.s.sizes.n c.args.word c.requires.t_le_m.2 c.loop-rest.rest c.loop-rest.invariant.0 c.loop-rest.invariant.1.1 (omega arith))) in (
      count_trailing_zeros 64 c.loop-rest.rest + 1,
      (
        rw (to_z-of_z (sfits_of c.positive.type_inv), c.positive.ensures) turn,
        left_next c.args.s.sizes.n c.args.word c.requires.t_le_m.2 c.loop-rest.rest c.loop-rest.invariant.0 c.loop-rest.invariant.1.1 (omega arith),
      ),
    )

pub slice_set_of-f : goal.slice_set_of-f
slice_set_of-f c =
    let room : length (nearby c.args.s.sizes (set? c.args.word) c.args.t.0 c.args.a.0) + 1 ≤ length c.args.f.now = omega (arith, c.requires.a_in_bounds, line_length (nearby c.args.s.sizes (set? c.args.word) c.args.t.0 c.args.a.0)) in
    let literal : ℕ → Literal = X c.args.s.sizes c.args.t.0 c.args.a.0 in
    let unset : (u : ℕ) → bit c.args.word u ≡ 0 → when (set? c.args.word u) (literal u ∷ []) ≡ [] = λ u e. ap (λ (b : ℕ). when (eqb b 1) (literal u ∷ [])) e in
    let done : Filling (λ w. when (set? c.args.word w) (literal w ∷ [])) c.args.s.sizes.n c.args.f.now c.args.s.sizes.n c.loop-rest.at c.loop-rest.f = filling_end c.args.s.sizes.n c.args.word unset c.loop-rest.invariant.1.0 c.loop-rest.invariant.1.1 c.loop-rest-test.false in
    omega (arith, done.here, done.same, room)

pub shape_of-f : goal.shape_of-f
shape_of-f c =
    let literal : ℕ → Literal = X c.args.s.sizes c.args.t.0 c.args.a.0 in
    let unset : (u : ℕ) → bit c.args.word u ≡ 0 → when (set? c.args.word u) (literal u ∷ []) ≡ [] = λ u e. ap (λ (b : ℕ). when (eqb b 1) (literal u ∷ [])) e in
    let done : Filling (λ w. when (set? c.args.word w) (literal w ∷ [])) c.args.s.sizes.n c.args.f.now c.args.s.sizes.n c.loop-rest.at c.loop-rest.f = filling_end c.args.s.sizes.n c.args.word unset c.loop-rest.invariant.1.0 c.loop-rest.invariant.1.1 c.loop-rest-test.false in
    length-set {A = ℤ} c.loop-rest.f c.loop-rest.at (pos 0) ∙ done.same

pub returns : goal.returns
returns c =
    let room : length (nearby c.args.s.sizes (set? c.args.word) c.args.t.0 c.args.a.0) + 1 ≤ length c.args.f.now = omega (arith, c.requires.a_in_bounds, line_length (nearby c.args.s.sizes (set? c.args.word) c.args.t.0 c.args.a.0)) in
    let literal : ℕ → Literal = X c.args.s.sizes c.args.t.0 c.args.a.0 in
    let unset : (u : ℕ) → bit c.args.word u ≡ 0 → when (set? c.args.word u) (literal u ∷ []) ≡ [] = λ u e. ap (λ (b : ℕ). when (eqb b 1) (literal u ∷ [])) e in
    let done : Filling (λ w. when (set? c.args.word w) (literal w ∷ [])) c.args.s.sizes.n c.args.f.now c.args.s.sizes.n c.loop-rest.at c.loop-rest.f = filling_end c.args.s.sizes.n c.args.word unset c.loop-rest.invariant.1.0 c.loop-rest.invariant.1.1 c.loop-rest-test.false in
    ap (λ (l : List ℤ). set l c.loop-rest.at (pos 0)) done.slice ∙ filled_set (nearby c.args.s.sizes (set? c.args.word) c.args.t.0 c.args.a.0) c.args.f.now c.loop-rest.at (pos 0) (pos 0) (sym done.here) (omega (arith, done.here, room))
