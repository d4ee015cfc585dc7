-- `instance_check::mark_run` meets its contract. The invariant: with the word that is kept put back, the edges read so far are marked. Assumes nothing.
use mathlib.Core.Path.{◌≡◌, sym, ◌∙◌, ap}
use mathlib.Core.Logic.{⊎_elim}
use Prim.Native.Nat.{ℕ, ◌+◌, ◌<◌}
use native.Mathlib.Nat.{eq-or-lt_of_le}
use native.Mathlib.Omega.{arith}
use lib.ListN.{get_or, length-set}
use Rattle.instance.specs.Instance.{low_end, high_end}
use Rattle.instance_check.proofs.Words.{marked_beside, marked_more}
use Rattle.instance_check.proofs.mark_run.Goals as goal

pub offset_bounds-near-low : goal.offset_bounds-near-low
offset_bounds-near-low c =
    let low_below : c.from-low.result < 64 = let (o, h) = c.requires.ends.0 c.args.from (omega arith) in
    omega (arith, c.from-low.ensures) in
    omega (arith, low_below)

pub bounds-near-low : goal.bounds-near-low
bounds-near-low c =
    let low_below : c.from-low.result < 64 = let (o, h) = c.requires.ends.0 c.args.from (omega arith) in
    omega (arith, c.from-low.ensures) in
    omega (arith, low_below, c.requires.ends.1.long)

pub loop-j-init : goal.loop-j-init
loop-j-init c =
    let low_below : c.from-low.result < 64 = let (o, h) = c.requires.ends.0 c.args.from (omega arith) in
    omega (arith, c.from-low.ensures) in
    (omega arith, omega arith, c.requires.ends.1.long, marked_beside c.args.edges.now.b.now c.requires.ends.1 c.from-low.result low_below)

pub with_bit-row-requires : goal.with_bit-row-requires
with_bit-row-requires c =
    let low_is : c.from-low.result ≡ low_end c.args.edges.now.b.now c.loop-j.j = sym c.if-from-low.false ∙ c.from.ensures in
    let high_is : c.from-high.result ≡ high_end c.args.edges.now.b.now c.loop-j.j = c.from-high.ensures ∙ ap (λ (x : ℕ). get_or c.args.edges.now.b.now (4 + x + c.loop-j.j) 0) c.args.edges.now.counted in
    let ends : (c.from-low.result < c.from-high.result) × (c.from-high.result < 64) = let (o, h) = c.requires.ends.0 c.loop-j.j (omega arith) in
    let x = low_is in
    let y = high_is in
    (omega arith, omega arith) in
    ends.1

pub offset_bounds-near-high : goal.offset_bounds-near-high
offset_bounds-near-high c =
    let low_is : c.from-low.result ≡ low_end c.args.edges.now.b.now c.loop-j.j = sym c.if-from-low.false ∙ c.from.ensures in
    let high_is : c.from-high.result ≡ high_end c.args.edges.now.b.now c.loop-j.j = c.from-high.ensures ∙ ap (λ (x : ℕ). get_or c.args.edges.now.b.now (4 + x + c.loop-j.j) 0) c.args.edges.now.counted in
    let ends : (c.from-low.result < c.from-high.result) × (c.from-high.result < 64) = let (o, h) = c.requires.ends.0 c.loop-j.j (omega arith) in
    let x = low_is in
    let y = high_is in
    (omega arith, omega arith) in
    omega (arith, ends.1)

pub bounds-near-high : goal.bounds-near-high
bounds-near-high c =
    let low_is : c.from-low.result ≡ low_end c.args.edges.now.b.now c.loop-j.j = sym c.if-from-low.false ∙ c.from.ensures in
    let high_is : c.from-high.result ≡ high_end c.args.edges.now.b.now c.loop-j.j = c.from-high.ensures ∙ ap (λ (x : ℕ). get_or c.args.edges.now.b.now (4 + x + c.loop-j.j) 0) c.args.edges.now.counted in
    let ends : (c.from-low.result < c.from-high.result) × (c.from-high.result < 64) = let (o, h) = c.requires.ends.0 c.loop-j.j (omega arith) in
    let x = low_is in
    let y = high_is in
    (omega arith, omega arith) in
    omega (arith, ends.1, c.loop-j.invariant.2)

pub with_bit-requires : goal.with_bit-requires
with_bit-requires c =
    let low_below : c.from-low.result < 64 = let (o, h) = c.requires.ends.0 c.args.from (omega arith) in
    omega (arith, c.from-low.ensures) in
    low_below

pub offset_bounds-near-high-in-loop-j : goal.offset_bounds-near-high-in-loop-j
offset_bounds-near-high-in-loop-j c =
    let low_is : c.from-low.result ≡ low_end c.args.edges.now.b.now c.loop-j.j = sym c.if-from-low.false ∙ c.from.ensures in
    let high_is : c.from-high.result ≡ high_end c.args.edges.now.b.now c.loop-j.j = c.from-high.ensures ∙ ap (λ (x : ℕ). get_or c.args.edges.now.b.now (4 + x + c.loop-j.j) 0) c.args.edges.now.counted in
    let ends : (c.from-low.result < c.from-high.result) × (c.from-high.result < 64) = let (o, h) = c.requires.ends.0 c.loop-j.j (omega arith) in
    let x = low_is in
    let y = high_is in
    (omega arith, omega arith) in
    omega (arith, ends.1)

pub bounds-near-high-in-loop-j : goal.bounds-near-high-in-loop-j
bounds-near-high-in-loop-j c =
    let low_is : c.from-low.result ≡ low_end c.args.edges.now.b.now c.loop-j.j = sym c.if-from-low.false ∙ c.from.ensures in
    let high_is : c.from-high.result ≡ high_end c.args.edges.now.b.now c.loop-j.j = c.from-high.ensures ∙ ap (λ (x : ℕ). get_or c.args.edges.now.b.now (4 + x + c.loop-j.j) 0) c.args.edges.now.counted in
    let ends : (c.from-low.result < c.from-high.result) × (c.from-high.result < 64) = let (o, h) = c.requires.ends.0 c.loop-j.j (omega arith) in
    let x = low_is in
    let y = high_is in
    (omega arith, omega arith) in
    omega (arith, ends.1, c.loop-j.invariant.2)

pub loop-j-preserved : goal.loop-j-preserved
loop-j-preserved c =
    let low_is : c.from-low.result ≡ low_end c.args.edges.now.b.now c.loop-j.j = sym c.if-from-low.false ∙ c.from.ensures in
    let high_is : c.from-high.result ≡ high_end c.args.edges.now.b.now c.loop-j.j = c.from-high.ensures ∙ ap (λ (x : ℕ). get_or c.args.edges.now.b.now (4 + x + c.loop-j.j) 0) c.args.edges.now.counted in
    let ends : (c.from-low.result < c.from-high.result) × (c.from-high.result < 64) = let (o, h) = c.requires.ends.0 c.loop-j.j (omega arith) in
    let x = low_is in
    let y = high_is in
    (omega arith, omega arith) in
    (omega arith, omega arith, simp length-set c.loop-j.invariant.2, rw (c.with_bit.ensures, c.with_bit-row.ensures) (marked_more c.args.edges.now.b.now c.loop-j.j c.loop-j.near c.loop-j.row c.from-low.result c.from-high.result c.loop-j.invariant.2 c.loop-j.invariant.3 low_is high_is ends.0 ends.1))

pub offset_bounds-near-low-2 : goal.offset_bounds-near-low-2
offset_bounds-near-low-2 c =
    let low_below : c.from-low.result < 64 = let (o, h) = c.requires.ends.0 c.args.from (omega arith) in
    omega (arith, c.from-low.ensures) in
    omega (arith, low_below)

pub bounds-near-low-2 : goal.bounds-near-low-2
bounds-near-low-2 c =
    let low_below : c.from-low.result < 64 = let (o, h) = c.requires.ends.0 c.args.from (omega arith) in
    omega (arith, c.from-low.ensures) in
    omega (arith, low_below, c.loop-j.invariant.2)

pub shape_of-near : goal.shape_of-near
shape_of-near c = simp length-set (c.loop-j.invariant.2 ∙ sym c.requires.ends.1.long)

pub returns : goal.returns
returns c = (
  ⊎_elim
      (λ x. omega (arith, x.loop-j-test.false, c.requires.from_lt_e))
      (λ x.
      ⊎_elim
      (λ q. absurd (x.if-from-low.true (x.from.ensures ∙ ap (λ (i : ℕ). get_or c.args.edges.now.b.now (4 + i) 0) (sym q) ∙ sym c.from-low.ensures)))
      (λ l. l)
      (eq-or-lt_of_le c.loop-j.invariant.0))
      c.loop-j-test.branch-raw,
  c.loop-j.invariant.1,
  c.loop-j.invariant.3,
)
