-- `instance_check::mark_edges` meets its contract: edges rise, so as many of them as there are vertices from the first high end on, with one low end, are a fan. Assumes nothing.
use mathlib.Core.Path.{◌≡◌, sym, ◌∙◌, ap}
use Prim.Native.Nat.{ℕ, ◌+◌, ◌-◌, ◌<◌}
use native.Mathlib.Omega.{arith}
use lib.ListN.{get_or}
use Rattle.instance.specs.Instance.{high_end, vertices}
use Rattle.instance_check.proofs.Words.{ends_known}
use Rattle.instance_check.proofs.Fan.{ends_in, marked_fan}
use Rattle.instance_check.proofs.mark_edges.Goals as goal

pub overflow_sub-to : goal.overflow_sub-to
overflow_sub-to c =
    let high_is : c.from-high.result ≡ high_end c.args.edges.now.b.now c.args.from = c.from-high.ensures ∙ ap (λ (x : ℕ). get_or c.args.edges.now.b.now (4 + x + c.args.from) 0) c.args.edges.now.counted in
    let ends : (c.from-low.result < c.from-high.result) × (c.from-high.result < c.args.n) = let (o, h) = ends_in c.args.edges.now.b.now c.requires.edges.0 c.args.from (omega arith) in
    let x = high_is in
    (omega (arith, c.from-low.ensures), omega arith) in
    omega (arith, ends.1)

pub mark_fan-requires : goal.mark_fan-requires
mark_fan-requires c =
    let high_is : c.from-high.result ≡ high_end c.args.edges.now.b.now c.args.from = c.from-high.ensures ∙ ap (λ (x : ℕ). get_or c.args.edges.now.b.now (4 + x + c.args.from) 0) c.args.edges.now.counted in
    let ends : (c.from-low.result < c.from-high.result) × (c.from-high.result < c.args.n) = let (o, h) = ends_in c.args.edges.now.b.now c.requires.edges.0 c.args.from (omega arith) in
    let x = high_is in
    (omega (arith, c.from-low.ensures), omega arith) in
    let h = ends in
    (h.0, omega arith, omega arith, c.requires.edges.1.long)

pub shape_of-near-then-from-low : goal.shape_of-near-then-from-low
shape_of-near-then-from-low c = c.mark_fan.ensures.0 ∙ sym c.requires.edges.1.long

pub returns-then-from-low : goal.returns-then-from-low
returns-then-from-low c =
    let high_is : c.from-high.result ≡ high_end c.args.edges.now.b.now c.args.from = c.from-high.ensures ∙ ap (λ (x : ℕ). get_or c.args.edges.now.b.now (4 + x + c.args.from) 0) c.args.edges.now.counted in
    let ends : (c.from-low.result < c.from-high.result) × (c.from-high.result < c.args.n) = let (o, h) = ends_in c.args.edges.now.b.now c.requires.edges.0 c.args.from (omega arith) in
    let x = high_is in
    (omega (arith, c.from-low.ensures), omega arith) in
    let h = ends in
    let x = high_is in
    let at : 4 + (c.args.from + (c.args.n - c.from-high.result - 1)) ≡ 3 + (c.args.from + (c.args.n - c.from-high.result)) = omega arith in
    let top : high_end c.args.edges.now.b.now c.args.from + (c.args.n - c.from-high.result) ≡ vertices c.args.edges.now.b.now = omega arith in (
      omega arith,
      c.if-to-e.true,
      marked_fan c.args.edges.now.b.now c.requires.edges.0 c.args.from (c.args.n - c.from-high.result) (omega arith) (omega arith)
          (sym c.from-low.ensures ∙ sym c.if-from-low.true ∙ c.from.ensures ∙ ap (λ (i : ℕ). get_or c.args.edges.now.b.now i 0) (sym at)) top c.requires.edges.1 c.mark_fan.ensures.0
          (λ v u l. c.mark_fan.ensures.1 v u l ∙ rw (c.from-low.ensures, x, c.requires.from_lt_e.1)),
    )

pub mark_run-requires : goal.mark_run-requires
mark_run-requires c = record { from_lt_e = c.requires.from_lt_e.0; ends = (ends_known c.args.edges.now.b.now (omega arith) c.requires.edges.0, c.requires.edges.1) }

pub returns : goal.returns
returns c = c.mark_run.ensures
