-- `encoder::write_valuation` meets its contract: before turn t of agent a the rows before theirs stand in the slice. Assumes nothing.
use mathlib.Core.Path.{◌≡◌, refl, sym, ◌∙◌, ap}
use mathlib.Core.List.{List, append-nil}
use Prim.Native.Nat.{suc, ◌+◌, ◌-◌}
use native.Mathlib.Omega.{arith}
use lib.IntN.{ℤ}
use lib.ListN.{length, take, drop}
use Rattle.lists.specs.Slice.{filled}
use Rattle.lists.proofs.Slices.{filled_nil}
use Rattle.valuation.specs.Valuation.{plan_valuation}
use Rattle.encoder.proofs.Laws.{before, row_is, next_row, next_history}
use Rattle.encoder.proofs.write_valuation.Goals as goal

pub loop-a-init : goal.loop-a-init
loop-a-init c = (omega arith, refl, sym (filled_nil _))

pub loop-t-init : goal.loop-t-init
loop-t-init c = (omega arith, refl, λ z₀ l e. e)

pub loop-t-preserved : goal.loop-t-preserved
loop-t-preserved c =
    let turn = c.loop-t in
    let s = c.args.s.sizes in
    let p = c.args.p.now in
    let at = c.first_entry-at.result in (
      omega (arith, c.loop-t-test.true),
      omega arith,
      λ z₀ l e.
          next_row s p c.loop-a.a turn.t at turn.z z₀ c.write_agent.new.z c.first_entry-at.ensures.0 (turn.invariant.2 z₀ l e)
          (omega (arith, turn.invariant.1, l))
          (c.write_agent.ensures ∙ ap (λ (out : List ℤ). filled out (take (length turn.z - at) (drop at turn.z))) (row_is s p c.loop-a.a turn.t (at + 1) c.from.result (omega (arith, c.first_entry-at.ensures.0)) c.from.ensures)),
    )

-- after an agent's last time the next agent's first
pub loop-a-preserved : goal.loop-a-preserved
loop-a-preserved c =
    let s = c.args.s.sizes in
    let p = c.args.p.now in
    let e : c.loop-t.t ≡ suc s.m = omega (arith, c.loop-t.invariant.0, c.loop-t-test.false) in (
      omega (arith, c.loop-a-test.true),
      c.loop-t.invariant.1 ∙ c.loop-a.invariant.1,
      c.loop-t.invariant.2 c.args.z.now c.loop-a.invariant.1 c.loop-a.invariant.2
          ∙ ap (λ (out : List ℤ). filled out c.args.z.now) (ap (before s p c.loop-a.a) e ∙ next_history s p c.loop-a.a),
    )

pub shape_of-z : goal.shape_of-z
shape_of-z c = c.loop-a.invariant.1

pub returns : goal.returns
unfolding plan_valuation
returns c =
    let e : c.loop-a.a ≡ c.args.s.sizes.k = omega (arith, c.loop-a.invariant.0, c.loop-a-test.false) in
    (rw e at c.loop-a.invariant.2) ∙ ap (λ (out : List ℤ). filled out c.args.z.now) (append-nil _)
