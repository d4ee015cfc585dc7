-- `ceiling_decoder::all_right` meets its contract: where the loop says yes, each entry before its own passed. Assumes nothing.
use mathlib.Core.Path.{◌≡◌, sym, ◌∙◌, ap₂, subst}
use mathlib.Core.Bool.{◌||◌}
use mathlib.Core.Logic.{by_cases}
use Prim.Native.Nat.{ℕ}
use native.Mathlib.Numerals.{add-one}
use native.Mathlib.Decide.{dec_lt}
use native.Mathlib.Omega.{arith}
use lib.Dec.{T}
use Rattle.lists.proofs.Tests.{and_iff}
use Rattle.valuation.specs.Valuation.{same_number, right_entry}
use borrow.Author.Rules.{sfits_of}
use mir.Syntax.{w32}
use mir.Facts.{to_z-of_z}
use lib.ListN.{get_or}
use lib.IntN.{ℤ, pos, neg_ℤ}
use Rattle.ceiling_decoder.proofs.all_right.Goals as goal

pub loop-i-init : goal.loop-i-init
loop-i-init c = (omega arith, omega arith, λ t h l r. absurd (let f : ⊥ = omega arith in f))

pub loop-i-preserved : goal.loop-i-preserved
loop-i-preserved c = (
  omega arith,
  omega arith,
  λ t h l r.
      let (x, y) = (and_iff c.loop-i.all c.is_entry-all.result).0 t in
      let stored = to_z-of_z {w = w32} (sfits_of {z = get_or c.args.entries.now c.loop-i.i (pos 0)} c.e-1.given) in
      let asked : c.is_entry-all.result ≡ right_entry c.args.entries.now c.loop-i.i =
      c.is_entry-all.ensures ∙ ap₂ (λ (z : ℤ) (x : ℕ). same_number z (pos x) || same_number z (neg_ℤ (pos x))) stored (add-one c.loop-i.i) in
      by_cases (dec_lt h c.loop-i.i)
      (λ q. c.loop-i.invariant.2 x h l q)
      (λ q.
      let e : h ≡ c.loop-i.i = omega arith in
      subst (λ (z : ℕ). T (right_entry c.args.entries.now z)) (sym e) (subst T asked y)),
)

pub returns : goal.returns
returns c = λ t i l r. c.loop-i.invariant.2 t i l (omega arith)
