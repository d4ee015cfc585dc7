-- The conditions as the code tests them.
use mathlib.Core.Path.{◌≡◌, refl, ap, ◌∙◌}
use mathlib.Core.Logic.{◌≢◌}
use mathlib.Core.Bool.{Bool, true, false, not, ◌&&◌, ◌||◌}
use Prim.Native.Nat.{ℕ, zero, suc, ◌+◌, ◌^◌}
use native.Mathlib.Numerals.{add-one}
use borrow.Author.Tests.{eq-eqb, ne_eqb}
use lib.Dec.{eqb}
use Rattle.std.specs.Prelude.{Option, is_none}
use lib.Bits.{bit_or}
use Rattle.bits.specs.Bits.{set?}
use Rattle.bits.proofs.Bits.{bit_zero, set_or, set_pow}
use Rattle.answers.specs.Fault.{FirstFailing}
use Rattle.answers.proofs.Faults.{failing_every}
use Rattle.instance.specs.declared.Sizes.{Sizes}
use Rattle.conditions.specs.Inside.{Standing}
use Rattle.plan.specs.Plan.{Row, condition, condition1, condition2, condition3}

not_or : (x y : Bool) → not (x || y) ≡ not x && not y
not_or true y = refl
not_or false y = refl

module _ (here next : Row) (a : ℕ) where
  pub keeps_1 : (near : ℕ → ℕ → Bool) → here a ≡ next a → true ≡ condition1 near here next a
  unfolding condition1
  keeps_1 near e = rw (eq-eqb (here a) (next a) e)

  pub crosses_1 : (near : ℕ → ℕ → Bool) → (here a ≡ next a → ⊥) → (r : Bool) → r ≡ near (here a) (next a) → r ≡ condition1 near here next a
  unfolding condition1
  crosses_1 near d r e = rw (ne_eqb (here a) (next a) d) e

  pub keeps_2 : (s : Sizes) → here a ≡ next a → true ≡ condition2 s here next a
  unfolding condition2
  keeps_2 s e = rw (eq-eqb (here a) (next a) e)

  pub enters_2 : (s : Sizes) → s.rule ≢ 2 → (here a ≡ next a → ⊥) → (word : ℕ) → Standing here s.k word → not (set? word (next a)) ≡ condition2 s here next a
  unfolding condition2
  enters_2 s one d word stood = rw (ne_eqb (here a) (next a) d, ne_eqb s.rule 2 one) (stood (next a))

  pub exchanges_2 : (s : Sizes) → s.rule ≡ 2 → (here a ≡ next a → ⊥) → (r : Option ℕ)
      → FirstFailing s.k (λ b. not (eqb (here b) (next a) && eqb (next b) (here a))) r → is_none r ≡ condition2 s here next a
  unfolding condition2
  exchanges_2 s two d r f = rw (ne_eqb (here a) (next a) d, eq-eqb s.rule 2 two) (failing_every s.k _ r f)

pub shares_3 : (next : Row) (a word : ℕ) → Standing next a word → not (set? word (next a)) ≡ condition3 next a
unfolding condition3
shares_3 next a word taken = taken (next a)

-- the word of no agents, and of one more
pub standing_none : (here : Row) → Standing here 0 0
standing_none here v = rw (bit_zero v)

pub standing_next : (here : Row) (a word v more : ℕ) → Standing here a word → v ≡ here a → more ≡ bit_or word (2 ^ v) → Standing here (a + 1) more
standing_next here a word v more h e f w =
    rw (add-one a, f, e, set_or word (2 ^ here a) w, set_pow (here a) w) (not_or (set? word w) (eqb (here a) w) ∙ ap (λ (x : Bool). x && not (eqb (here a) w)) (h w))

-- a bit that was asked for by a number equal to it
pub unset : (word : ℕ) {v w : ℕ} {r : Bool} → v ≡ w → r ≡ set? word v → not r ≡ not (set? word w)
unset word e f = rw (f, e)

-- a higher number than 1 is that of condition 3
pub condition_last : (s : Sizes) (near : ℕ → ℕ → Bool) (which : ℕ) (here next : Row) (a : ℕ) → which ≢ 0 → which ≢ 1 → condition3 next a ≡ condition s near which here next a
condition_last s near zero here next a d e = absurd (d refl)
condition_last s near (suc zero) here next a d e = absurd (e refl)
condition_last s near (suc (suc which)) here next a d e = refl
