-- Signed numbers as they are stored; a comparison of two of them.
use mathlib.Core.Path.{◌≡◌, refl, sym, ◌∙◌, ap, ap₂}
use Prim.Native.Nat.{ℕ, zero, suc, ◌+◌, ◌≤◌}
use mathlib.Core.Logic.{by_cases}
use native.Mathlib.Decide.{ℕ_discrete}
use native.Mathlib.Omega.{arith}
use mathlib.Core.Bool.{true, false}
use borrow.Author.Tests.{eq-eqb, ne_eqb}
use lib.Dec.{lit<, eqb}
use lib.IntN.{ℤ, pos, negsuc, neg_ℤ, ◌-ℤ◌, +ℤ_idl, neg_ℤ-+ℤ}
use mir.Syntax.{w32}
use mir.Val.{SFits, to_z, of_z}
use mir.Facts.{to_z_pos, to_z-of_z}
use Rattle.formula.specs.Variables.{highest}
use Rattle.valuation.specs.Valuation.{same_number}

-- numbers that fit 32 bits with a sign
pub pos_fits : {x : ℕ} → x ≤ highest → SFits w32 (pos x)
pos_fits h = record { sfits = omega arith }

pub neg_fits : (x : ℕ) → x ≤ highest → SFits w32 (neg_ℤ (pos x))
neg_fits zero h = record { sfits = lit< tt }
neg_fits (suc n) h = record { sfits = omega arith }

pub neg_is : (x : ℕ) → x ≤ highest → pos 0 -ℤ to_z w32 x ≡ neg_ℤ (pos x)
neg_is x h = ap (λ (z : ℤ). pos 0 -ℤ z) (to_z_pos w32 {n = x} (omega arith)) ∙ +ℤ_idl (neg_ℤ (pos x))

-- a negative as it is stored, less a number
pub neg_less : (z : ℤ) (x y : ℕ) → SFits w32 z → z ≡ neg_ℤ (pos x) → x + y ≤ highest → to_z w32 (of_z w32 z) -ℤ to_z w32 y ≡ neg_ℤ (pos (x + y))
neg_less z x y f e h =
    ap₂ (λ (a b : ℤ). a -ℤ b) (to_z-of_z f ∙ e) (to_z_pos w32 {n = y} (omega arith)) ∙ sym (neg_ℤ-+ℤ (pos x) (pos y))

-- what a test of two stored numbers says of the numbers
pub same : {a b : ℤ} → SFits w32 a → SFits w32 b → of_z w32 a ≡ of_z w32 b → a ≡ b
same fa fb e = sym (to_z-of_z fa) ∙ ap (to_z w32) e ∙ to_z-of_z fb

pub same_true : (a b : ℤ) → a ≡ b → same_number a b ≡ true
same_true (pos a) b e = rw (← e) (eq-eqb a a refl)
same_true (negsuc a) b e = rw (← e) (eq-eqb a a refl)

pub same_false : (a b : ℤ) → (a ≡ b → ⊥) → same_number a b ≡ false
same_false (pos a) (pos b) d = ne_eqb a b (λ e. d (ap pos e))
same_false (pos a) (negsuc b) d = refl
same_false (negsuc a) (pos b) d = refl
same_false (negsuc a) (negsuc b) d = ne_eqb a b (λ e. d (ap negsuc e))

-- the test that is made of the stored numbers is that of the numbers
pub bits_same : (a b : ℤ) → SFits w32 a → SFits w32 b → eqb (of_z w32 a) (of_z w32 b) ≡ same_number a b
bits_same a b fa fb =
    by_cases (ℕ_discrete (of_z w32 a) (of_z w32 b))
    (λ e. eq-eqb _ _ e ∙ sym (same_true a b (same fa fb e)))
    (λ d. ne_eqb _ _ d ∙ sym (same_false a b (λ e. d (ap (of_z w32) e))))
