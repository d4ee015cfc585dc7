-- How many words a block has at most, but for G's under rule 2: as many as one of D with 64 vertices.
use mathlib.Core.Path.{◌≡◌, refl}
use mathlib.Core.Logic.{◌≢◌}
use mathlib.Core.Bool.{Bool, true, false, not}
use mathlib.Core.List.{List, [], ◌∷◌}
use Prim.Native.Nat.{ℕ, zero, suc, ◌*◌, ◌≤◌}
use native.Mathlib.Nat.{suc-mul, le_refl}
use native.Mathlib.Omega.{arith}
use borrow.Author.Tests.{ne_eqb}
use lib.ListN.{length, length-append}
use lib.Dec.{eqb}
use Rattle.lists.specs.Loop.{for, when, each, pairs}
use Rattle.lists.proofs.Loops.{each_for, each_when}
use Rattle.lists.proofs.Blocks.{for1_length}
use Rattle.lists.proofs.Pairs.{pairs_most, above_length}
use Rattle.instance.specs.Instance.{free}
use Rattle.instance.specs.Limits.{Limits}
use Rattle.formula.specs.Variables.{Literal, X, ¬X}
use Rattle.formula.specs.Formula.{Clause, line, no_two, somewhere, onward}
use Rattle.formula.specs.Blocks.{Given, block}
use Rattle.formula.proofs.Counts.{one_line}
use Rattle.families.specs.Runs.{apart}

for_most : {A : Type 0} (n c : ℕ) (f : ℕ → List A) → ((i : ℕ) → length (f i) ≤ c) → length (for n f) ≤ n * c
for_most zero c f h = omega arith
for_most (suc n) c f h = omega (arith, length-append (for n f) (f n), for_most n c f h, h n, suc-mul n c)

when_most : {A : Type 0} (b : Bool) (l : List A) → length (when b l) ≤ length l
when_most true l = le_refl _
when_most false l = omega arith

lines_most : (n c : ℕ) (f : ℕ → List Clause) → ((i : ℕ) → length (each line (f i)) ≤ c) → length (each line (for n f)) ≤ n * c
lines_most n c f h = rw (each_for line n f) (for_most n c (λ i. each line (f i)) h)

no_two_lem : (n : ℕ) (¬x : ℕ → Literal) → length (each line (no_two n ¬x)) ≡ pairs n * 3
no_two_lem n ¬x = simp (each_for, each_when) (above_length n 3 _ (λ i j. refl))

module _ (g : Given) (w : Limits g.sizes) where
  open g.sizes use {n, k}

  pub block_most : (j t x : ℕ) → (j ≡ 6 → g.sizes.rule ≢ 2) → length (each line (block g j t x)) ≤ 6048
  unfolding block
  block_most zero t x f = omega arith
  block_most (suc zero) t x f =
      let has = not (free (g.goal x)) in
      let c = (X g.sizes g.sizes.m x (g.goal x) ∷ []) ∷ [] in
      rw (each_when line has c) (omega (arith, when_most has (each line c)))
  block_most (suc (suc zero)) t x f = omega (arith, one_line (somewhere g.sizes t x), for1_length n (X g.sizes t x), w.n_most)
  block_most (suc (suc (suc zero))) t x f = omega (arith, no_two_lem n (¬X g.sizes t x), pairs_most n 64 w.n_most)
  block_most (suc (suc (suc (suc zero)))) t x f = omega (arith, no_two_lem k (λ a. ¬X g.sizes t a x), pairs_most k 16 w.k_most)
  block_most (suc (suc (suc (suc (suc zero))))) t x f =
      omega (arith, lines_most n 67 (λ v. onward g.sizes (g.near v) t x v ∷ []) turn, w.n_most)
    where
      turn : (v : ℕ) → length (each line (onward g.sizes (g.near v) t x v ∷ [])) ≤ 67
      turn v =
          omega (arith, one_line (onward g.sizes (g.near v) t x v), for_most n 1 (λ u. when (g.near v u) (X g.sizes (suc t) x u ∷ [])) (λ u. when_most (g.near v u) (X g.sizes (suc t) x u ∷ [])), w.n_most)
  block_most (suc (suc (suc (suc (suc (suc zero)))))) t x f =
      rw (ne_eqb g.sizes.rule 2 (f refl)) (omega (arith, lines_most k 192 (apart g.sizes t x) turn, w.k_most))
    where
      turn : (b : ℕ) → length (each line (apart g.sizes t x b)) ≤ 192
      turn b =
          let pair : ℕ → List Clause = λ v. (¬X g.sizes t b v ∷ ¬X g.sizes (suc t) x v ∷ []) ∷ [] in
          rw (each_when line (not (eqb x b)) (for n pair))
          (omega (arith, when_most (not (eqb x b)) (each line (for n pair)), lines_most n 3 pair (λ v. le_refl _), w.n_most))
  block_most (suc (suc (suc (suc (suc (suc (suc j))))))) t x f = omega arith
