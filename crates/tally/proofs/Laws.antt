-- Laws of the record: when it takes one answer more, and what one more makes of its counts.
use mathlib.Core.Path.{◌≡◌, sym, ◌∙◌, ap}
use mathlib.Core.Logic.Iff
use mathlib.Core.Logic.{◌↔◌, by_cases}
use mathlib.Core.List.{List}
use Prim.Native.Nat.{ℕ, ◌+◌, ◌*◌, ◌≤◌, ◌<◌}
use native.Mathlib.Nat.{add-zero}
use native.Mathlib.Decide.{ℕ_discrete}
use native.Mathlib.Omega.{arith}
use borrow.Author.Tests.{eq-eqb, ne_eqb}
use lib.ListN.{length, get_or, set}
use lib.Seq.{get_or-set_same, get_or-set_other}
use lib.Dec.{T, eqb}
use Rattle.lists.specs.Loop.{sum}
use Rattle.lists.proofs.Tests.{and_iff, ltb_iff, leb_iff}
use Rattle.lists.proofs.Sums.{ind, sum_ext, sum_le, sum_add, sum_one}
use Rattle.tally.specs.declared.Tally.{Tally}
use Rattle.tally.specs.Tally.{under, total, takes_more, with_pass, with_refusal}

pub takes_iff : (t : Tally) → T (takes_more t) ↔ ((total t < 65535) × (t.sum ≤ 512 * t.passed))
unfolding takes_more
takes_iff t = simp (and_iff, ltb_iff, leb_iff) Iff.rfl

-- ---- the counts and their total
pub passed_most : (t : Tally) → t.passed ≤ total t
unfolding total
passed_most t = omega arith

pub under_most : (t : Tally) (q : ℕ) → q < 36 → under t q ≤ total t
unfolding total
under_most t q l = omega (arith, sum_le 36 (under t) q l)

-- one more at place q of a list of counts
pub one_more : (l : List ℕ) (q i : ℕ) → q < length l → get_or (set l q (get_or l q 0 + 1)) i 0 ≡ get_or l i 0 + ind (eqb q i)
one_more l q i h =
    by_cases (ℕ_discrete q i)
    (λ e. rw (eq-eqb q i e) (ap (λ (j : ℕ). get_or (set l q (get_or l q 0 + 1)) j 0) (sym e) ∙ get_or-set_same l q _ 0 h ∙ ap (λ (j : ℕ). get_or l j 0 + 1) e))
    (λ d. rw (ne_eqb q i d, add-zero) (get_or-set_other l q i _ 0 (λ e. d (sym e))))

sum_more : (n : ℕ) (l : List ℕ) (q : ℕ) → q < n → q < length l → sum n (λ i. get_or (set l q (get_or l q 0 + 1)) i 0) ≡ sum n (λ i. get_or l i 0) + 1
sum_more n l q a h =
    sum_ext n _ _ (λ i r. one_more l q i h)
    ∙ sum_add n (λ i. get_or l i 0) (λ i. ind (eqb q i))
    ∙ ap (λ (x : ℕ). sum n (λ i. get_or l i 0) + x) (sum_one n q a)

pub total_pass : (t : Tally) (cost : ℕ) → total (with_pass t cost) ≡ total t + 1
unfolding total with_pass
total_pass t cost = omega arith

grown : (a s r : ℕ) → r ≡ s + 1 → a + r ≡ a + s + 1
grown a s r e = omega arith

pub total_refusal : (t : Tally) (q : ℕ) → q < 36 → length t.refused ≡ 36 → total (with_refusal t q) ≡ total t + 1
unfolding total with_refusal
total_refusal t q l e = grown t.passed _ _ (sum_more 36 t.refused q l (rw e l))
