-- The pairs, from their laws; where a clause of D or E stands, from the lengths of what stands before it.
use mathlib.Core.Path.{◌≡◌, refl, sym, ◌∙◌, ap}
use mathlib.Core.Logic.{◌↔◌}
use mathlib.Core.List.{List, [], ◌∷◌}
use Prim.Native.Nat.{ℕ, suc, ◌+◌, ◌*◌, ◌-◌, ◌≤◌, ◌<◌}
use native.Mathlib.Nat.{mul_assoc}
use native.Mathlib.Omega.{arith}
use lib.ListN.{length, get_or}
use Rattle.lists.specs.Loop.{for, each, sum, pairs}
use Rattle.lists.specs.Pairs.{pair_list, pairs_below}
use Rattle.lists.proofs.Loops.{for_length, each_for, each_when}
use Rattle.lists.proofs.Blocks.{place_lt, nested_get_or}
use Rattle.lists.proofs.Sums.{for_at}
use Rattle.lists.proofs.Pairs.{pairs_below_lem, above_one, above_get_or, pair_some, pair_within, greatest_low}
use Rattle.instance.specs.Instance.{Instance, Counted}
use Rattle.formula.specs.Variables.{Literal, ¬X}
use Rattle.formula.specs.Formula.{Clause, no_two, D, E, clauses}
use Rattle.formula.proofs.Blocks.{stored, clauses_stored}
use Rattle.formula.proofs.Counts.{count_A, count_B, count_C, count_D}
use Rattle.formula.proofs.Places.{two_length, two_get_or}
use Rattle.claims.specs.Pairs.{Items, Families, Claim}

module _ (n : ℕ) where
  whole : length (pair_list n) ≡ pairs n
  unfolding pair_list
  whole = above_one n (λ v w. (v, w))

  at : (v w : ℕ) → v < w → w < n → get_or (pair_list n) (pairs_below n v + (w - suc v)) (0, 0) ≡ (v, w)
  unfolding pair_list
  at = above_get_or n (λ v w. (v, w)) (0, 0)

  greatest : (p v : ℕ) → p < pairs n → v < n → (pairs_below n v ≤ p) ↔ (v ≤ (get_or (pair_list n) p (0, 0)).0)
  greatest p v l h =
      let (low, high, o, r, e) = pair_some n p l in
      let z : (get_or (pair_list n) p (0, 0)).0 ≡ low = ap (λ (x : ℕ). (get_or (pair_list n) x (0, 0)).0) e ∙ ap (λ (q : ℕ × ℕ). q.0) (at low high o r) in
      rw z (greatest_low n p low high v o r e h)

  items : Items n
  items =
      record {
        below = λ v l. pairs_below_lem n v (omega arith);
        whole = whole;
        place = λ v w o l.
            let e : w - v - 1 ≡ w - suc v = omega arith in
            rw e (at v w o l);
        greatest = greatest;
      }

  -- a clause for each pair
  by_pairs : (¬x : ℕ → Literal) → no_two n ¬x ≡ each (λ p. (¬x p.0 ∷ ¬x p.1 ∷ []) ∷ []) (pair_list n)
  unfolding pair_list
  by_pairs ¬x = sym (simp (each_for, each_when) refl)

module _ (I : Instance) (w : Counted I) where
  open I use {sizes}
  open sizes use {n, k, m}

  abbrev by : ℕ → List Clause
  by = stored I

  -- family j has for each time b blocks of the pairs of c items, and `before` clauses stand before it
  numbered : (j b c before : ℕ) (¬x : ℕ → ℕ → ℕ → Literal) → j < 7 → before ≡ sum j (λ u. length (by u)) → by j ≡ for (suc m) (λ t. for b λ x. no_two c (¬x t x))
      → (t x v w : ℕ) → t ≤ m → x < b → v < w → w < c
      → get_or (clauses I) (before + ((t * b + x) * pairs c + (pairs_below c v + (w - v - 1)))) [] ≡ ¬x t x v ∷ ¬x t x w ∷ []
  numbered j b c before ¬x h e f t x v w p q o l =
      let z : w - v - 1 ≡ w - suc v = omega arith in
      let place : ℕ = pairs_below c v + (w - suc v) in
      let i : ℕ = (t * b + x) * pairs c + place in
      let len : length (by j) ≡ suc m * (b * pairs c) =
      ap length f ∙ for_length (suc m) (b * pairs c) _ (λ t l. for_length b (pairs c) _ (λ x l. two_length c (¬x t x))) in
      let r : i < suc m * b * pairs c = place_lt (suc m * b) (pairs c) (t * b + x) place (place_lt (suc m) b t x (omega arith) q) (pair_within c v w o l) in
      rw (z, e)
      (ap (λ (L : List Clause). get_or L (sum j (λ u. length (by u)) + i) []) (clauses_stored I)
      ∙ for_at 7 by [] j i h (omega (arith, len, mul_assoc (suc m) b (pairs c)))
      ∙ ap (λ (L : List Clause). get_or L i []) f
      ∙ nested_get_or (suc m) b (pairs c) (λ t x. no_two c (¬x t x)) [] (λ t x. two_length c (¬x t x)) t x place (omega arith) q (pair_within c v w o l)
      ∙ two_get_or c (¬x t x) v w o l)

  families : Families I
  unfolding D E
  families =
      record {
        vertices = λ t a. by_pairs n _;
        agents = λ t v. by_pairs k _;
        in_d = numbered 3 k n _ (λ t a. ¬X sizes t a) (omega arith) (omega (arith, count_A I, count_B I w, count_C I)) refl;
        in_e = numbered 4 n k _ (λ t v a. ¬X sizes t a v) (omega arith) (omega (arith, count_A I, count_B I w, count_C I, count_D I)) refl;
      }

pub pairs_claim : Claim
pairs_claim = record { items = items; families = families }
