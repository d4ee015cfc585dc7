-- The counts of the pruned formula are the lengths of its lists.
use mathlib.Core.Path.{◌≡◌, sym, ◌∙◌, ap, ap₂}
use mathlib.Core.Logic.{◌↔◌, ◌⊎◌, inl, inr, ⊎_elim, by_cases}
use mathlib.Core.List.{[], ◌∷◌}
use mathlib.Core.Bool.{Bool, ◌||◌}
use Prim.Native.Nat.{ℕ, zero, suc, ◌+◌, ◌*◌, ◌-◌, ◌≤◌, ◌<◌, min}
use native.Mathlib.Nat.{le_refl, mul_comm, mul_assoc}
use native.Mathlib.Decide.{dec_lt}
use native.Mathlib.Omega.{arith}
use lib.ListN.{length, length-append}
use lib.Dec.{T, ltb, eqb}
use Rattle.lists.specs.Loop.{when, each, sum}
use Rattle.lists.proofs.Tests.{T_ext, or_iff, eqb_iff, ltb_iff}
use Rattle.lists.proofs.Loops.{for_ext, each_for, each_when, each_append}
use Rattle.lists.proofs.Sums.{ind, ind_yes, ind_no, for_sum, sum_ext, sum_mul, sum_swap, when_count, sum_below}
use Rattle.instance.specs.declared.Sizes.{Sizes}
use Rattle.instance.specs.Instance.{Instance, Edges, Counted}
use Rattle.instance.specs.Limits.{Limits}
use Rattle.distances.specs.Distance.{unreachable, further}
use Rattle.formula.specs.Variables.{variable_count, ¬X}
use Rattle.formula.specs.Formula.{clauses, line, words}
use Rattle.formula.specs.Pruned.{too_far, H, count_h, from_start, from_goal, pruned, pruned_clauses, pruned_words}
use Rattle.formula.specs.Counts.{most_words}
use Rattle.formula.proofs.Counts.{unit_words, clause_count_lem, word_count_lem}
use Rattle.formula.proofs.Limits.{words_most, variables_most}

-- ---- one vertex: the first x times are too early, the last y too late
further_lt : (t x : ℕ) → t < unreachable → T (further t x) ↔ (t < x)
further_lt t x h = (
  (λ f. ⊎_elim (λ e. let z = (eqb_iff x unreachable).0 e in omega arith) (λ l. (ltb_iff t x).0 l) ((or_iff (eqb x unreachable) _).0 f)),
  (λ l. (or_iff (eqb x unreachable) _).1 (inr ((ltb_iff t x).1 l))),
)

too_far_iff : (m t x y : ℕ) → m < unreachable → t ≤ m → T (too_far m t x y) ↔ ((t < x) ⊎ (m - t < y))
too_far_iff m t x y h l = (
  (λ f. ⊎_elim (λ p. let z = (further_lt _ x (omega arith)).0 p in inl (omega arith)) (λ p. let z = (further_lt _ y (omega arith)).0 p in inr (omega arith)) ((or_iff (further t x) _).0 f)),
  (λ c.
      (or_iff (further t x) _).1
      (⊎_elim (λ p. inl ((further_lt _ x (omega arith)).1 (omega arith))) (λ p. inr ((further_lt _ y (omega arith)).1 (omega arith))) c)),
)

pub too_far_ltb : (m t x y : ℕ) → m < unreachable → t ≤ m → too_far m t x y ≡ ltb t x || ltb (m - t) y
too_far_ltb m t x y h l =
    T_ext (too_far m t x y) (ltb t x || ltb (m - t) y) (
      (λ f. (or_iff (ltb t x) _).1 (⊎_elim (λ p. inl ((ltb_iff t x).1 p)) (λ p. inr ((ltb_iff (m - t) y).1 p)) ((too_far_iff m t x y h l).0 f))),
      (λ f. (too_far_iff m t x y h l).1 (⊎_elim (λ p. inl ((ltb_iff t x).0 p)) (λ p. inr ((ltb_iff (m - t) y).0 p)) ((or_iff (ltb t x) _).0 f))),
    )

-- time t, where s of the times before it are too early or too late, and i is 1 where t is and 0 where not; the times from z on are
-- too late
module _ (x z t s i : ℕ) where
  turn_far : (t < x) ⊎ (z ≤ t) → i ≡ 1 → s + (min t z - x) ≡ t → s + i + (min (suc t) z - x) ≡ suc t
  turn_far c e h = ⊎_elim (λ p. omega arith) (λ p. omega arith) c

  turn_near : x ≤ t → t < z → i ≡ 0 → s + (min t z - x) ≡ t → s + i + (min (suc t) z - x) ≡ suc t
  turn_near p q e h = omega arith

module _ (m x y : ℕ) (h : m < unreachable) where
  far_yes : (t : ℕ) → t ≤ m → (t < x) ⊎ (m - t < y) → ind (too_far m t x y) ≡ 1
  far_yes t l c = ind_yes (too_far m t x y) ((too_far_iff m t x y h l).1 c)

  far_no : (t : ℕ) → t ≤ m → x ≤ t → y ≤ m - t → ind (too_far m t x y) ≡ 0
  far_no t l p q = ind_no (too_far m t x y) (λ f. ⊎_elim (λ a. omega arith) (λ a. omega arith) ((too_far_iff m t x y h l).0 f))

  -- of the first j times
  far_times : (j : ℕ) → j ≤ suc m → sum j (λ t. ind (too_far m t x y)) + (min j (suc m - y) - x) ≡ j
  far_times zero l = omega arith
  far_times (suc j) l =
      let ih = far_times j (omega arith) in
      by_cases (dec_lt j x)
      (λ p. turn_far x (suc m - y) j _ _ (inl p) (far_yes j (omega arith) (inl p)) ih)
      (λ p.
      by_cases (dec_lt (m - j) y)
      (λ q. turn_far x (suc m - y) j _ _ (inr (late q)) (far_yes j (omega arith) (inr q)) ih)
      (λ q. turn_near x (suc m - y) j _ _ (omega arith) (early q) (far_no j (omega arith) (omega arith) (omega arith)) ih))
    where
      late : m - j < y → suc m - y ≤ j
      late q = omega arith

      early : (m - j < y → ⊥) → j < suc m - y
      early q = omega arith

  far_count : sum (suc m) (λ t. ind (too_far m t x y)) ≡ min (suc m) (x + y)
  far_count = omega (arith, far_times (suc m) (le_refl (suc m)))

-- ---- family H
module _ (s : Sizes) (from to : ℕ → ℕ → ℕ) (h : s.m < unreachable) where
  open s use {n, k, m}

  abbrev test : ℕ → ℕ → ℕ → Bool
  test t a v = too_far m t (from a v) (to a v)

  summed : sum (suc m) (λ t. sum k λ a. sum n λ v. ind (test t a v)) ≡ count_h s from to
  unfolding count_h
  summed =
      sum_swap (suc m) k (λ t a. sum n λ v. ind (test t a v))
      ∙ sum_ext k _ _ (λ a l. sum_swap (suc m) n (λ t v. ind (test t a v)) ∙ sum_ext n _ _ (λ v r. far_count m (from a v) (to a v) h))

  count_H : length (H s from to) ≡ count_h s from to
  unfolding H
  count_H =
      for_sum (suc m) _
      ∙ sum_ext (suc m) _ _ (λ t l. for_sum k _ ∙ sum_ext k _ _ (λ a r. when_count n (test t a) (λ v. ¬X s t a v ∷ [])))
      ∙ summed

  words_H : length (each line (H s from to)) ≡ 2 * count_h s from to
  unfolding H
  words_H =
      simp (each_for, each_when)
      (for_sum (suc m) _
      ∙ sum_ext (suc m) _ (λ t. (sum k λ a. sum n λ v. ind (test t a v)) * 2) (λ t l.
      for_sum k _
      ∙ sum_ext k _ (λ a. (sum n λ v. ind (test t a v)) * 2) (λ a r.
      for_sum n _ ∙ sum_ext n _ (λ v. ind (test t a v) * 2) (λ v q. unit_words (test t a v) _ _) ∙ sum_mul n (λ v. ind (test t a v)) 2)
      ∙ sum_mul k (λ a. sum n λ v. ind (test t a v)) 2)
      ∙ sum_mul (suc m) (λ t. sum k λ a. sum n λ v. ind (test t a v)) 2
      ∙ mul_comm _ 2
      ∙ ap (λ x. 2 * x) summed)

module _ (I : Instance) (h : I.sizes.m < unreachable) where
  open I use {sizes}

  pub pruned_clause_count : Counted I → length (pruned I).clauses ≡ pruned_clauses I
  unfolding pruned_clauses
  pruned_clause_count w = length-append (clauses I) _ ∙ ap₂ ◌+◌ (clause_count_lem I w) (count_H sizes (from_start I) (from_goal I) h)

  pub pruned_word_count : Edges I → Counted I → length (words (pruned I)) ≡ pruned_words I
  unfolding words pruned_words
  pruned_word_count g w =
      ap length (each_append line (clauses I) _)
      ∙ length-append (each line (clauses I)) _
      ∙ ap₂ ◌+◌ (word_count_lem I g w) (words_H sizes (from_start I) (from_goal I) h)

-- ---- distances that agree give the same family, and as many clauses
module _ (s : Sizes) (from to from' to' : ℕ → ℕ → ℕ) where
  open s use {n, k, m}

  module _ (f : (a : ℕ) → a < k → (v : ℕ) → v < n → from a v ≡ from' a v) (g : (a : ℕ) → a < k → (v : ℕ) → v < n → to a v ≡ to' a v) where
    pub H_ext : H s from to ≡ H s from' to'
    unfolding H
    H_ext =
        for_ext (suc m) _ _ (λ t l. for_ext k _ _ (λ a r. for_ext n _ _ (λ v q.
        ap₂ (λ (x y : ℕ). when (too_far m t x y) ((¬X s t a v ∷ []) ∷ [])) (f a r v q) (g a r v q))))

    pub count_H_ext : count_h s from to ≡ count_h s from' to'
    unfolding count_h
    count_H_ext = sum_ext k _ _ (λ a r. sum_ext n _ _ (λ v q. ap₂ (λ (x y : ℕ). min (suc m) (x + y)) (f a r v q) (g a r v q)))

-- ---- at most two words more for each variable
count_H_most : (s : Sizes) (from to : ℕ → ℕ → ℕ) → count_h s from to ≤ s.k * (s.n * suc s.m)
unfolding count_h
count_H_most s from to =
    sum_below s.k (s.n * suc s.m) _ (λ a l. sum_below s.n (suc s.m) _ (λ v r. omega arith))

pub pruned_words_most : (I : Instance) → Limits I.sizes → pruned_words I ≤ most_words I.sizes + 67_584
unfolding pruned_words
pruned_words_most I w =
    let e : I.sizes.k * (I.sizes.n * suc I.sizes.m) ≡ variable_count I.sizes = sym (mul_assoc I.sizes.k I.sizes.n (suc I.sizes.m)) ∙ ap (λ (x : ℕ). x * suc I.sizes.m) (mul_comm I.sizes.k I.sizes.n) in
    omega (arith, words_most I.sizes w, variables_most I.sizes w, count_H_most I.sizes (from_start I) (from_goal I), e)
