-- The closed counts are the lengths of the lists of clauses and words.
use mathlib.Core.Path.{◌≡◌, refl, sym, ◌∙◌, ap, ap₂}
use mathlib.Core.List.{[], ◌∷◌, append-nil}
use mathlib.Core.Bool.{Bool, true, false, not, cond}
use Prim.Native.Nat.{ℕ, suc, ◌+◌, ◌*◌, ◌-◌, ◌<◌}
use native.Mathlib.Nat.{mul-one, mul_comm, mul_assoc, mul_left_comm}
use native.Mathlib.Numerals.{add-one}
use native.Mathlib.Omega.{arith}
use lib.ListN.{length, length-append}
use lib.Dec.{eqb}
use lib.IntN.{ℤ}
use Rattle.lists.specs.Loop.{for, when, each, pairs}
use Rattle.lists.proofs.Loops.{for_length, each_for, each_append, each_when}
use Rattle.lists.proofs.Blocks.{for1_length}
use Rattle.lists.proofs.Sums.{ind, for_sum, sum_ext, sum_const, sum_mul, sum_add, others_length}
use Rattle.lists.proofs.Pairs.{above_length, above_one}
use Rattle.instance.specs.declared.Sizes.{Sizes}
use Rattle.instance.specs.Instance.{Instance, following, free, adjacent, degree, Edges, Counted}
use Rattle.instance.proofs.Goals.{goal_count_lem, goals_once}
use Rattle.instance.proofs.Graph.{for_neighbours, handshake}
use Rattle.formula.specs.Variables.{X}
use Rattle.formula.specs.Formula.{Clause, A, B, C, D, E, F, G, no_following, exchange, no_exchange, clauses, formula, line, words}
use Rattle.formula.specs.Counts.{clauses_by, words_by, clause_count, word_count, largest_sizes, most_words}

pub one_line : (c : Clause) → length (each line (c ∷ [])) ≡ suc (length c)
one_line c = ap length (append-nil (line c)) ∙ length-append c _ ∙ add-one (length c)

-- c words for each of x * y * z clauses
multiplied : (c x y z : ℕ) → x * (y * (z * c)) ≡ c * (x * y * z)
multiplied c x y z = simp (mul_comm, mul_left_comm)

-- the words of a clause of one literal that stands where a test holds
pub unit_words : (b : Bool) (x y : ℤ) → length (when b (x ∷ y ∷ [])) ≡ ind b * 2
unit_words true x y = refl
unit_words false x y = refl

-- G under rule 2: of one edge, for agent a, and for all agents
module _ (s : Sizes) (t u v : ℕ) where
  open s use {k}

  pub exchange_agents : (a : ℕ) → a < k → length (for k λ b. when (not (eqb a b)) (exchange s t u v a b ∷ [])) ≡ k - 1
  exchange_agents a r = others_length k 1 a r _ (λ b h. refl) ∙ mul-one (k - 1)

  pub count_exchange : length (no_exchange s t u v) ≡ k * (k - 1)
  count_exchange = for_length k (k - 1) _ exchange_agents

module _ (I : Instance) where
  open I use {sizes, low, high, goal}
  open sizes use {n, k, e, m}

  -- ---- clauses
  pub count_A : length (A I.sizes I.start) ≡ (clauses_by sizes).A
  unfolding A
  count_A = for1_length k _

  pub count_B : Counted I → length (B I.sizes I.goal) ≡ (clauses_by sizes).B
  unfolding B
  count_B w = goals_once goal k (λ a. X sizes m a (goal a) ∷ []) ∙ sym w

  pub count_C : length (C I.sizes) ≡ (clauses_by sizes).C
  unfolding C
  count_C = for_length (suc m) k _ (λ t l. for1_length k _)

  pub count_D : length (D I.sizes) ≡ (clauses_by sizes).D
  unfolding D
  count_D =
      for_length (suc m) _ _ (λ t l. for_length k (pairs n) _ (λ a l. above_one n _))
      ∙ sym (mul_assoc (suc m) k (pairs n))

  pub count_E : length (E I.sizes) ≡ (clauses_by sizes).E
  unfolding E
  count_E =
      for_length (suc m) _ _ (λ t l. for_length n (pairs k) _ (λ v l. above_one k _))
      ∙ sym (mul_assoc (suc m) n (pairs k))

  pub count_F : length (F I.sizes (adjacent I)) ≡ (clauses_by sizes).F
  unfolding F
  count_F = for_length m (k * n) _ (λ t l. for_length k n _ (λ a l. for1_length n _)) ∙ sym (mul_assoc m k n)

  count_by : (f : Bool) → length (cond f (for m λ t. for e λ j. no_exchange sizes t (low j) (high j)) (for m λ t. for k λ a. no_following sizes t a))
      ≡ cond f (m * e * (k * (k - 1))) (m * k * (k - 1) * n)
  count_by true =
      for_length m _ _ (λ t l. for_length e _ _ (λ j r. count_exchange sizes t (low j) (high j))) ∙ sym (mul_assoc m e (k * (k - 1)))
  count_by false =
      for_length m _ _ (λ t l. for_length k _ _ (λ a r. others_length k n a r _ (λ b h. for1_length n _)))
      ∙ sym (ap (λ x. x * n) (mul_assoc m k (k - 1)) ∙ mul_assoc m (k * (k - 1)) n ∙ ap (λ x. m * x) (mul_assoc k (k - 1) n))

  pub count_G : length (G I.sizes I.low I.high) ≡ (clauses_by sizes).G
  unfolding G
  count_G = count_by (following sizes)

  pub clause_count_lem : Counted I → length (clauses I) ≡ clause_count sizes
  unfolding clauses clause_count
  clause_count_lem w = simp (length-append, count_A, count_B w, count_C, count_D, count_E, count_F, count_G)

  -- ---- words
  pub words_A : length (each line (A I.sizes I.start)) ≡ (words_by sizes).A
  unfolding A
  words_A = simp each_for (for_length k 2 _ (λ a l. refl) ∙ mul_comm k 2)

  pub words_B : Counted I → length (each line (B I.sizes I.goal)) ≡ (words_by sizes).B
  unfolding B
  words_B w =
      simp (each_for, each_when)
      (for_sum k _
      ∙ sum_ext k _ (λ a. ind (not (free (goal a))) * 2) (λ a l. unit_words (not (free (goal a))) _ _)
      ∙ sum_mul k (λ a. ind (not (free (goal a)))) 2
      ∙ mul_comm _ 2
      ∙ ap (λ x. 2 * x) (sym (w ∙ goal_count_lem goal k)))

  pub words_C : length (each line (C I.sizes)) ≡ (words_by sizes).C
  unfolding C
  words_C =
      simp each_for
      (for_length (suc m) _ _ (λ t l. for_length k (n + 1) _ (λ a l. rw (one_line, add-one n) (ap suc (for1_length n (X sizes t a)))))
      ∙ sym (mul_assoc (suc m) k (n + 1)))

  pub words_D : length (each line (D I.sizes)) ≡ (words_by sizes).D
  unfolding D
  words_D =
      simp (each_for, each_when)
      (for_length (suc m) _ _ (λ t l. for_length k (pairs n * 3) _ (λ a l. above_length n 3 _ (λ v w. refl)))
      ∙ multiplied 3 (suc m) k (pairs n))

  pub words_E : length (each line (E I.sizes)) ≡ (words_by sizes).E
  unfolding E
  words_E =
      simp (each_for, each_when)
      (for_length (suc m) _ _ (λ t l. for_length n (pairs k * 3) _ (λ v l. above_length k 3 _ (λ a b. refl)))
      ∙ multiplied 3 (suc m) n (pairs k))

  -- 3 words for each vertex beside its neighbours, which the handshake counts
  pub words_F : Edges I → length (each line (F I.sizes (adjacent I))) ≡ (words_by sizes).F
  unfolding F
  words_F g =
      simp each_for
      (for_length m _ _ (λ t l. for_length k (3 * n + 2 * e) _ (λ a l.
      for_sum n _
      ∙ sum_ext n _ (λ v. 3 + degree I v) (λ v l. rw one_line (omega (arith, for_neighbours I v (X sizes (suc t) a))))
      ∙ sum_add n (λ v. 3) (degree I)
      ∙ ap₂ ◌+◌ (sum_const n 3 ∙ mul_comm n 3) (handshake I g)))
      ∙ sym (mul_assoc m k (3 * n + 2 * e)))

  words_by_lem : (f : Bool)
      → length (each line (cond f (for m λ t. for e λ j. no_exchange sizes t (low j) (high j)) (for m λ t. for k λ a. no_following sizes t a)))
      ≡ cond f 5 3 * cond f (m * e * (k * (k - 1))) (m * k * (k - 1) * n)
  words_by_lem true =
      simp (each_for, each_when)
      (for_length m _ _ (λ t l. for_length e _ _ (λ j r. for_length k _ _ (λ a q. others_length k 5 a q _ (λ b h. refl)) ∙ sym (mul_assoc k (k - 1) 5)))
      ∙ multiplied 5 m e (k * (k - 1)))
  words_by_lem false =
      simp (each_for, each_when)
      (for_length m _ _ (λ t l. for_length k _ _ (λ a r. others_length k (n * 3) a r _ (λ b h. for_length n 3 _ (λ v l. refl))))
      ∙ ap (λ x. m * x) (sym (mul_assoc k (k - 1) (n * 3)))
      ∙ multiplied 3 m (k * (k - 1)) n
      ∙ ap (λ x. 3 * (x * n)) (sym (mul_assoc m k (k - 1))))

  pub words_G : length (each line (G I.sizes I.low I.high)) ≡ (words_by sizes).G
  unfolding G
  words_G = words_by_lem (following sizes)

  pub word_count_lem : Edges I → Counted I → length (words (formula I)) ≡ word_count sizes
  unfolding words clauses word_count
  word_count_lem g w = simp (each_append, length-append, words_A, words_B w, words_C, words_D, words_E, words_F g, words_G)

-- the largest formula under each rule
pub largest : (rule : ℕ) → word_count (largest_sizes rule) ≡ most_words (largest_sizes rule)
unfolding word_count
largest rule = by_rule_lem (following (largest_sizes rule))
  where
    by_rule_lem : (f : Bool) → 6_150_736 + cond f 5 3 * cond f 15_482_880 491_520 ≡ cond f 83_565_136 7_625_296
    by_rule_lem true = refl
    by_rule_lem false = refl
