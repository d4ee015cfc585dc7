-- The closed counts are the lengths of the lists.
use mathlib.Core.Path.{◌≡◌, refl, sym, ◌∙◌, ap, ap₂}
use mathlib.Core.Logic.{by_cases}
use mathlib.Core.List.{List, [], ◌∷◌}
use mathlib.Core.Bool.{Bool, true, false, cond}
use Prim.Native.Nat.{ℕ, zero, suc, ◌+◌, ◌*◌, ◌-◌, ◌/◌, ◌≤◌, min}
use native.Mathlib.Nat.{suc-mul, mul-suc, mul_assoc, mul-add, mul-le-mul, zero-lt-suc, zero-add}
use native.Mathlib.Decide.{dec_lt}
use native.Mathlib.Omega.{arith}
use borrow.Author.Tests.{lt-ltb}
use lib.ListN.{length, length-append}
use lib.Dec.{ltb}
use lib.IntN.{ℤ}
use Rattle.lists.specs.Loop.{when, each, sum}
use Rattle.lists.proofs.Loops.{for_length, each_append, each_for}
use Rattle.lists.proofs.Sums.{for_sum, sum_ext, sum_const}
use Rattle.lists.proofs.Blocks.{for2_length, for3_length}
use Rattle.instance.specs.declared.Sizes.{Sizes}
use Rattle.instance.specs.Instance.{Instance, Edges, Counted}
use Rattle.instance.specs.Limits.{Limits}
use Rattle.formula.specs.Formula.{Clause, clauses, line, words}
use Rattle.formula.specs.Counts.{clause_count, word_count, largest_sizes}
use Rattle.formula.proofs.Counts.{clause_count_lem, word_count_lem}
use Rattle.formula.proofs.Limits.{variables_most, agent_steps}
use Rattle.ceiling.specs.Tree.{Tree, input, node, halved, tree_over, inputs, outputs, variables, join, joins, tree_clauses, clauses_in, words_in}
use Rattle.ceiling.proofs.Tree.{tree_one, tree_two, tree_inputs, one_of}
use Rattle.ceiling.specs.Ceiling.{root, moves, chain, counters, limit, added_clauses, added_variables, added_count, added_words, ceiling_variables, ceiling_count, ceiling_words, under_ceiling}

sum_first : (n : ℕ) (f : ℕ → ℕ) → sum (suc n) f ≡ f 0 + sum n (λ i. f (suc i))
sum_first zero f = omega arith
sum_first (suc n) f = omega (arith, sum_first n f)

-- a sum over i from 0 to a and j from 0 to b of what goes by whether i and j are 0
grid : (a b u v w : ℕ) (f : ℕ → ℕ → ℕ) → f 0 0 ≡ 0 → ((j : ℕ) → f 0 (suc j) ≡ u) → ((i : ℕ) → f (suc i) 0 ≡ v) → ((i j : ℕ) → f (suc i) (suc j) ≡ w)
    → sum (suc a) (λ i. sum (suc b) (f i)) ≡ b * u + (a * v + a * b * w)
grid a b u v w f p q r t =
    sum_first a (λ i. sum (suc b) (f i))
    ∙ ap₂ ◌+◌
    (sum_first b (f 0) ∙ ap₂ ◌+◌ p (sum_ext b _ _ (λ j l. q j) ∙ sum_const b u) ∙ zero-add (b * u))
    (sum_ext a _ _ (λ i l. sum_first b (f (suc i)) ∙ ap₂ ◌+◌ (r i) (sum_ext b _ _ (λ j l. t i j) ∙ sum_const b w)) ∙ sum_const a (v + b * w) ∙ mul-add a v (b * w) ∙ ap (λ (x : ℕ). a * v + x) (sym (mul_assoc a b w)))

module _ (c : ℕ) where
  module _ (p q o : ℕ) where
    -- the one clause of i and j, or none
    abbrev cell : ℕ → ℕ → List Clause
    cell i j = when (ltb 0 (i + j)) (join c p q o i j ∷ [])

    closed : (a b : ℕ) → b * 1 + (a * 1 + a * b * 1) ≡ suc a * suc b - 1
    closed a b = rw (suc-mul, mul-suc) (omega arith)

    closed_words : (a b : ℕ) → b * 3 + (a * 3 + a * b * 4) ≡ 3 * (a + b) + 4 * (a * b)
    closed_words a b = omega arith

    pub count_joins : (a b : ℕ) → length (joins c a b p q o) ≡ suc a * suc b - 1
    unfolding joins
    count_joins a b =
        for_sum (suc a) _
        ∙ sum_ext (suc a) _ (λ i. sum (suc b) (λ j. length (cell i j))) (λ i l. for_sum (suc b) (cell i))
        ∙ grid a b 1 1 1 (λ i j. length (cell i j)) refl
        (λ j. rw (lt-ltb 0 (0 + suc j) (omega arith))) (λ i. rw (lt-ltb 0 (suc i + 0) (omega arith))) (λ i j. rw (lt-ltb 0 (suc i + suc j) (omega arith)))
        ∙ closed a b

    pub words_joins : (a b : ℕ) → length (each line (joins c a b p q o)) ≡ 3 * (a + b) + 4 * (a * b)
    unfolding joins join
    words_joins a b =
        ap length (each_for line (suc a) _)
        ∙ for_sum (suc a) _
        ∙ sum_ext (suc a) _ (λ i. sum (suc b) (λ j. length (each line (cell i j)))) (λ i l. ap length (each_for line (suc b) (cell i)) ∙ for_sum (suc b) _)
        ∙ grid a b 3 3 4 (λ i j. length (each line (cell i j))) refl
        (λ j. rw (lt-ltb 0 (0 + suc j) (omega arith), lt-ltb 0 (suc j) (zero-lt-suc j))) (λ i. rw (lt-ltb 0 (suc i + 0) (omega arith), lt-ltb 0 (suc i) (zero-lt-suc i))) (λ i j. rw (lt-ltb 0 (suc i + suc j) (omega arith), lt-ltb 0 (suc i) (zero-lt-suc i), lt-ltb 0 (suc j) (zero-lt-suc j)))
        ∙ closed_words a b

  pub count_tree : (t : Tree) (x y : ℕ) → length (tree_clauses c t x y) ≡ clauses_in c t
  unfolding tree_clauses clauses_in
  count_tree input x y = refl
  count_tree (node l r) x y =
      rw (length-append, length-append, count_tree l x y, count_tree r (x + inputs l) (y + variables c l), count_joins)

  pub words_tree : (t : Tree) (x y : ℕ) → length (each line (tree_clauses c t x y)) ≡ words_in c t
  unfolding tree_clauses words_in
  words_tree input x y = refl
  words_tree (node l r) x y =
      rw (each_append, each_append, length-append, length-append, words_tree l x y, words_tree r (x + inputs l) (y + variables c l), words_joins)

-- a node has at most 130 times 130 clauses, and a tree a node less than inputs
pub clauses_most : (c : ℕ) → c ≤ 128 → (t : Tree) → (1 ≤ inputs t) × (clauses_in c t + 16900 ≤ 16900 * inputs t)
unfolding clauses_in inputs outputs
clauses_most c h input = (omega arith, omega arith)
clauses_most c h (node l r) =
    let (a, b) = clauses_most c h l in
    let (d, e) = clauses_most c h r in
    let q : suc (min (inputs l) (suc c)) * suc (min (inputs r) (suc c)) ≤ 16900 = mul-le-mul {n₂ = 130} {m₂ = 130} (omega arith) (omega arith) in
    (omega arith, omega arith)

module _ (s : Sizes) (c : ℕ) where
  open s use {n, k, m}

  count_moves : length (moves s) ≡ m * (k * n)
  unfolding moves
  count_moves = for3_length m k n _

  words_moves : length (each line (moves s)) ≡ m * (k * (n * 4))
  unfolding moves
  words_moves = simp each_for (for_length m _ _ (λ t l. for_length k _ _ (λ a l. for_length n 4 _ (λ v l. refl))))

  count_chain : length (chain s) ≡ (m - 1) * k
  unfolding chain
  count_chain = for2_length (m - 1) k _

  words_chain : length (each line (chain s)) ≡ (m - 1) * (k * 3)
  unfolding chain
  words_chain = simp each_for (for_length (m - 1) _ _ (λ t l. for_length k 3 _ (λ a l. refl)))

  one : (b : Bool) (z : ℤ) → (length (when b ((z ∷ []) ∷ [])) ≡ cond b 1 0) × (length (each line (when b ((z ∷ []) ∷ []))) ≡ 2 * cond b 1 0)
  one true z = (refl, refl)
  one false z = (refl, refl)

  pub added_count_lem : length (added_clauses s c) ≡ added_count s c
  unfolding added_clauses counters limit added_count
  added_count_lem =
      rw (length-append, length-append, length-append, count_moves, count_chain, count_tree, (one (ltb c (m * k)) _).0)
      (omega (arith, mul_assoc m k n))

  pub added_words_lem : length (each line (added_clauses s c)) ≡ added_words s c
  unfolding added_clauses counters limit added_words
  added_words_lem =
      rw (each_append, each_append, each_append, length-append, length-append, length-append, words_moves, words_chain, words_tree, (one (ltb c (m * k)) _).1)
      (omega (arith, mul_assoc m k n, mul_assoc m k (n * 4), mul_assoc (m * k) n 4, mul_assoc (m - 1) k 3))

-- ---- the whole formula
module _ (I : Instance) (c : ℕ) where
  pub ceiling_count_lem : Counted I → length (under_ceiling c I).clauses ≡ ceiling_count I.sizes c
  unfolding ceiling_count
  ceiling_count_lem w = length-append (clauses I) (added_clauses I.sizes c) ∙ ap₂ ◌+◌ (clause_count_lem I w) (added_count_lem I.sizes c)

  pub ceiling_words_lem : Edges I → Counted I → length (words (under_ceiling c I)) ≡ ceiling_words I.sizes c
  unfolding ceiling_words words
  ceiling_words_lem g w =
      ap length (each_append line (clauses I) (added_clauses I.sizes c))
      ∙ length-append (each line (clauses I)) (each line (added_clauses I.sizes c))
      ∙ ap₂ ◌+◌ (word_count_lem I g w) (added_words_lem I.sizes c)

-- ---- more inputs or a higher ceiling give no fewer variables, clauses and words
three_rise : (x x' y y' z z' : ℕ) → x ≤ x' → y ≤ y' → z ≤ z' → x + y + z ≤ x' + y' + z'
three_rise x x' y y' z z' p q r = omega arith

node_words_rise : (a a' b b' p p' : ℕ) → a ≤ a' → b ≤ b' → p ≤ p' → 3 * (a + b) + 4 * p ≤ 3 * (a' + b') + 4 * p'
node_words_rise a a' b b' p p' h k l = omega arith

outputs_rise : (l l' c c' : ℕ) → l ≤ l' → c ≤ c' → min l (suc c) ≤ min l' (suc c')
outputs_rise l l' c c' p q = omega arith

one_more : (p q : ℕ) → p ≤ q → suc p ≤ suc q
one_more p q h = omega arith

less_one : (p q : ℕ) → p ≤ q → p - 1 ≤ q - 1
less_one p q h = omega arith

pub counts_rise : (d c c' l l' : ℕ) → l' ≤ d → c ≤ c' → l ≤ l'
    → (variables c (tree_over l) ≤ variables c' (tree_over l')) × (clauses_in c (tree_over l) ≤ clauses_in c' (tree_over l')) × (words_in c (tree_over l) ≤ words_in c' (tree_over l'))
unfolding variables clauses_in words_in outputs inputs
counts_rise zero c c' l l' p q r = rw (tree_one l (omega arith)) (omega arith, omega arith, omega arith)
counts_rise (suc d) c c' l l' p q r =
    by_cases (dec_lt l 2)
    (λ h. rw (tree_one l h) (omega arith, omega arith, omega arith))
    (λ h.
    let t : 2 ≤ l = omega arith in
    let t' : 2 ≤ l' = omega arith in
    let f₁ : 1 ≤ l / 2 = omega arith in
    let f₂ : 1 ≤ l - l / 2 = omega arith in
    let f₃ : 1 ≤ l' / 2 = omega arith in
    let f₄ : 1 ≤ l' - l' / 2 = omega arith in
    let e : l / 2 + (l - l / 2) ≤ l' / 2 + (l' - l' / 2) = omega arith in
    let i : l / 2 ≤ l' / 2 = omega arith in
    let j : l - l / 2 ≤ l' - l' / 2 = omega arith in
    let (v, x, y) = counts_rise d c c' (l / 2) (l' / 2) (omega arith) q i in
    let (v', x', y') = counts_rise d c c' (l - l / 2) (l' - l' / 2) (omega arith) q j in
    let a : ℕ = min (l / 2) (suc c) in
    let b : ℕ = min (l - l / 2) (suc c) in
    let a' : ℕ = min (l' / 2) (suc c') in
    let b' : ℕ = min (l' - l' / 2) (suc c') in
    let h₁ : a ≤ a' = outputs_rise (l / 2) (l' / 2) c c' i q in
    let h₂ : b ≤ b' = outputs_rise (l - l / 2) (l' - l' / 2) c c' j q in
    let m₁ : a * b ≤ a' * b' = mul-le-mul h₁ h₂ in
    let m₂ : suc a * suc b ≤ suc a' * suc b' = mul-le-mul (one_more a a' h₁) (one_more b b' h₂) in
    let o = outputs_rise (l / 2 + (l - l / 2)) (l' / 2 + (l' - l' / 2)) c c' e q in
    rw (tree_two l t, tree_two l' t', tree_inputs (l / 2) f₁, tree_inputs (l - l / 2) f₂, tree_inputs (l' / 2) f₃, tree_inputs (l' - l' / 2) f₄)
    (three_rise _ _ _ _ _ _ v v' o, three_rise _ _ _ _ _ _ x x' (less_one _ _ m₂), three_rise _ _ _ _ _ _ y y' (node_words_rise a a' b b' (a * b) (a' * b') h₁ h₂ m₁)))

-- the largest sizes with the ceiling 128
pub largest_ceiling : (ceiling_variables (largest_sizes 2) 128 ≡ 38_275) × (ceiling_count (largest_sizes 2) 128 ≡ 16_953_636) × (ceiling_words (largest_sizes 2) 128 ≡ 84_038_444)
unfolding ceiling_variables ceiling_count ceiling_words clause_count word_count added_variables added_words added_count variables words_in clauses_in outputs inputs tree_over halved
largest_ceiling = (refl, refl, refl)

pub largest_one_lem : (ceiling_variables (largest_sizes 1) 128 ≡ 38_275) × (ceiling_count (largest_sizes 1) 128 ≡ 1_962_276) × (ceiling_words (largest_sizes 1) 128 ≡ 8_098_604)
unfolding ceiling_variables ceiling_count ceiling_words clause_count word_count added_variables added_words added_count variables words_in clauses_in outputs inputs tree_over halved
largest_one_lem = (refl, refl, refl)

-- the tree over 512 inputs with the ceiling 128
widest : (variables 128 (tree_over 512) ≡ 3_971) × (clauses_in 128 (tree_over 512) ≡ 86_275) × (words_in 128 (tree_over 512) ≡ 340_746)
unfolding variables words_in clauses_in outputs inputs tree_over halved
widest = (refl, refl, refl)

-- so no formula with a ceiling of at most 128 has more than that of the largest sizes
module _ (s : Sizes) (w : Limits s) (c : ℕ) (h : c ≤ 128) where
  open s use {n, k, m}

  risen : (variables c (root s) ≤ 3_971) × (clauses_in c (root s) ≤ 86_275) × (words_in c (root s) ≤ 340_746)
  risen = let (x, y, z) = counts_rise 512 c 128 (m * k) 512 (omega arith) h (agent_steps s w) in let (a, b, d) = widest in (omega arith, omega arith, omega arith)

  moves_most : m * k * n ≤ 32_768
  moves_most = mul-le-mul {n₂ = 512} {m₂ = 64} (agent_steps s w) w.n_most

  chain_most : (m - 1) * k ≤ 496
  chain_most = mul-le-mul {n₂ = 31} {m₂ = 16} (let z = w.m_most in omega arith) w.k_most

  pub variables_top : ceiling_variables s c ≤ 38_275
  unfolding ceiling_variables added_variables
  variables_top = omega (arith, variables_most s w, agent_steps s w, risen.0)

  pub count_top : added_count s c ≤ 119_540
  unfolding added_count
  count_top = omega (arith, moves_most, chain_most, risen.1, (one_of (ltb c (m * k))).1)

  pub words_top : added_words s c ≤ 473_308
  unfolding added_words
  words_top = omega (arith, moves_most, chain_most, risen.2, (one_of (ltb c (m * k))).1)
