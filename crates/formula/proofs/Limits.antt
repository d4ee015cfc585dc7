-- No formula of an accepted instance is longer than the largest, and no clause has more than 66 words.
use mathlib.Core.Path.{◌≡◌}
use mathlib.Core.Logic.{⊎_elim}
use mathlib.Core.List.{Memᴰ}
use mathlib.Core.Bool.{Bool, true, false, cond}
use Prim.Native.Nat.{ℕ, zero, suc, ◌+◌, ◌*◌, ◌-◌, ◌≤◌, ◌<◌}
use native.Mathlib.Nat.{mul-le-mul, not-suc-le-zero, le_refl, eq-or-lt_of_le, le_of_suc-le-suc}
use native.Mathlib.Omega.{arith}
use lib.ListN.{length, length-append}
use lib.Dec.{T, leb}
use Rattle.lists.specs.Loop.{for, all, sum}
use Rattle.lists.proofs.Tests.{leb_iff}
use Rattle.lists.proofs.Loops.{for_all, when_all, one_all, all_append, all_mem}
use Rattle.lists.proofs.Blocks.{for1_length}
use Rattle.lists.proofs.Sums.{ind, ind_no, when_count}
use Rattle.lists.proofs.Pairs.{pairs_most}
use Rattle.instance.specs.declared.Sizes.{Sizes}
use Rattle.instance.specs.Instance.{Instance, following, adjacent, degree, Edges}
use Rattle.instance.proofs.Graph.{adjacent_iff, for_neighbours}
use Rattle.formula.specs.Variables.{X, variable_count}
use Rattle.formula.specs.Formula.{Clause, A, B, C, D, E, F, G, no_following, no_exchange, clauses, line}
use Rattle.instance.specs.Limits.{Limits}
use Rattle.formula.specs.Counts.{clauses_by, clause_count, word_count, most_words}

module _ (s : Sizes) (w : Limits s) where
  open s use {n, k, e, m}

  pub rows : suc m * k ≤ 528
  rows = mul-le-mul {n₂ = 33} {m₂ = 16} (omega arith) w.k_most

  pub variables_most : variable_count s ≤ 33792
  variables_most =
      let q : n * k ≤ 1024 = mul-le-mul {n₂ = 64} {m₂ = 16} w.n_most w.k_most in
      mul-le-mul {n₂ = 1024} {m₂ = 33} q (omega arith)

  -- the counts of the five longer families
  pub agent_steps : m * k ≤ 512
  agent_steps = mul-le-mul {n₂ = 32} {m₂ = 16} w.m_most w.k_most

  pub count_D_most : (clauses_by s).D ≤ 1064448
  count_D_most = mul-le-mul {n₂ = 528} {m₂ = 2016} rows (pairs_most n 64 w.n_most)

  pub count_E_most : (clauses_by s).E ≤ 253440
  count_E_most =
      let q : suc m * n ≤ 2112 = mul-le-mul {n₂ = 33} {m₂ = 64} (omega arith) w.n_most in
      mul-le-mul {n₂ = 2112} {m₂ = 120} q (pairs_most k 16 w.k_most)

  pub count_F_most : (clauses_by s).F ≤ 32768
  count_F_most = mul-le-mul {n₂ = 512} {m₂ = 64} agent_steps w.n_most

  pub exchanges_most : m * e * (k * (k - 1)) ≤ 15_482_880
  exchanges_most =
      let p : m * e ≤ 64512 = mul-le-mul {n₂ = 32} {m₂ = 2016} w.m_most w.e_most in
      let q : k * (k - 1) ≤ 240 = mul-le-mul {n₂ = 16} {m₂ = 15} w.k_most (omega arith) in
      mul-le-mul {n₂ = 64512} {m₂ = 240} p q

  pub followings_most : m * k * (k - 1) * n ≤ 491520
  followings_most =
      let q : m * k * (k - 1) ≤ 7680 = mul-le-mul {n₂ = 512} {m₂ = 15} agent_steps (omega arith) in
      mul-le-mul {n₂ = 7680} {m₂ = 64} q w.n_most

  pub count_G_most : (clauses_by s).G ≤ 15_482_880
  count_G_most = by_rule_lem (following s)
    where
      by_rule_lem : (f : Bool) → cond f (m * e * (k * (k - 1))) (m * k * (k - 1) * n) ≤ 15_482_880
      by_rule_lem true = exchanges_most
      by_rule_lem false = omega (arith, followings_most)

  pub clauses_most : clause_count s ≤ 16_834_096
  unfolding clause_count
  clauses_most = omega (arith, rows, count_D_most, count_E_most, count_F_most, count_G_most, w.k_most)

  -- G's words, and what the other families have at most
  in_G : (f : Bool) → cond f 5 3 * cond f (m * e * (k * (k - 1))) (m * k * (k - 1) * n) + 6_150_736 ≤ cond f 83_565_136 7_625_296
  in_G true = omega (arith, exchanges_most)
  in_G false = omega (arith, followings_most)

  pub words_most : word_count s ≤ most_words s
  unfolding word_count
  words_most =
      let c : suc m * k * (n + 1) ≤ 34320 = mul-le-mul {n₂ = 528} {m₂ = 65} rows (omega arith) in
      let f : m * k * (3 * n + 2 * e) ≤ 2162688 = mul-le-mul {n₂ = 512} {m₂ = 4224} agent_steps (omega arith) in
      omega (arith, c, f, count_D_most, count_E_most, in_G (following s), w.k_most)

  -- under either rule
  pub words_top : word_count s ≤ 83_565_136
  words_top = by_rule_lem (following s) words_most
    where
      by_rule_lem : (f : Bool) → word_count s ≤ cond f 83_565_136 7_625_296 → word_count s ≤ 83_565_136
      by_rule_lem true h = h
      by_rule_lem false h = omega arith

-- ---- the longest clause: one of family F, with a vertex and at most n - 1 neighbours
ind_most : (b : Bool) → ind b ≤ 1
ind_most true = le_refl 1
ind_most false = omega arith

sum_most : (n : ℕ) (p : ℕ → Bool) → sum n (λ i. ind (p i)) ≤ n
sum_most zero p = le_refl 0
sum_most (suc n) p = omega (arith, sum_most n p, ind_most (p n))

sum_but_one : (n : ℕ) (p : ℕ → Bool) (v : ℕ) → v < n → (T (p v) → ⊥) → sum n (λ i. ind (p i)) ≤ n - 1
sum_but_one zero p v l f = absurd (not-suc-le-zero l)
sum_but_one (suc n) p v l f =
    ⊎_elim
    (λ q. let z : ind (p n) ≡ 0 = rw (← q) (ind_no (p v) f) in omega (arith, sum_most n p))
    (λ h. omega (arith, sum_but_one n p v h f, ind_most (p n)))
    (eq-or-lt_of_le (le_of_suc-le-suc l))

module _ (I : Instance) (g : Edges I) where
  open I use {sizes}
  open sizes use {n, k, m}

  loopless : (v : ℕ) → T (adjacent I v v) → ⊥
  loopless v t =
      let (j, l, o) = (adjacent_iff I v v).0 t in
      let h = (g.ends j l).0 in
      ⊎_elim (λ (x, y). omega arith) (λ (x, y). omega arith) o

  pub degree_most : (v : ℕ) → v < n → degree I v ≤ n - 1
  degree_most v l = rw (when_count n (adjacent I v) (λ w. w)) (sum_but_one n (adjacent I v) v l (loopless v))

  short : Clause → Bool
  short c = leb (length (line c)) 66

  module _ (w : n ≤ 64) where
    short_A : T (all short (A I.sizes I.start))
    unfolding A short
    short_A = simp (for_all, one_all, leb_iff) (λ a l. omega arith)

    short_B : T (all short (B I.sizes I.goal))
    unfolding B short
    short_B = simp (for_all, when_all, one_all, leb_iff) (λ a l h. omega arith)

    short_C : T (all short (C I.sizes))
    unfolding C short
    short_C =
        simp (for_all, one_all, leb_iff) (λ t l a r. simp length-append (omega (arith, for1_length n (X sizes t a))))

    short_D : T (all short (D I.sizes))
    unfolding D short
    short_D = simp (for_all, when_all, one_all, leb_iff) (λ t l a r v p w q o. omega arith)

    short_E : T (all short (E I.sizes))
    unfolding E short
    short_E = simp (for_all, when_all, one_all, leb_iff) (λ t l v p a r b q o. omega arith)

    short_F : T (all short (F I.sizes (adjacent I)))
    unfolding F short
    short_F =
        simp (for_all, one_all, leb_iff)
        (λ t l a r v p. simp length-append (omega (arith, for_neighbours I v (X sizes (suc t) a), degree_most v p)))

    short_G : T (all short (G I.sizes I.low I.high))
    unfolding G short
    short_G = by_rule_lem (following sizes)
      where
        by_rule_lem : (f : Bool) → T (all short (cond f (for m λ t. for sizes.e λ j. no_exchange sizes t (I.low j) (I.high j)) (for m λ t. for k λ a. no_following sizes t a)))
        by_rule_lem true = simp (for_all, when_all, one_all, leb_iff) (λ t l j r a q b p o. omega arith)
        by_rule_lem false = simp (for_all, when_all, one_all, leb_iff) (λ t l a r b q o v p. omega arith)

    all_short : T (all short (clauses I))
    unfolding clauses
    all_short = simp all_append ((((((short_A, short_B), short_C), short_D), short_E), short_F), short_G)

  -- a clause with its 0 has at most 66 words
  pub clause_most : n ≤ 64 → (c : Clause) → Memᴰ c (clauses I) → length (line c) ≤ 66
  unfolding short
  clause_most w c i = (leb_iff _ 66).0 ((all_mem short (clauses I)).0 (all_short w) c i)
