-- Where a clause stands: at a place of a block, and at a place of its family, whose blocks, but in B, all have the same number of clauses.
use mathlib.Core.Path.{◌≡◌, refl, sym, ◌∙◌, ap}
use mathlib.Core.List.{List, [], ◌∷◌}
use mathlib.Core.Bool.{Bool, not, cond}
use Prim.Native.Nat.{ℕ, suc, ◌+◌, ◌*◌, ◌-◌, ◌/◌, ◌%◌, ◌≤◌, ◌<◌}
use native.Mathlib.Nat.{add-zero, add-mul, mul_assoc}
use native.Mathlib.Omega.{arith}
use borrow.Author.Tests.{eq-eqb, ne_eqb}
use lib.ListN.{length, get_or}
use lib.Dec.{T, eqb}
use Rattle.lists.specs.Loop.{for, when, sum, pairs}
use Rattle.lists.specs.Pairs.{pairs_below}
use Rattle.lists.proofs.Loops.{for_length, for_get_or}
use Rattle.lists.proofs.Blocks.{for1_length, for1_get_or, place_lt, cell_at}
use Rattle.lists.proofs.Sums.{for_sum, for_at, sum_ext, sum_mul, sum_le, when_length, others_length, others_at}
use Rattle.lists.proofs.Rising.{when_yes}
use Rattle.lists.proofs.Pairs.{above_one, above_get_or}
use Rattle.instance.specs.declared.Sizes.{Sizes}
use Rattle.instance.specs.Instance.{no_goal, HasGoal, goal_count, upward, higher, edges_before}
use Rattle.instance.proofs.Goals.{goals_once}
use Rattle.instance.proofs.Edges.{edge_below}
use Rattle.formula.specs.Variables.{Literal, X, ¬X}
use Rattle.formula.specs.Formula.{Clause, B, no_two, block_b, no_following, exchange, no_exchange}
use Rattle.formula.specs.Blocks.{Given, no_exchange_from, by_blocks, family, times, blocks_at, block}
use Rattle.formula.proofs.Blocks.{family_flat}
use Rattle.formula.proofs.Counts.{exchange_agents, count_exchange}

-- B: the clause of an agent that has a goal stands behind those of the lower agents that have one
module _ (s : Sizes) (goal : ℕ → ℕ) where
  open s use {k, m}

  abbrev goal_block : ℕ → List Clause
  goal_block a = block_b s goal a

  pub goals_before : (a : ℕ) → length (for a goal_block) ≡ goal_count a goal
  goals_before a = goals_once goal a (λ i. X s m i (goal i) ∷ [])

  pub goal_block_lem : (a : ℕ) → HasGoal (goal a) → goal_block a ≡ (X s m a (goal a) ∷ []) ∷ []
  goal_block_lem a h = rw (ne_eqb (goal a) no_goal h)

  pub goal_get_or : (a : ℕ) → a < k → HasGoal (goal a) → get_or (B s goal) (goal_count a goal) [] ≡ X s m a (goal a) ∷ []
  unfolding B
  goal_get_or a l h =
      let one : 0 < length (goal_block a) = rw (goal_block_lem a h) (omega arith) in
      let e : goal_count a goal ≡ sum a (λ i. length (goal_block i)) + 0 = omega (arith, goals_before a, for_sum a goal_block) in
      ap (λ (x : ℕ). get_or (for k goal_block) x []) e ∙ for_at k goal_block [] a 0 l one ∙ ap (λ (c : List Clause). get_or c 0 []) (goal_block_lem a h)

-- D and E: the pair v < w stands behind the pairs that begin below v
module _ (n : ℕ) (¬x : ℕ → Literal) where
  pub two_length : length (no_two n ¬x) ≡ pairs n
  two_length = above_one n (λ v w. ¬x v ∷ ¬x w ∷ [])

  pub two_get_or : (v w : ℕ) → v < w → w < n → get_or (no_two n ¬x) (pairs_below n v + (w - suc v)) [] ≡ ¬x v ∷ ¬x w ∷ []
  two_get_or = above_get_or n (λ v w. ¬x v ∷ ¬x w ∷ []) []

-- G: the agents other than a, in order: those below a keep their places, those above move up by one
module _ (s : Sizes) (t a : ℕ) (q : a < s.k) where
  open s use {n, k}

  abbrev row : ℕ → List Clause
  row b = for n λ v. (¬X s t b v ∷ ¬X s (suc t) a v ∷ []) ∷ []

  row_length : (b : ℕ) → b < k → length (row b) ≡ n
  row_length b l = for1_length n (λ v. ¬X s t b v ∷ ¬X s (suc t) a v ∷ [])

  pub others_size : length (no_following s t a) ≡ (k - 1) * n
  others_size = others_length k n a q row row_length

  pub others_get_or : (o b v : ℕ) → o < k - 1 → v < n → (o < a → b ≡ o) → (a ≤ o → b ≡ suc o)
      → get_or (no_following s t a) (o * n + v) [] ≡ ¬X s t b v ∷ ¬X s (suc t) a v ∷ []
  others_get_or o b v h l low high = others_at k n a row [] q row_length o b v h l low high ∙ for1_get_or n (λ v. ¬X s t b v ∷ ¬X s (suc t) a v ∷ []) [] v l

  -- G under rule 2: the clause of a and b
  pub exchange_get_or : (u v o b : ℕ) → o < k - 1 → (o < a → b ≡ o) → (a ≤ o → b ≡ suc o)
      → get_or (no_exchange s t u v) (a * (k - 1) + o) [] ≡ exchange s t u v a b
  exchange_get_or u v o b h low high =
      for_get_or k (k - 1) (λ a. for k λ b. when (not (eqb a b)) (exchange s t u v a b ∷ [])) [] (λ a l. exchange_agents s t u v a l) a o q h
      ∙ ap (λ (x : ℕ). get_or (for k λ b. when (not (eqb a b)) (exchange s t u v a b ∷ [])) x []) (let e : o ≡ o * 1 + 0 = omega arith in e)
      ∙ others_at k 1 a (λ b. exchange s t u v a b ∷ []) [] q (λ b l. refl) o b 0 h (omega arith) low high

-- G under rule 2, by its edges: those before u and v, each with a clause for every two agents
module _ (s : Sizes) (near : ℕ → ℕ → Bool) (t : ℕ) where
  open s use {n, k, e, m}

  -- how many clauses an edge has
  abbrev pub each_edge : ℕ
  each_edge = k * (k - 1)

  pub exchanges_below : (u v : ℕ) → length (for v λ w. when (upward near u w) (no_exchange s t u w)) ≡ length (higher near u v) * each_edge
  exchanges_below u v = when_length v each_edge (upward near u) (no_exchange s t u) (count_exchange s t u)

  pub exchanges_before : (u : ℕ) → length (for u (no_exchange_from s near t)) ≡ sum u (λ x. length (higher near x n)) * each_edge
  exchanges_before u =
      for_sum u _ ∙ sum_ext u _ _ (λ x l. exchanges_below x n) ∙ sum_mul u (λ x. length (higher near x n)) each_edge

  pub exchanges_all : e ≡ edges_before near n n 0 → length (for n (no_exchange_from s near t)) ≡ e * each_edge
  unfolding edges_before
  exchanges_all h = exchanges_before n ∙ ap (λ (x : ℕ). x * each_edge) (sym (h ∙ add-zero _))

  -- the clause at place p of an edge
  pub edge_get_or : (u v p : ℕ) → u < n → v < n → T (upward near u v) → p < each_edge
      → get_or (for n (no_exchange_from s near t)) (edges_before near n u v * each_edge + p) [] ≡ get_or (no_exchange s t u v) p []
  unfolding edges_before
  edge_get_or u v p l r h q =
      let up : ℕ → List Clause = λ w. when (upward near u w) (no_exchange s t u w) in
      let is : up v ≡ no_exchange s t u v = when_yes (upward near u v) (no_exchange s t u v) h in
      let len : length (up v) ≡ each_edge = ap length is ∙ count_exchange s t u v in
      let here : sum v (λ w. length (up w)) ≡ length (higher near u v) * each_edge = sym (for_sum v up) ∙ exchanges_below u v in
      let before : sum u (λ x. length (no_exchange_from s near t x)) ≡ sum u (λ x. length (higher near x n)) * each_edge =
      sym (for_sum u (no_exchange_from s near t)) ∙ exchanges_before u in
      let inside : sum v (λ w. length (up w)) + p < length (no_exchange_from s near t u) =
      omega (arith, for_sum n up, sum_le n (λ w. length (up w)) v r) in
      let place : (sum u (λ x. length (higher near x n)) + length (higher near u v)) * each_edge + p
      ≡ sum u (λ x. length (no_exchange_from s near t x)) + (sum v (λ w. length (up w)) + p) =
      omega (arith, add-mul (sum u (λ x. length (higher near x n))) (length (higher near u v)) each_edge) in
      ap (λ (x : ℕ). get_or (for n (no_exchange_from s near t)) x []) place
      ∙ for_at n (no_exchange_from s near t) [] u (sum v (λ w. length (up w)) + p) l inside
      ∙ for_at n up [] v p r (omega arith)
      ∙ ap (λ (c : List Clause). get_or c p []) is

-- and by time
module _ (g : Given) (two : g.sizes.rule ≡ 2) (h : g.sizes.e ≡ edges_before g.near g.sizes.n g.sizes.n 0) where
  open g.sizes use {n, k, e, m}

  exchanges : family g 6 ≡ for m λ t. for n (no_exchange_from g.sizes g.near t)
  unfolding family by_blocks
  exchanges =
      ap (λ (f : Bool). for m λ t. for (cond f n k) λ x. cond f (no_exchange_from g.sizes g.near t x) (no_following g.sizes t x))
      (eq-eqb g.sizes.rule 2 two)

  pub exchange_total : length (family g 6) ≡ m * e * (k * (k - 1))
  exchange_total =
      ap length exchanges
      ∙ for_length m (e * (k * (k - 1))) _ (λ t l. exchanges_all g.sizes g.near t h)
      ∙ sym (mul_assoc m e (k * (k - 1)))

  pub exchange_family : (t u v p : ℕ) → t < m → u < n → v < n → T (upward g.near u v) → p < k * (k - 1)
      → get_or (family g 6) (t * (e * (k * (k - 1))) + (edges_before g.near n u v * (k * (k - 1)) + p)) [] ≡ get_or (no_exchange g.sizes t u v) p []
  exchange_family t u v p a l r o q =
      let j : ℕ = edges_before g.near n u v in
      ap (λ (c : List Clause). get_or c (t * (e * (k * (k - 1))) + (j * (k * (k - 1)) + p)) []) exchanges
      ∙ for_get_or m (e * (k * (k - 1))) (λ t. for n (no_exchange_from g.sizes g.near t)) [] (λ t l. exchanges_all g.sizes g.near t h) t (j * (k * (k - 1)) + p) a (place_lt e (k * (k - 1)) j p (omega (arith, h, edge_below g.near n u v l r o)) q)
      ∙ edge_get_or g.sizes g.near t u v p l r o q

-- a family whose blocks have `each` clauses: place p of block i
module _ (g : Given) (j each : ℕ) (len : (t x : ℕ) → x < blocks_at g.sizes j → length (block g j t x) ≡ each) where
  abbrev blocks : ℕ
  blocks = times g.sizes j * blocks_at g.sizes j

  same : (i : ℕ) → i < blocks → length (block g j (i / blocks_at g.sizes j) (i % blocks_at g.sizes j)) ≡ each
  same i l = len _ _ (cell_at (times g.sizes j) (blocks_at g.sizes j) i l).1.1

  pub family_length : length (family g j) ≡ blocks * each
  family_length = ap length (family_flat g j) ∙ for_length blocks each _ same

  pub family_get_or : (i p : ℕ) → i < blocks → p < each
      → get_or (family g j) (i * each + p) [] ≡ get_or (block g j (i / blocks_at g.sizes j) (i % blocks_at g.sizes j)) p []
  family_get_or i p h l = ap (λ (c : List Clause). get_or c (i * each + p) []) (family_flat g j) ∙ for_get_or blocks each _ [] same i p h l
