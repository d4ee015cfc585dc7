-- The added clauses: how many moves and chain there are, where the first without a true literal stands among them, and among all.
use mathlib.Core.Path.{◌≡◌, refl, sym, ◌∙◌, ap, subst}
use mathlib.Core.Logic.{◌↔◌, ◌≢◌, inl, inr, ⊎_elim, by_cases}
use mathlib.Core.List.{List, [], ◌∷◌, ◌++◌, append_assoc}
use mathlib.Core.Bool.{Bool, true, false, ◌||◌}
use Prim.Native.Nat.{ℕ, suc, ◌+◌, ◌-◌, ◌*◌, ◌/◌, ◌%◌, ◌≤◌, ◌<◌}
use native.Mathlib.Nat.{div-add-mod', suc-mul, zero-mul, mul-le-mul}
use native.Mathlib.Numerals.{add-one}
use native.Mathlib.Decide.{ℕ_discrete, dec_lt}
use native.Mathlib.Omega.{arith}
use borrow.Author.Tests.{lt-ltb, le-ltb}
use lib.ListN.{length, length-append, get_or}
use lib.Dec.{T, ltb, eqb}
use lib.IntN.{ℤ}
use Rattle.lists.specs.Loop.{for, when, all}
use Rattle.lists.proofs.Tests.{or_iff, or_imp, eqb_iff}
use Rattle.lists.proofs.Loops.{for_ext, for_all, one_all, any_one, any_two, for_length}
use Rattle.lists.proofs.Blocks.{for1_length, for_flat, cell_at, place_lt}
use Rattle.answers.specs.Fault.{FirstFault}
use Rattle.answers.proofs.Faults.{fault_at, fault_none}
use Rattle.instance.specs.declared.Sizes.{Sizes}
use Rattle.instance.specs.Limits.{Limits}
use Rattle.formula.specs.Variables.{X, ¬X, variable_count}
use Rattle.formula.specs.Formula.{Clause}
use Rattle.formula.proofs.Limits.{variables_most, agent_steps}
use Rattle.plan.specs.Plan.{plan_row}
use Rattle.valuation.specs.Valuation.{true?, satisfied?}
use Rattle.valuation.specs.Satisfying.{Valuation}
use Rattle.valuation.specs.Places.{Places}
use Rattle.satisfaction.specs.Rows.{Fault}
use Rattle.satisfaction.proofs.Laws.{fault_all, singles, blocks_stop, blocks_pass}
use Rattle.ceiling.specs.Tree.{tree_over, halved, before, tree_clauses, on, off}
use Rattle.ceiling.specs.Ceiling.{busy_number, moving, moves, link, chain, counters, limit, added_clauses, added_variables, ceiling_variables}
use Rattle.counting.specs.Over.{variables_over, clauses_over, before_outputs}
use Rattle.counting.proofs.Laws.{outputs_last, tree_fits, clauses_bound}
use Rattle.added_satisfaction.specs.Search.{Passes, Fails}
use Rattle.added_satisfaction.proofs.Truth.{off_iff}
use Rattle.added_satisfaction.proofs.Trees.{passes_none, fails_left, passes_on, fails_on}

-- ---- moves and chain by the byte of the plan: byte i is that of agent i % k at time i / k
module _ (s : Sizes) where
  open s use {n, k, m}

  pub inputs_some : Limits s → 1 ≤ m → 1 ≤ m * k
  inputs_some h l = mul-le-mul {n₁ = 1} {m₁ = 1} l h.k_least

  abbrev leaves : ℕ → List Clause
  leaves i = for n λ v. moving s (i / k) (i % k) v ∷ []

  moves_flat : moves s ≡ for (m * k) leaves
  unfolding moves
  moves_flat = for_flat m k (λ t a. for n λ v. moving s t a v ∷ [])

  pub moves_size : length (moves s) ≡ m * k * n
  moves_size = rw moves_flat (for_length (m * k) n leaves (λ i l. for1_length n _))

  pub moves_most : Limits s → m * k * n ≤ 32768
  moves_most h = mul-le-mul {n₂ = 512} {m₂ = 64} (agent_steps s h) h.n_most

  abbrev waits : ℕ → Clause
  waits i = off (variable_count s + 1 + i + k) ∷ on (variable_count s + 1 + i) ∷ []

  chain_flat : chain s ≡ (for ((m - 1) * k) λ i. waits i ∷ [])
  unfolding chain
  chain_flat =
      for_flat (m - 1) k (λ t a. link s t a ∷ [])
      ∙ for_ext ((m - 1) * k) _ _ (λ i l.
      let e = div-add-mod' i k in
      let later : variable_count s + suc (suc (i / k) * k + i % k) ≡ variable_count s + 1 + i + k = omega (arith, suc-mul (i / k) k) in
      let first : variable_count s + suc (i / k * k + i % k) ≡ variable_count s + 1 + i = omega arith in
      rw (later, first))

  pub chain_size : length (chain s) ≡ (m - 1) * k
  chain_size = rw chain_flat (for1_length ((m - 1) * k) waits)

  pub chain_most : Limits s → (m - 1) * k ≤ 512
  chain_most h = mul-le-mul {n₂ = 32} {m₂ = 16} (omega (arith, h.m_most)) h.k_most

  -- the later of its two B is one too
  pub chain_fit : 1 ≤ m → (i : ℕ) → i < (m - 1) * k → i + k < m * k
  chain_fit h i l = let e : suc (m - 1) ≡ m = omega arith in let q : suc (m - 1) * k ≡ m * k = rw e in omega (arith, suc-mul (m - 1) k)

  chain_fault : (es : List ℤ) (r : ℕ) → FirstFault ((m - 1) * k) (λ i. satisfied? es (waits i)) r → Fault es (chain s) r
  chain_fault es r f = rw chain_flat (singles es ((m - 1) * k) waits r f)

  module _ (es : List ℤ) where
    pub chain_fails : (i : ℕ) → i < (m - 1) * k → ((j : ℕ) → j < i → T (satisfied? es (waits j))) → (T (satisfied? es (waits i)) → ⊥) → Fails es (chain s) i
    chain_fails i l b f = record { first = chain_fault es i (fault_at l b f); within = omega (arith, chain_size) }

    pub chain_passes : (i : ℕ) → i ≡ (m - 1) * k → ((j : ℕ) → j < i → T (satisfied? es (waits j))) → Passes es (chain s) ((m - 1) * k)
    chain_passes i e b = record { all = chain_fault es _ (fault_none {r = i} e b); count = chain_size }

-- ---- moves, at the places of a plan
module _ (s : Sizes) (es : List ℤ) (p : List ℕ) (w : Places s (true? es) (plan_row s p)) where
  open s use {n, k, m}

  abbrev P : ℕ → ℕ → ℕ
  P = plan_row s p

  abbrev sat : Clause → Bool
  sat = satisfied? es

  -- agent a keeps its vertex in step t, or its B is true
  abbrev kept : ℕ → ℕ → Bool
  kept t a = eqb (P t a) (P (suc t) a) || true? es (on (busy_number s t a))

  module _ (t a : ℕ) (x : t < m) (y : a < k) where
    moving_iff : (v : ℕ) → v < n → T (sat (moving s t a v)) ↔ (v ≡ P t a → v ≢ P (suc t) a → T (true? es (on (busy_number s t a))))
    moving_iff v z =
        let here = w.here (suc t) a v (omega arith) y z in
        let elsewhere = w.elsewhere t a v (omega arith) y z in
        let first = or_imp (true? es (¬X s t a v)) _ in
        let two = any_two (true? es) (X s (suc t) a v) (on (busy_number s t a)) in (
          (λ h e f. two.0 (first.0 h (λ u. elsewhere.0 u e)) (λ u. f (here.0 u))),
          (λ h. first.1 (λ f. two.1 (λ g.
              h (by_cases (ℕ_discrete v (P t a)) (λ e. e) (λ d. absurd (f (elsewhere.1 d)))) (λ e. g (here.1 e))))),
        )

    kept_passes : T (kept t a) → T (all sat (for n λ v. moving s t a v ∷ []))
    kept_passes h =
        (for_all sat n _).1 (λ v z. (one_all sat (moving s t a v)).1 ((moving_iff v z).1 (λ e f.
        ⊎_elim (λ u. absurd (f (e ∙ (eqb_iff (P t a) (P (suc t) a)).0 u))) (λ u. u) ((or_iff (eqb (P t a) (P (suc t) a)) _).0 h))))

    left_stops : (T (kept t a) → ⊥) → Fault es (for n λ v. moving s t a v ∷ []) (P t a)
    left_stops f =
        let l = w.inside t a (omega arith) y in
        let no = (or_iff (eqb (P t a) (P (suc t) a)) (true? es (on (busy_number s t a)))).1 in
        singles es n (moving s t a) (P t a) (fault_at l
        (λ v g. (moving_iff v (omega arith)).1 (λ e. absurd (let z : ⊥ = omega arith in z)))
        (λ u. f (no (inr ((moving_iff (P t a) l).0 u refl (λ e. f (no (inl ((eqb_iff (P t a) (P (suc t) a)).1 e)))))))))

  -- the same by the byte of the plan
  abbrev kept_at : ℕ → Bool
  kept_at i = eqb (get_or p i 0) (get_or p (i + k) 0) || true? es (on (variable_count s + 1 + i))

  kept_at_lem : (t a i : ℕ) → t * k + a ≡ i → kept t a ≡ kept_at i
  kept_at_lem t a i e =
      let next : suc t * k + a ≡ i + k = omega (arith, suc-mul t k) in
      let number : variable_count s + suc (t * k + a) ≡ variable_count s + 1 + i = omega arith in
      rw (next, number, e)

  all_kept : (i : ℕ) → i ≤ m * k → ((j : ℕ) → j < i → T (kept_at j)) → T (all sat (for i (leaves s)))
  all_kept i l h =
      (for_all sat i (leaves s)).1 (λ j g.
      let (z, (x, y)) = cell_at m k j (omega arith) in
      kept_passes (j / k) (j % k) x y (subst T (sym (kept_at_lem (j / k) (j % k) j (div-add-mod' j k))) (h j g)))

  moves_stop : (i : ℕ) → i < m * k → ((j : ℕ) → j < i → T (kept_at j)) → (T (kept_at i) → ⊥) → Fault es (moves s) (i * n + get_or p i 0)
  moves_stop i l h f =
      let (z, (x, y)) = cell_at m k i l in
      let e = div-add-mod' i k in
      let q : P (i / k) (i % k) ≡ get_or p i 0 = ap (λ (j : ℕ). get_or p j 0) e in
      rw (moves_flat s, ← q)
      (blocks_stop es (leaves s) n (m * k) i (P (i / k) (i % k)) (λ j. for1_length n _) l (all_kept i (omega arith) h)
      (left_stops (i / k) (i % k) x y (λ u. f (subst T (kept_at_lem (i / k) (i % k) i e) u))) (w.inside (i / k) (i % k) (omega arith) y))

  moves_pass : (i : ℕ) → i ≡ m * k → ((j : ℕ) → j < i → T (kept_at j)) → Fault es (moves s) (m * k * n)
  moves_pass i e h =
      rw (moves_flat s) (blocks_pass es (leaves s) n (m * k) (λ j. for1_length n _) (all_kept (m * k) (omega arith) (λ j l. h j (omega arith))))

  pub moves_fails : (i : ℕ) → i < m * k → ((j : ℕ) → j < i → T (kept_at j)) → (T (kept_at i) → ⊥) → Fails es (moves s) (i * n + get_or p i 0)
  moves_fails i l h f =
      let (z, (x, y)) = cell_at m k i l in
      let q : P (i / k) (i % k) ≡ get_or p i 0 = ap (λ (j : ℕ). get_or p j 0) (div-add-mod' i k) in
      let v : get_or p i 0 < n = omega (arith, w.inside (i / k) (i % k) (omega arith) y) in
      record { first = moves_stop i l h f; within = omega (arith, moves_size s, place_lt (m * k) n i (get_or p i 0) l v) }

  pub moves_passes : (i : ℕ) → i ≡ m * k → ((j : ℕ) → j < i → T (kept_at j)) → Passes es (moves s) (m * k * n)
  moves_passes i e h = record { all = moves_pass i e h; count = moves_size s }

-- ---- the limit
module _ (es : List ℤ) (c l : ℕ) where
  pub limit_none : (L : List Clause) → l ≤ c → Passes es (when (ltb c l) L) 0
  limit_none L h = rw (le-ltb c l h) (passes_none es)

  module _ (w : Valuation (length es) es) (z : ℕ) (h : c < l) (a : 1 ≤ z) (b : z ≤ length es) where
    pub limit_on : T (true? es (on z)) → Fails es (when (ltb c l) ((off z ∷ []) ∷ [])) 0
    limit_on t =
        rw (lt-ltb c l h)
        (let one : length ((off z ∷ []) ∷ []) ≡ 1 = refl in
        record {
          first = singles es 1 (λ i. off z ∷ []) 0 (fault_at (omega arith) (λ i g. absurd (let f : ⊥ = omega arith in f)) (λ u. (off_iff es w z a b).0 ((any_one (true? es) (off z)).0 u) t));
          within = omega (arith, one);
        })

    pub limit_off : (T (true? es (on z)) → ⊥) → Passes es (when (ltb c l) ((off z ∷ []) ∷ [])) 1
    limit_off f =
        rw (lt-ltb c l h)
        (record {
          all = fault_all es ((off z ∷ []) ∷ []) ((one_all (satisfied? es) (off z ∷ [])).1 ((any_one (true? es) (off z)).1 ((off_iff es w z a b).1 f)));
          count = refl;
        })

one_most : (b : Bool) (clause : Clause) → length (when b (clause ∷ [])) ≤ 1
one_most true clause = omega arith
one_most false clause = omega arith

-- ---- all of them
module _ (s : Sizes) (c : ℕ) (es : List ℤ) where
  open s use {k, m}

  abbrev N : ℕ
  N = variable_count s

  -- there is an entry for each variable
  pub room : Valuation (ceiling_variables s c) es → N + m * k + variables_over c (m * k) ≡ length es
  unfolding ceiling_variables added_variables variables_over
  room w = let e = w.size in omega arith

  pub few : Limits s → Valuation (ceiling_variables s c) es → length es ≤ 40000
  few h w = omega (arith, room w, variables_most s h, agent_steps s h, tree_fits c (m * k) (agent_steps s h))

  pub added_none : m ≡ 0 → Passes es (added_clauses s c) 0
  unfolding added_clauses moves chain counters limit tree_over halved tree_clauses
  added_none e = rw (e, zero-mul, le-ltb c 0 (omega arith)) (passes_none es)

  -- the counting tree's and the limit
  pub counters_fails : {r : ℕ} → Fails es (clauses_over c (m * k) N (N + m * k)) r → Fails es (counters s c ++ limit s c) r
  unfolding counters clauses_over
  counters_fails f = fails_left es (counters s c) (limit s c) f

  module _ {o : ℕ} (p : Passes es (clauses_over c (m * k) N (N + m * k)) o) (h : 1 ≤ m * k) (next : ℕ) (e : next ≡ N + m * k + variables_over c (m * k)) where
    -- the root's output is counted from its last variable
    last : before c (tree_over (m * k)) N (N + m * k) ≡ before_outputs c (m * k) N next
    last = outputs_last c (m * k) N (N + m * k) h (dec_lt (m * k) 2) ∙ ap (before_outputs c (m * k) N) (sym e)

    pub limit_fails : {u : ℕ} → Fails es (when (ltb c (m * k)) ((off (before_outputs c (m * k) N next + (c + 1)) ∷ []) ∷ [])) u
        → Fails es (counters s c ++ limit s c) (o + u)
    unfolding counters clauses_over limit
    limit_fails g = rw last (fails_on es _ _ p (rw (add-one c) at g))

    pub limit_passes : {u : ℕ} → Passes es (when (ltb c (m * k)) ((off (before_outputs c (m * k) N next + (c + 1)) ∷ []) ∷ [])) u
        → Passes es (counters s c ++ limit s c) (o + u)
    unfolding counters clauses_over limit
    limit_passes g = rw last (passes_on es _ _ p (rw (add-one c) at g))

  -- moves and chain before them
  pub moves_left : {r : ℕ} → Fails es (moves s) r → Fails es (added_clauses s c) r
  unfolding added_clauses
  moves_left f = rw append_assoc (fails_left es (moves s ++ chain s) (counters s c ++ limit s c) (fails_left es (moves s) (chain s) f))

  module _ {n₁ : ℕ} (p : Passes es (moves s) n₁) where
    pub chain_left : {r : ℕ} → Fails es (chain s) r → Fails es (added_clauses s c) (n₁ + r)
    unfolding added_clauses
    chain_left f = rw append_assoc (fails_left es (moves s ++ chain s) (counters s c ++ limit s c) (fails_on es (moves s) (chain s) p f))

    module _ {n₂ : ℕ} (q : Passes es (chain s) n₂) where
      pub counted_fails : {r : ℕ} → Fails es (counters s c ++ limit s c) r → Fails es (added_clauses s c) (n₁ + n₂ + r)
      unfolding added_clauses
      counted_fails f = rw append_assoc (fails_on es _ _ (passes_on es _ _ p q) f)

      pub counted_passes : {r : ℕ} → Passes es (counters s c ++ limit s c) r → Passes es (added_clauses s c) (n₁ + n₂ + r)
      unfolding added_clauses
      counted_passes f = rw append_assoc (passes_on es _ _ (passes_on es _ _ p q) f)

  -- the counting tree's and the limit's are few
  counters_few : c ≤ 128 → 1 ≤ m * k → length (counters s c) + 16900 ≤ 16900 * (m * k)
  unfolding counters clauses_over
  counters_few h o = clauses_bound c (m * k) N (N + m * k) h o

  limit_few : length (limit s c) ≤ 1
  unfolding limit
  limit_few = one_most (ltb c (m * k)) (off (before c (tree_over (m * k)) N (N + m * k) + suc c) ∷ [])

  pub counted_most : c ≤ 128 → 1 ≤ m * k → m * k ≤ 512 → length (counters s c ++ limit s c) ≤ 8652800
  counted_most h o q = omega (arith, length-append (counters s c) (limit s c), counters_few h o, limit_few)
