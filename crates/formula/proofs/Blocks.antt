-- Each family is its blocks one after another, the formula is the seven families, and it depends on what it is given only for
-- agents below k and vertices below n.
use mathlib.Core.Path.{◌≡◌, refl, sym, ◌∙◌, ap}
use mathlib.Core.List.{List, [], ◌∷◌, ◌++◌}
use mathlib.Core.Bool.{Bool, true, false, not, ◌&&◌, cond}
use mathlib.Core.Logic.{◌≢◌, by_cases}
use Prim.Native.Nat.{ℕ, zero, suc, ◌*◌, ◌/◌, ◌%◌, ◌≤◌, ◌<◌}
use native.Mathlib.Decide.{ℕ_discrete}
use native.Mathlib.Omega.{arith}
use borrow.Author.Tests.{eq-eqb, ne_eqb}
use lib.ListN.{get_or}
use lib.Dec.{ltb}
use Rattle.lists.specs.Loop.{for, when}
use Rattle.lists.proofs.Loops.{for_ext}
use Rattle.lists.proofs.Blocks.{for_flat}
use Rattle.instance.specs.declared.Sizes.{Sizes}
use Rattle.instance.specs.Instance.{Instance, following, free, adjacent, Edges}
use Rattle.instance.proofs.Edges.{edges_for}
use Rattle.formula.specs.Variables.{X, ¬X}
use Rattle.formula.specs.Formula.{Clause, A, B, C, D, E, F, G, no_following, no_exchange, clauses}
use Rattle.formula.specs.Blocks.{Given, given, no_exchange_from, by_blocks, family, times, blocks_at, block}

pub family_blocks : (g : Given) (j : ℕ) → family g j ≡ for (times g.sizes j) λ t. for (blocks_at g.sizes j) (block g j t)
unfolding family block times blocks_at A B C D E F by_blocks
family_blocks g zero = refl
family_blocks g (suc zero) = refl
family_blocks g (suc (suc zero)) = refl
family_blocks g (suc (suc (suc zero))) = refl
family_blocks g (suc (suc (suc (suc zero)))) = refl
family_blocks g (suc (suc (suc (suc (suc zero))))) = refl
family_blocks g (suc (suc (suc (suc (suc (suc zero)))))) = refl
family_blocks g (suc (suc (suc (suc (suc (suc (suc j))))))) = refl

-- with one number for t and x
pub family_flat : (g : Given) (j : ℕ)
    → family g j ≡ for (times g.sizes j * blocks_at g.sizes j) λ i. block g j (i / blocks_at g.sizes j) (i % blocks_at g.sizes j)
family_flat g j = family_blocks g j ∙ for_flat (times g.sizes j) (blocks_at g.sizes j) (block g j)

-- the counts by number
module _ (s : Sizes) where
  open s use {n, k, m}

  pub times_ends : (j : ℕ) → j < 2 → 1 ≡ times s j
  unfolding times
  times_ends zero l = refl
  times_ends (suc zero) l = refl
  times_ends (suc (suc j)) l = absurd (let f : ⊥ = omega arith in f)

  pub times_rows : (j : ℕ) → 2 ≤ j → j < 5 → suc m ≡ times s j
  unfolding times
  times_rows zero h l = absurd (let f : ⊥ = omega arith in f)
  times_rows (suc zero) h l = absurd (let f : ⊥ = omega arith in f)
  times_rows (suc (suc zero)) h l = refl
  times_rows (suc (suc (suc zero))) h l = refl
  times_rows (suc (suc (suc (suc zero)))) h l = refl
  times_rows (suc (suc (suc (suc (suc j))))) h l = absurd (let f : ⊥ = omega arith in f)

  pub times_steps : (j : ℕ) → 5 ≤ j → j < 7 → m ≡ times s j
  unfolding times
  times_steps j h l =
      by_cases (ℕ_discrete j 5) (λ e. ap (times s) (sym e)) (λ d. let e : j ≡ 6 = omega arith in ap (times s) (sym e))

  -- E's are of a vertex, and so are G's where agents may follow
  pub blocks_agents : (j : ℕ) → j < 7 → j ≢ 4 → (j ≡ 6 → s.rule ≢ 2) → k ≡ blocks_at s j
  unfolding blocks_at
  blocks_agents zero l d f = refl
  blocks_agents (suc zero) l d f = refl
  blocks_agents (suc (suc zero)) l d f = refl
  blocks_agents (suc (suc (suc zero))) l d f = refl
  blocks_agents (suc (suc (suc (suc zero)))) l d f = absurd (d refl)
  blocks_agents (suc (suc (suc (suc (suc zero))))) l d f = refl
  blocks_agents (suc (suc (suc (suc (suc (suc zero)))))) l d f = sym (ap (λ (b : Bool). cond b n k) (ne_eqb s.rule 2 (f refl)))
  blocks_agents (suc (suc (suc (suc (suc (suc (suc j))))))) l d f = absurd (let f : ⊥ = omega arith in f)

  pub blocks_vertices : (j : ℕ) → j ≡ 4 → n ≡ blocks_at s j
  unfolding blocks_at
  blocks_vertices j e = ap (blocks_at s) (sym e)

  pub blocks_ends : (j : ℕ) → j ≡ 6 → s.rule ≡ 2 → n ≡ blocks_at s j
  unfolding blocks_at
  blocks_ends j e f = sym (ap (λ (b : Bool). cond b n k) (eq-eqb s.rule 2 f)) ∙ ap (blocks_at s) (sym e)

-- the edges of G in stored order are taken by their low ends
module _ (I : Instance) (w : Edges I) where
  open I use {sizes, low, high}
  open sizes use {n, k, e, m}

  by_rule_lem : (f : Bool) → cond f (for m λ t. for e λ j. no_exchange sizes t (low j) (high j)) (for m λ t. for k λ a. no_following sizes t a)
      ≡ for m λ t. for (cond f n k) λ x. cond f (no_exchange_from sizes (adjacent I) t x) (no_following sizes t x)
  by_rule_lem true = for_ext m _ _ (λ t l. edges_for I w (no_exchange sizes t))
  by_rule_lem false = refl

  pub G_blocks : G sizes low high ≡ by_blocks sizes (adjacent I)
  unfolding G by_blocks
  G_blocks = by_rule_lem (following sizes)

-- the families of an instance, G's edges in stored order
module _ (I : Instance) where
  open I use {sizes, low, high, start, goal}

  abbrev pub stored : ℕ → List Clause
  stored j = get_or (A sizes start ∷ B sizes goal ∷ C sizes ∷ D sizes ∷ E sizes ∷ F sizes (adjacent I) ∷ G sizes low high ∷ []) j []

  pub clauses_stored : clauses I ≡ for 7 stored
  unfolding clauses
  clauses_stored = refl

pub clauses_families : (I : Instance) → Edges I → clauses I ≡ for 7 (family (given I))
unfolding family
clauses_families I w = clauses_stored I ∙ ap (λ (l : List Clause). for 6 (stored I) ++ l) (G_blocks I w)

-- the same sizes, and the same as far as the sizes go
pub record Same (g h : Given) : Type 0 where
  pub sizes : g.sizes ≡ h.sizes
  pub start : (a : ℕ) → a < g.sizes.k → g.start a ≡ h.start a
  pub goal : (a : ℕ) → a < g.sizes.k → g.goal a ≡ h.goal a
  pub near : (v w : ℕ) → v < g.sizes.n → w < g.sizes.n → g.near v w ≡ h.near v w

module _ (g h : Given) (e : Same g h) where
  open g.sizes use {n, k, m}

  -- with the sizes of g
  again : Given
  again = record { sizes = g.sizes; start = h.start; goal = h.goal; near = h.near }

  family_again : (j : ℕ) → family g j ≡ family again j
  unfolding family A B F by_blocks again
  family_again zero = for_ext k _ _ (λ a l. ap (λ (v : ℕ). (X g.sizes 0 a v ∷ []) ∷ []) (e.start a l))
  family_again (suc zero) = for_ext k _ _ (λ a l. ap (λ (v : ℕ). when (not (free v)) ((X g.sizes m a v ∷ []) ∷ [])) (e.goal a l))
  family_again (suc (suc zero)) = refl
  family_again (suc (suc (suc zero))) = refl
  family_again (suc (suc (suc (suc zero)))) = refl
  family_again (suc (suc (suc (suc (suc zero))))) =
      for_ext m _ _ (λ t l.
      for_ext k _ _ (λ a r.
      for_ext n _ _ (λ v p.
      ap (λ (c : Clause). (¬X g.sizes t a v ∷ X g.sizes (suc t) a v ∷ c) ∷ [])
      (for_ext n _ _ (λ w q. ap (λ (b : Bool). when b (X g.sizes (suc t) a w ∷ [])) (e.near v w p q))))))
  family_again (suc (suc (suc (suc (suc (suc zero)))))) =
      for_ext m _ _ (λ t l. by_near (following g.sizes) t)
    where
      by_near : (f : Bool) (t : ℕ) → for (cond f n k) (λ x. cond f (no_exchange_from g.sizes g.near t x) (no_following g.sizes t x))
          ≡ for (cond f n k) (λ x. cond f (no_exchange_from g.sizes h.near t x) (no_following g.sizes t x))
      by_near true t =
          for_ext n _ _ (λ u p. for_ext n _ _ (λ v q. ap (λ (b : Bool). when (ltb u v && b) (no_exchange g.sizes t u v)) (e.near u v p q)))
      by_near false t = refl
  family_again (suc (suc (suc (suc (suc (suc (suc j))))))) = refl

  pub family_same : (j : ℕ) → family g j ≡ family h j
  unfolding again
  family_same j = family_again j ∙ ap (λ (s : Sizes). family (record { sizes = s; start = h.start; goal = h.goal; near = h.near }) j) e.sizes

-- the last family, by what a `match` leaves to its last arm
pub last : (j : ℕ) → j < 7 → (((((Unit {0} × (j ≢ 0)) × (j ≢ 1)) × (j ≢ 2)) × (j ≢ 3)) × (j ≢ 4)) × (j ≢ 5) → j ≡ 6
last j l o = omega (arith, o.1, o.0.1, o.0.0.1, o.0.0.0.1, o.0.0.0.0.1, o.0.0.0.0.0.1)
