-- The clause at a place of a block, as it is put together, and how many clauses a block has.
use mathlib.Core.Path.{◌≡◌, refl, sym, ◌∙◌, ap}
use mathlib.Core.Logic.{◌≢◌}
use mathlib.Core.List.{List, [], ◌∷◌}
use mathlib.Core.Bool.{Bool}
use Prim.Native.Nat.{ℕ, zero, suc, ◌+◌, ◌*◌, ◌-◌, ◌/◌, ◌%◌, ◌≤◌, ◌<◌}
use native.Mathlib.Nat.{div-add-mod', add-mul, mul_assoc, add_assoc}
use borrow.Author.Tests.{ne_eqb}
use lib.ListN.{length, get_or}
use lib.IntN.{ℤ}
use lib.Dec.{T}
use Rattle.lists.specs.Slice.{Wrote}
use Rattle.lists.proofs.Blocks.{for1_length, for1_get_or, cell_at}
use Rattle.instance.specs.declared.Sizes.{Sizes}
use Rattle.instance.specs.Instance.{upward, edges_before}
use Rattle.formula.specs.Variables.{Literal, ¬X}
use Rattle.formula.specs.Formula.{Clause, line, no_two, onward, block_f, no_following, exchange, no_exchange}
use Rattle.formula.specs.Blocks.{Given, blocks_at, block, family}
use Rattle.formula.proofs.Places.{two_length, two_get_or, others_size, others_get_or, exchange_get_or, exchange_family}
use Rattle.one_clause.specs.Spot.{count_each, PairAt}

-- the clause asked for is the one that was put
module _ {asked put : Clause} (e : asked ≡ put) where
  pub room_put : {n : ℕ} → length (line asked) ≤ n → length (line put) ≤ n
  room_put h = rw e at h

  pub wrote_put : (s f : List ℤ) {r : ℕ} → Wrote (line put) s f r → Wrote (line asked) s f r
  wrote_put s f w = rw e w

-- D and E
pub pair_clause : (n : ℕ) (¬x : ℕ → Literal) {p low high : ℕ} → PairAt n p low high → get_or (no_two n ¬x) p [] ≡ ¬x low ∷ ¬x high ∷ []
pair_clause n ¬x {p} {low} {high} q =
    ap (λ (i : ℕ). get_or (no_two n ¬x) i []) q.at ∙ two_get_or n ¬x low high q.order q.below

module _ (s : Sizes) (t a : ℕ) where
  open s use {n, k}

  -- F, of vertex v
  pub onward_clause : (near : ℕ → ℕ → Bool) (v : ℕ) → v < n → get_or (block_f s near t a) v [] ≡ onward s (near v) t a v
  onward_clause near v l = for1_get_or n (λ v. onward s (near v) t a v) [] v l

  -- G, by the agent b at place p / n among those other than a
  pub other_clause : a < k → (p b : ℕ) → p < (k - 1) * n → (p / n < a → b ≡ p / n) → (a ≤ p / n → b ≡ suc (p / n))
      → get_or (no_following s t a) p [] ≡ ¬X s t b (p % n) ∷ ¬X s (suc t) a (p % n) ∷ []
  other_clause q p b h low high =
      let i = cell_at (k - 1) n p h in
      ap (λ (x : ℕ). get_or (no_following s t a) x []) (sym (div-add-mod' p n))
      ∙ others_get_or s t a q (p / n) b (p % n) i.1.0 i.1.1 low high

-- G under rule 2, at a place of the family
module _ (g : Given) (place : ℕ) where
  open g.sizes use {n, k, e, m}

  abbrev each : ℕ
  each = k * (k - 1)

  -- the edge, counted through all times; its place for two agents; the first of them, and the place of the other
  abbrev i : ℕ
  i = place / each

  abbrev p : ℕ
  p = place % each

  abbrev a : ℕ
  a = p / (k - 1)

  abbrev o : ℕ
  o = p % (k - 1)

  pub record Exchange : Type 0 where
    pub clauses : 0 < each
    pub edges : 0 < e
    pub others : 0 < k - 1
    pub step : i / e < m
    pub edge : i % e < e
    pub agents : p < each
    pub first : a < k
    pub second : o < k - 1

  pub exchange_at : place < m * e * each → Exchange
  exchange_at l =
      let (some, (x, y)) = cell_at (m * e) each place l in
      let (wide, (t, j)) = cell_at m e i x in
      let (more, (u, v)) = cell_at k (k - 1) p y in
      record { clauses = some; edges = wide; others = more; step = t; edge = j; agents = y; first = u; second = v }

  exchange_place : (j : ℕ) → i % e ≡ j → place ≡ i / e * (e * each) + (j * each + p)
  exchange_place j z =
      sym (div-add-mod' place each)
      ∙ ap (λ (x : ℕ). x * each + p) (sym (div-add-mod' i e) ∙ ap (λ (x : ℕ). i / e * e + x) z)
      ∙ simp (add-mul, mul_assoc, add_assoc)

  -- the clause there, where the edge has the ends u and v, and b is the other agent
  pub exchange_clause : g.sizes.rule ≡ 2 → g.sizes.e ≡ edges_before g.near n n 0 → Exchange → (u v b : ℕ) → u < n → v < n → T (upward g.near u v)
      → i % e ≡ edges_before g.near n u v → (o < a → b ≡ o) → (a ≤ o → b ≡ suc o)
      → get_or (family g 6) place [] ≡ exchange g.sizes (i / e) u v a b
  exchange_clause two h q u v b l r up z low high =
      ap (λ (x : ℕ). get_or (family g 6) x []) (exchange_place (edges_before g.near n u v) z)
      ∙ exchange_family g two h (i / e) u v p q.step l r up q.agents
      ∙ ap (λ (x : ℕ). get_or (no_exchange g.sizes (i / e) u v) x []) (sym (div-add-mod' p (k - 1)))
      ∙ exchange_get_or g.sizes (i / e) a q.first u v o b q.second low high

-- how many clauses a block has, but in B and in G under rule 2
pub block_length : (g : Given) (j t x : ℕ) → j ≢ 1 → (j ≡ 6 → g.sizes.rule ≢ 2) → x < blocks_at g.sizes j → length (block g j t x) ≡ count_each g.sizes j
unfolding block blocks_at
block_length g zero t x d o l = refl
block_length g (suc zero) t x d o l = absurd (d refl)
block_length g (suc (suc zero)) t x d o l = refl
block_length g (suc (suc (suc zero))) t x d o l = two_length g.sizes.n (λ v. ¬X g.sizes t x v)
block_length g (suc (suc (suc (suc zero)))) t x d o l = two_length g.sizes.k (λ a. ¬X g.sizes t a x)
block_length g (suc (suc (suc (suc (suc zero))))) t x d o l = for1_length g.sizes.n (λ v. onward g.sizes (g.near v) t x v)
block_length g (suc (suc (suc (suc (suc (suc zero)))))) t x d o l =
    rw (ne_eqb g.sizes.rule 2 (o refl)) (others_size g.sizes t x (rw (ne_eqb g.sizes.rule 2 (o refl)) at l))
block_length g (suc (suc (suc (suc (suc (suc (suc j))))))) t x d o l = refl
