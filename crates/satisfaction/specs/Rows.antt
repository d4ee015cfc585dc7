-- The clauses of a family, one time after another, and what a pass over the entries finds. They stand in the contracts of inner functions.
use Rattle.std.specs.Prelude.{◌≡◌, ◌↔◌, ◌≢◌, List, [], Bool, not, ◌&&◌, ℕ, suc, ◌+◌, ◌≤◌, ◌<◌, length, get_or, T, ltb, eqb, ℤ, pos, neg_ℤ, Option, None, Some, Result, Ok, Err}
use Rattle.lists.specs.Loop.{for, all, some, every}
use Rattle.answers.specs.Fault.{FirstFault, FirstFailing}
use Rattle.instance.specs.declared.Sizes.{Sizes}
use Rattle.formula.specs.Variables.{X, variable_count}
use Rattle.formula.specs.Formula.{Clause}
use Rattle.formula.specs.Blocks.{Given, blocks_at, family, block}
use Rattle.conditions.specs.Inside.{Inside}
use Rattle.plan.specs.Plan.{Row, plan_bytes, plan_row, condition1}
use Rattle.valuation.specs.Valuation.{entry, same_number, true?, satisfied?, right_entry}
use Rattle.valuation.specs.Satisfying.{Valuation}
use Rattle.satisfaction.specs.declared.Said.{Said}
use Rattle.satisfaction.specs.declared.Said.TheVariants.{Nothing, One, Several}

-- r is the place of the first of the clauses without a true literal, or their number where each has one
unfoldable pub Fault : List ℤ → List Clause → ℕ → Type 0
Fault entries clauses r = FirstFault (length clauses) (λ i. satisfied? entries (get_or clauses i [])) r

-- the same as an option: the place of the first without one, or none
unfoldable pub Failing : List ℤ → List Clause → Option ℕ → Type 0
Failing entries clauses r = FirstFailing (length clauses) (λ i. satisfied? entries (get_or clauses i [])) r

-- r is the first number from `low` on, below n, that fails the test, or n
pub record Stop (test : ℕ → Bool) (low n r : ℕ) : Type 0 where
  pub least : low ≤ r
  pub within : r ≤ n
  pub before : (i : ℕ) → low ≤ i → i < r → T (test i)
  pub here : r < n → T (test r) → ⊥

-- the same as an option
abbrev pub Stopping : (ℕ → Bool) → ℕ → ℕ → Option ℕ → Type 0
Stopping test low n (Some r) = (r < n) × Stop test low n r
Stopping test low n None = Stop test low n n

-- of the numbers below n: how many fail the test, and the sum of those that do
pub record Tallied (test : ℕ → Bool) (n count sum : ℕ) : Type 0 where
  pub none : count ≡ 0 → (sum ≡ 0) × ((i : ℕ) → i < n → T (test i))
  pub one : count ≡ 1 → (sum < n) × (T (test sum) → ⊥) × ((i : ℕ) → i < n → i ≢ sum → T (test i))
  pub more : 2 ≤ count → (v w : ℕ) × (v < w) × (w < n) × (T (test v) → ⊥) × (T (test w) → ⊥)

-- entry i is the variable number i + 1; entry i is its negative
module _ (entries : List ℤ) where
  abbrev pub says : ℕ → Bool
  says i = same_number (entry entries i) (pos (suc i))

  abbrev pub denies : ℕ → Bool
  denies i = same_number (entry entries i) (neg_ℤ (pos (suc i)))

-- x is the one number below n that passes the test; n where none does, n + 1 where several do
pub record Seen (n : ℕ) (test : ℕ → Bool) (x : ℕ) : Type 0 where
  pub most : x ≤ suc n
  pub one : x < n → (v : ℕ) → v < n → T (test v) ↔ (v ≡ x)
  pub none : x ≡ n → (v : ℕ) → v < n → T (test v) → ⊥
  pub several : x ≡ suc n → (v w : ℕ) × (v < w) × (w < n) × T (test v) × T (test w)

-- what entries say, as the number that Seen speaks of
abbrev pub byte_of : ℕ → Said → ℕ
byte_of n Nothing = n
byte_of n (One v) = v
byte_of n Several = suc n

-- what n entries from `base` on come to: the first wrong one, or what they say
abbrev pub Came : List ℤ → ℕ → ℕ → Result Said ℕ → Type 0
Came entries base n (Ok said) = Stopping (right_entry entries) base (base + n) None × Seen n (λ v. says entries (base + v)) (byte_of n said)
Came entries base n (Err wrong) = Stopping (right_entry entries) base (base + n) (Some wrong)

-- r is the lowest number below n that P gives to two numbers below k, or n
pub record Lowest (k : ℕ) (P : ℕ → ℕ) (n r : ℕ) : Type 0 where
  pub within : r ≤ n
  pub before : (a b : ℕ) → a < b → b < k → P a ≡ P b → r ≤ P a
  pub here : r < n → (a b : ℕ) × (a < b) × (b < k) × (P a ≡ r) × (P b ≡ r)

-- the same as an option
abbrev pub LowestShared : ℕ → (ℕ → ℕ) → ℕ → Option ℕ → Type 0
LowestShared k P n (Some r) = (r < n) × Lowest k P n r
LowestShared k P n None = Lowest k P n n

module _ (s : Sizes) where
  open s use {n, k, m}

  -- byte t·k + a of p is what the entries say of agent a at time t
  pub record Read (entries : List ℤ) (p : List ℕ) : Type 0 where
    pub size : length p ≡ plan_bytes s
    pub valid : Valuation (variable_count s) entries
    pub seen : (t a : ℕ) → t < suc m → a < k → Seen n (λ v. true? entries (X s t a v)) (plan_row s p t a)

  -- what families C to F leave to G of the plan p, at a time t of G's: each agent is at a vertex, no two share one, and each keeps its
  -- vertex or crosses an edge
  pub record Sound (near : ℕ → ℕ → Bool) (p : List ℕ) (t : ℕ) : Type 0 where
    pub size : length p ≡ plan_bytes s
    pub time : t < m
    pub bytes : Inside p
    pub inside : (a : ℕ) → a < k → plan_row s p t a < n
    pub apart : (a b : ℕ) → a < b → b < k → plan_row s p t a ≢ plan_row s p t b
    pub crosses : (a : ℕ) → a < k → T (condition1 near (plan_row s p t) (plan_row s p (suc t)) a)

-- agent a goes from u to v
abbrev pub goes : Row → Row → ℕ → ℕ → ℕ → Bool
goes here next u v a = eqb (here a) u && eqb (next a) v

-- of k agents, one goes from u up to v, and one from v to u
unfoldable pub crossed : ℕ → Row → Row → ℕ → ℕ → Bool
crossed k here next u v = ltb u v && (some k (goes here next u v) && some k (goes here next v u))

-- u is the lowest number below n that a test of pairs holds for with some number below n, and v the lowest of those
abbrev pub LowestCrossed : ℕ → (ℕ → ℕ → Bool) → Option (ℕ × ℕ) → Type 0
LowestCrossed n test (Some (u, v)) = FirstFailing n (λ u. every n λ v. not (test u v)) (Some u) × FirstFailing n (λ v. not (test u v)) (Some v)
LowestCrossed n test None = FirstFailing n (λ u. every n λ v. not (test u v)) None

module _ (g : Given) where
  -- row t of the family with a number: its blocks of time t
  unfoldable pub row : ℕ → ℕ → List Clause
  row j t = for (blocks_at g.sizes j) (block g j t)

  -- the entries satisfy the families before the one with this number
  unfoldable pub Before : List ℤ → ℕ → Type 0
  Before entries j = (i : ℕ) → i < j → T (all (satisfied? entries) (family g i))
