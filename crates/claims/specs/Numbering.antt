-- What is claimed of the variables' numbers, and of accepted valuations and plans by those numbers.
use Rattle.std.specs.Prelude.{◌≡◌, ◌↔◌, ◌≢◌, List, ℕ, ◌+◌, ◌*◌, ◌≤◌, ◌<◌, length, get_or, ℤ, pos, neg_ℤ}
use Rattle.instance.specs.declared.Sizes.{Sizes}
use Rattle.instance.specs.Instance.{instance}
use Rattle.instance.specs.Questions.{instance_answer}
use Rattle.formula.specs.Variables.{X, ¬X, variable_count}
use Rattle.valuation.specs.Valuation.{entry}
use Rattle.calls.specs.Calls.{decode_answer, encode_answer}
use Rattle.claims.specs.Correspondence.{Accepts, bytes, N, handed_back, written}

module _ (s : Sizes) where
  open s use {n, k, m}

  -- the number of X(t,a,v)
  abbrev pub number : ℕ → ℕ → ℕ → ℕ
  number t a v = 1 + (a * (m + 1) + t) * n + v

  -- a time, an agent and a vertex
  abbrev pub InRange : ℕ → ℕ → ℕ → Type 0
  InRange t a v = (t ≤ m) × (a < k) × (v < n)

  pub record Numbers : Type 0 where
    pub yes : (t a v : ℕ) → X s t a v ≡ pos (number t a v)
    pub no : (t a v : ℕ) → ¬X s t a v ≡ neg_ℤ (pos (number t a v))
    -- the numbers in use are 1 to N, each for one time, agent and vertex
    pub all : (x : ℕ) → ((1 ≤ x) × (x ≤ variable_count s)) ↔ ((t a v : ℕ) × InRange t a v × (x ≡ number t a v))
    pub once : (t a v u b w : ℕ) → InRange t a v → InRange u b w → number t a v ≡ number u b w → (t ≡ u) × (a ≡ b) × (v ≡ w)
    -- an agent's whole history is one stretch of (m+1)·n numbers, behind those of the agents before it
    pub stretch : (a x : ℕ) → a < k → ((a * ((m + 1) * n) < x) × (x ≤ (a + 1) * ((m + 1) * n))) ↔ ((t v : ℕ) × InRange t a v × (x ≡ number t a v))

  -- the entry of X(t,a,v), whose index is one less than its number, says whether byte t·k + a of the plan is v
  pub record Told (entries : List ℤ) (p : List ℕ) : Type 0 where
    pub yes : (t a v : ℕ) → InRange t a v → (entry entries ((a * (m + 1) + t) * n + v) ≡ pos (number t a v)) ↔ (get_or p (t * k + a) 0 ≡ v)
    pub no : (t a v : ℕ) → InRange t a v → (entry entries ((a * (m + 1) + t) * n + v) ≡ neg_ℤ (pos (number t a v))) ↔ (get_or p (t * k + a) 0 ≢ v)

module _ (b : List ℕ) (m rule : ℕ) where
  abbrev sizes : Sizes
  sizes = (instance b m rule).sizes

  pub record Numbering : Type 0 where
    pub numbers : Numbers sizes
    -- the decoder's plan, and the encoder's valuation
    pub decoded : (entries : List ℤ) (s : List ℕ) → bytes b m rule ≤ length s → Accepts (decode_answer b m rule entries (length s)) → Told sizes entries (handed_back b m rule entries s)
    pub encoded : (p : List ℕ) (z : List ℤ) → N b m rule ≤ length z → Accepts (encode_answer b m rule p (length z)) → Told sizes (written b m rule p z) p

-- for every accepted instance, horizon and rule
abbrev pub Claim : Type 0
Claim = (b : List ℕ) (m rule : ℕ) → Accepts (instance_answer b m rule) → Numbering b m rule
