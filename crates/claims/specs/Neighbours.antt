-- What is claimed of the words of neighbours that stand beside the edge arrays in the checked instance.
use Rattle.std.specs.Prelude.{◌≡◌, ◌↔◌, List, [], ◌∷◌, ℕ, ◌*◌, ◌≤◌, length, get_or}
use Rattle.std.specs.Int.Count.{ones}
use Rattle.lists.specs.Loop.{for, when, sum}
use Rattle.bits.specs.Bits.{bit, set?}
use Rattle.instance.specs.Instance.{Instance, instance, neighbours, degree, Edge}
use Rattle.instance.specs.Questions.{instance_answer, instance_checked}

-- the words `near` and the edges of an instance
module _ (I : Instance) (near : List ℕ) where
  -- the word of vertex v
  abbrev word : ℕ → ℕ
  word v = get_or near v 0

  pub record SameGraph : Type 0 where
    -- a word for each of 64 vertices
    pub count : length near ≡ 64
    -- bit w of word v is set exactly when the arrays have an edge with these two ends
    pub edges : (v w : ℕ) → (bit (word v) w ≡ 1) ↔ Edge I v w
    -- no bit from n on, and none in a word from n on
    pub unset : (v w : ℕ) → I.sizes.n ≤ v → bit (word v) w ≡ 0
    pub within : (v w : ℕ) → I.sizes.n ≤ w → bit (word v) w ≡ 0
    -- the neighbours of a vertex, rising, come from its word
    pub rising : (v : ℕ) → (for 64 λ w. when (set? (word v) w) (w ∷ [])) ≡ neighbours I v
    -- how many they are, from the count of ones
    pub degrees : (v : ℕ) → ones (word v) ≡ degree I v
    -- the degrees add up to 2e
    pub handshake : sum I.sizes.n (λ v. ones (word v)) ≡ 2 * I.sizes.e

-- for every accepted instance, horizon and rule
pub record Claim : Type 0 where
  pub graph : (b : List ℕ) (m rule : ℕ) → (instance_answer b m rule).number ≡ 0 → SameGraph (instance b m rule) (instance_checked b m rule).near
