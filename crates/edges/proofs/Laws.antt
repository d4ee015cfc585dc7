-- The bits of a word of neighbours above bit u are the high ends of the edges with the low end u.
use mathlib.Core.Path.{◌≡◌, sym, ◌∙◌, ap}
use mathlib.Core.List.{List, [], ◌∷◌}
use mathlib.Core.Bool.{Bool}
use Prim.Native.Nat.{ℕ, ◌^◌, ◌≤◌, ◌<◌}
use lib.Count.{ones}
use lib.ListN.{length}
use Rattle.lists.specs.Loop.{when, sum}
use Rattle.lists.proofs.Loops.{for_ext}
use Rattle.lists.proofs.Sums.{when_count, count_most}
use Rattle.lists.proofs.Passing.{passing}
use Rattle.bits.specs.Bits.{set?}
use Rattle.bits.proofs.Bits.{ones_count}
use Rattle.instance.specs.Instance.{joined, upward, higher}

-- how many edges between n vertices have a low end below u
abbrev pub lower_edges : List ℕ → ℕ → ℕ → ℕ
lower_edges near n u = sum u λ x. length (higher (joined near) x n)

module _ (near : List ℕ) (u : ℕ) where
  pub higher_most : (v : ℕ) → length (higher (joined near) u v) ≤ v
  higher_most v = rw (when_count v (upward (joined near) u) (λ w. w)) (count_most v (upward (joined near) u))

  -- `above` are those bits
  module _ (above : ℕ) (e : (w : ℕ) → set? above w ≡ upward (joined near) u w) where
    pub passing_higher : (v : ℕ) → passing (set? above) v ≡ length (higher (joined near) u v)
    passing_higher v = ap length (for_ext v _ _ (λ w l. ap (λ (b : Bool). when b (w ∷ [])) (e w)))

    pub ones_higher : (n : ℕ) → above < 2 ^ n → ones above ≡ length (higher (joined near) u n)
    ones_higher n h = sym (ones_count n above (λ w. w) h) ∙ passing_higher n
