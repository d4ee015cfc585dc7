-- The words of the neighbours and the edge arrays mean the same graph.
use mathlib.Core.Path.{◌≡◌, sym, ◌∙◌, ap, fun_ext}
use mathlib.Core.Logic.{⊎_elim, by_cases}
use mathlib.Core.List.{[], ◌∷◌}
use mathlib.Core.Bool.{Bool, false}
use Prim.Native.Nat.{ℕ, ◌+◌, ◌-◌, ◌*◌, ◌^◌, ◌≤◌, ◌<◌}
use native.Mathlib.Decide.{dec_lt}
use native.Mathlib.Omega.{arith}
use lib.Count.{ones}
use lib.Dec.{eqb}
use lib.ListN.{length, get_or, get_or-eq_default}
use lib.Pow.{pow_pos}
use Rattle.lists.specs.Loop.{for, when, sum}
use Rattle.lists.proofs.Loops.{for_ext}
use Rattle.lists.proofs.Sums.{sum_ext}
use Rattle.lists.proofs.Blocks.{for1_length, for1_get_or}
use Rattle.answers.proofs.Faults.{T_false}
use Rattle.bits.specs.Bits.{bit, word}
use Rattle.bits.proofs.Bits.{bit_zero, bit_beyond, word_lt, word_set, ones_count}
use Rattle.bits.proofs.Lowest.{skip_for}
use Rattle.instance.specs.Instance.{Instance, adjacent, neighbours, degree, neighbour_words, joined, Edges}
use Rattle.instance.proofs.Graph.{adjacent_iff, handshake}

module _ (I : Instance) where
  open I use {sizes}
  open sizes use {n, e}

  pub words_length : length (neighbour_words I) ≡ 64
  unfolding neighbour_words
  words_length = for1_length 64 (λ v. word n (adjacent I v))

  pub word_at : (v : ℕ) → v < 64 → get_or (neighbour_words I) v 0 ≡ word n (adjacent I v)
  unfolding neighbour_words
  word_at v h = for1_get_or 64 (λ v. word n (adjacent I v)) 0 v h

  word_beyond : (v : ℕ) → 64 ≤ v → get_or (neighbour_words I) v 0 ≡ 0
  word_beyond v h = get_or-eq_default (neighbour_words I) 0 {n = v} (omega (arith, words_length))

  -- no bit from n on
  pub word_below : (v : ℕ) → get_or (neighbour_words I) v 0 < 2 ^ n
  word_below v =
      by_cases (dec_lt v 64)
      (λ l. rw (word_at v l) (word_lt n (adjacent I v)))
      (λ l. rw (word_beyond v (omega arith)) (pow_pos n))

  module _ (g : Edges I) (h : n ≤ 64) where
    -- no neighbour is beyond n, and nothing beyond n has one
    pub none_beyond : (v w : ℕ) → (v < n → w < n → ⊥) → adjacent I v w ≡ false
    none_beyond v w f =
        T_false (adjacent I v w) (λ t.
        let (j, q, s) = (adjacent_iff I v w).0 t in
        let (o, p) = g.ends j q in
        ⊎_elim (λ (c, d). f (omega arith) (omega arith)) (λ (c, d). f (omega arith) (omega arith)) s)

    no_bit : (v w : ℕ) → bit (get_or (neighbour_words I) v 0) w ≡ 0 → (v < n → w < n → ⊥) → joined (neighbour_words I) v w ≡ adjacent I v w
    no_bit v w e f = ap (λ (b : ℕ). eqb b 1) e ∙ sym (none_beyond v w f)

    -- bit w of word v is set exactly where some edge has the ends v and w
    pub joined_at : (v w : ℕ) → joined (neighbour_words I) v w ≡ adjacent I v w
    joined_at v w =
        by_cases (dec_lt w n)
        (λ r.
        by_cases (dec_lt v 64)
        (λ l. rw (word_at v l) (word_set n (adjacent I v) w r))
        (λ l. no_bit v w (ap (λ (x : ℕ). bit x w) (word_beyond v (omega arith)) ∙ bit_zero w) (λ p q. l (omega arith))))
        (λ r. no_bit v w (bit_beyond (get_or (neighbour_words I) v 0) n w (word_below v) (omega arith)) (λ p q. r q))

    pub joined_adjacent : joined (neighbour_words I) ≡ adjacent I
    joined_adjacent = fun_ext (λ v. fun_ext (joined_at v))

    -- the neighbours, rising, are those of the bits
    pub word_neighbours : (v : ℕ) → (for 64 λ w. when (joined (neighbour_words I) v w) (w ∷ [])) ≡ neighbours I v
    word_neighbours v =
        let d : n + (64 - n) ≡ 64 = omega arith in
        ap (λ (x : ℕ). for x λ w. when (joined (neighbour_words I) v w) (w ∷ [])) (sym d)
        ∙ skip_for (λ w. when (joined (neighbour_words I) v w) (w ∷ [])) n (64 - n) (λ w p q.
        ap (λ (t : Bool). when t (w ∷ [])) (joined_at v w ∙ none_beyond v w (λ x y. omega arith)))
        ∙ for_ext n _ _ (λ w l. ap (λ (t : Bool). when t (w ∷ [])) (joined_at v w))

    -- the ones are the degree
    pub word_degree : (v : ℕ) → ones (get_or (neighbour_words I) v 0) ≡ degree I v
    word_degree v =
        sym (ones_count n (get_or (neighbour_words I) v 0) (λ w. w) (word_below v))
        ∙ ap length (for_ext n _ _ (λ w l. ap (λ (t : Bool). when t (w ∷ [])) (joined_at v w)))

    -- the degrees add up to 2e
    pub words_handshake : sum n (λ v. ones (get_or (neighbour_words I) v 0)) ≡ 2 * e
    words_handshake = sum_ext n _ _ (λ v l. word_degree v) ∙ handshake I g
