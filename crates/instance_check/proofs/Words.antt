-- Edges marked in words: one more, and all of them.
use mathlib.Core.Path.{◌≡◌, refl, sym, ◌∙◌, ap, ap₂}
use mathlib.Core.Logic.{◌≢◌, by_cases}
use mathlib.Core.List.{List}
use mathlib.Core.Bool.{Bool, ◌&&◌, ◌||◌, or_assoc, and_comm}
use Prim.Native.Nat.{ℕ, ◌+◌, ◌^◌, ◌≤◌, ◌<◌}
use native.Mathlib.Decide.{ℕ_discrete}
use native.Mathlib.Numerals.{add-one}
use native.Mathlib.Omega.{arith}
use borrow.Author.Tests.{eq-eqb, ne_eqb}
use lib.Bits.{bit_or}
use lib.Dec.{eqb}
use lib.ListN.{length, get_or, set, length-set, replicate, get_or-replicate}
use lib.Seq.{get_or-set_same, get_or-set_other, ext_get_or}
use Rattle.lists.specs.Loop.{some}
use Rattle.lists.proofs.Tests.{or_false}
use Rattle.bits.specs.Bits.{set?}
use Rattle.bits.proofs.Bits.{bit_zero, set_or, set_pow, same_set}
use Rattle.instance.specs.Instance.{instance, vertices, edges, low_end, high_end, joins, joined, adjacent, neighbour_words, Edges}
use Rattle.instance.proofs.Neighbours.{words_length, joined_at}
use Rattle.instance_check.specs.Marked.{Ends, Marked}

-- bit y of word x set
abbrev mark : List ℕ → ℕ → ℕ → List ℕ
mark l x y = set l x (bit_or (get_or l x 0) (2 ^ y))

mark_one : (l : List ℕ) (x y v w : ℕ) → x < length l → joined (mark l x y) v w ≡ joined l v w || eqb x v && eqb y w
mark_one l x y v w h =
    by_cases (ℕ_discrete v x)
    (λ s. rw (s, get_or-set_same l x (bit_or (get_or l x 0) (2 ^ y)) 0 h, eq-eqb x x refl) (set_or (get_or l x 0) (2 ^ y) w ∙ ap (λ (z : Bool). joined l x w || z) (set_pow y w)))
    (λ d. rw (get_or-set_other l x v (bit_or (get_or l x 0) (2 ^ y)) 0 d, ne_eqb x v (λ p. d (sym p)), or_false))

-- an edge between x and y
mark_both : (l : List ℕ) (x y v w : ℕ) → x < 64 → y < 64 → length l ≡ 64
    → joined (mark (mark l x y) y x) v w ≡ joined l v w || (eqb x v && eqb y w || eqb x w && eqb y v)
mark_both l x y v w hx hy n =
    mark_one (mark l x y) y x v w (simp length-set (omega arith))
    ∙ ap (λ (z : Bool). z || eqb y v && eqb x w) (mark_one l x y v w (omega arith))
    ∙ or_assoc (joined l v w) (eqb x v && eqb y w) (eqb y v && eqb x w)
    ∙ ap (λ (z : Bool). joined l v w || (eqb x v && eqb y w || z)) (and_comm (eqb y v) (eqb x w))

-- the same, where word x stands beside the others
kept : (l : List ℕ) (row x y v : ℕ) → x < 64 → y < 64 → x < y → length l ≡ 64
    → get_or (set (set l y (bit_or (get_or l y 0) (2 ^ x))) x (bit_or row (2 ^ y))) v 0 ≡ get_or (mark (mark (set l x row) x y) y x) v 0
kept l row x y v hx hy o n =
    let d : x ≢ y = λ e. omega arith in
    let d' : y ≢ x = λ e. omega arith in
    by_cases (ℕ_discrete v x)
    (λ s.
    rw (s, get_or-set_same (set l y (bit_or (get_or l y 0) (2 ^ x))) x (bit_or row (2 ^ y)) 0 (simp length-set (omega arith)))
    (sym (get_or-set_other (mark (set l x row) x y) y x (bit_or (get_or (mark (set l x row) x y) y 0) (2 ^ x)) 0 d
    ∙ get_or-set_same (set l x row) x (bit_or (get_or (set l x row) x 0) (2 ^ y)) 0 (simp length-set (omega arith))
    ∙ ap (λ (r : ℕ). bit_or r (2 ^ y)) (get_or-set_same l x row 0 (omega arith)))))
    (λ f.
    get_or-set_other (set l y (bit_or (get_or l y 0) (2 ^ x))) x v (bit_or row (2 ^ y)) 0 f
    ∙ by_cases (ℕ_discrete v y)
    (λ s.
    rw (s, get_or-set_same l y (bit_or (get_or l y 0) (2 ^ x)) 0 (omega arith))
    (sym (get_or-set_same (mark (set l x row) x y) y (bit_or (get_or (mark (set l x row) x y) y 0) (2 ^ x)) 0 (simp length-set (omega arith))
    ∙ ap (λ (r : ℕ). bit_or r (2 ^ x)) (get_or-set_other (set l x row) x y (bit_or (get_or (set l x row) x 0) (2 ^ y)) 0 d' ∙ get_or-set_other l x y row 0 d'))))
    (λ g.
    get_or-set_other l y v (bit_or (get_or l y 0) (2 ^ x)) 0 g
    ∙ sym (get_or-set_other (mark (set l x row) x y) y v (bit_or (get_or (mark (set l x row) x y) y 0) (2 ^ x)) 0 g
    ∙ get_or-set_other (set l x row) x v (bit_or (get_or (set l x row) x 0) (2 ^ y)) 0 f
    ∙ get_or-set_other l x v row 0 f)))

-- a word taken out beside the others
own : (l : List ℕ) (i v : ℕ) → i < length l → get_or (set l i (get_or l i 0)) v 0 ≡ get_or l v 0
own l i v h =
    by_cases (ℕ_discrete v i)
    (λ s. rw s (get_or-set_same l i (get_or l i 0) 0 h))
    (λ d. get_or-set_other l i v (get_or l i 0) 0 d)

module _ (b : List ℕ) where
  pub marked_beside : {j : ℕ} {near : List ℕ} → Marked b j near → (x : ℕ) → x < 64 → Marked b j (set near x (get_or near x 0))
  marked_beside {j} {near} w x h =
      record {
        long = simp length-set w.long;
        bits = λ v u l. ap (λ (r : ℕ). set? r u) (own near x v (omega (arith, w.long))) ∙ w.bits v u l;
      }

  -- one edge more
  pub marked_more : (j : ℕ) (near : List ℕ) (row x y : ℕ) → length near ≡ 64 → Marked b j (set near x row)
      → x ≡ low_end b j → y ≡ high_end b j → x < y → y < 64
      → Marked b (j + 1) (set (set near y (bit_or (get_or near y 0) (2 ^ x))) x (bit_or row (2 ^ y)))
  unfolding instance
  marked_more j near row x y n w ex ey o h =
      record {
        long = simp length-set n;
        bits = λ v u l.
            rw add-one
            (ap (λ (r : ℕ). set? r u) (kept near row x y v (omega arith) h o n)
            ∙ mark_both (set near x row) x y v u (omega arith) h (simp length-set n)
            ∙ ap₂ (λ (old : Bool) (z : ℕ). old || (eqb z v && eqb y u || eqb z u && eqb y v)) (w.bits v u l) ex
            ∙ ap (λ (z : ℕ). some j (joins (instance b 0 1) v u) || (eqb (low_end b j) v && eqb z u || eqb (low_end b j) u && eqb z v)) ey);
      }

  pub marked_none : Marked b 0 (replicate 64 0)
  marked_none =
      record {
        long = refl;
        bits = λ v w l. ap (λ (x : ℕ). set? x w) (get_or-replicate {A = ℕ} 64 v 0 0 l) ∙ ap (λ (x : ℕ). eqb x 1) (bit_zero w);
      }

  module _ (h : vertices b ≤ 64) (g : Edges (instance b 0 1)) where
    pub ends_known : Ends b
    unfolding instance
    ends_known j l = let (o, p) = g.ends j l in (o, omega arith)

    -- the words with all edges marked are those of the neighbours
    pub marked_all : (j : ℕ) → j ≡ edges b → (near : List ℕ) → Marked b j near → (m rule : ℕ) → near ≡ neighbour_words (instance b m rule)
    unfolding instance neighbour_words adjacent
    marked_all j e near w m rule =
        ext_get_or 0 near (neighbour_words (instance b 0 1)) (w.long ∙ sym (words_length (instance b 0 1))) (λ v l.
        same_set _ _ (λ u.
        w.bits v u (omega (arith, w.long))
        ∙ ap (λ (x : ℕ). some x (joins (instance b 0 1) v u)) e
        ∙ sym (joined_at (instance b 0 1) g h v u)))
