-- A table of texts, from which the text of a word is copied: eight bytes for each word from -top to top, in rising order.
use Rattle.std.specs.Prelude.{◌≡◌, List, [], ◌∷◌, ◌++◌, ℕ, suc, ◌+◌, ◌*◌, ◌-◌, ◌/◌, ◌≤◌, ◌<◌, T, leb, ℤ, pos, negsuc, neg_ℤ, nat_abs, length, get_or, take, drop}
use Rattle.std.proofs.Props.{props}
use Rattle.lists.specs.Loop.{all}
use Rattle.dimacs.specs.Text.{word_text}

-- a slice that holds s begins with text, whose length is r
abbrev pub Begins : List ℕ → List ℕ → ℕ → Type 0
Begins text s r = (r ≡ length text) × (take r s ≡ text)

-- the eight bytes of the word w: first its text, in the last one its length
unfoldable pub Entry : ℤ → List ℕ → Type 0
Entry w bytes = Begins (word_text w) bytes (get_or bytes 7 0)

pub Entry-prop : (w : ℤ) (bytes : List ℕ) → IsProp (Entry w bytes)
unfolding Entry
Entry-prop w bytes = hlevel props

-- entry i of a table
unfoldable pub entry_at : List ℕ → ℕ → List ℕ
entry_at texts i = take 8 (drop (8 * i) texts)

-- the number of the word w's entry: 0 stands in the middle
abbrev pub entry_of : ℕ → ℤ → ℕ
entry_of top (pos x) = top + x
entry_of top (negsuc x) = top - suc x

module _ (top : ℕ) where
  -- the table has room, and no text is longer than an entry has
  abbrev pub Sized : List ℕ → Type 0
  Sized texts = (top < 100000) × (length texts ≡ 8 * (2 * top + 1))

  -- it has the numbers below x
  unfoldable pub Numbers : ℕ → List ℕ → Type 0
  Numbers x texts = (y : ℕ) → y < x → Entry (pos y) (entry_at texts (top + y))

  -- it has the negatives of the numbers below x, but of 0
  unfoldable pub Negatives : ℕ → List ℕ → Type 0
  Negatives x texts = (y : ℕ) → 0 < y → y < x → Entry (neg_ℤ (pos y)) (entry_at texts (top - y))

  -- it has all words from -top to top
  pub record Texts (texts : List ℕ) : Type 0 where
    pub sized : Sized texts
    pub entries : (w : ℤ) → nat_abs w ≤ top → Entry w (entry_at texts (entry_of top w))

  pub Texts-prop : (texts : List ℕ) → IsProp (Texts texts)
  Texts-prop texts = hlevel (props, Entry-prop)

  -- words that it has
  unfoldable pub Within : List ℤ → Type 0
  Within words = T (all (λ w. leb (nat_abs w) top) words)

-- the line of a clause of two literals
abbrev pub pair_text : ℤ → ℤ → List ℕ
pair_text x y = word_text x ++ word_text y ++ 48 ∷ 10 ∷ []

-- the words of clauses of two literals each: three words a clause, the third of them 0
pub record Pairs (words : List ℤ) : Type 0 where
  pub whole : length words ≡ 3 * (length words / 3)
  pub ends : (i : ℕ) → i < length words / 3 → get_or words (3 * i + 2) (pos 0) ≡ pos 0
