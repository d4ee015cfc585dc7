-- What the functions require of the three buffers that they are lent.
use Rattle.std.specs.Prelude.{List, ℕ, ◌≤◌, ℤ, length}

-- the words of a block; a piece of text and 8 bytes for each of those words; 8 bytes for each word from -33,792 to 33,792
pub record Room (words : List ℤ) (text texts : List ℕ) : Type 0 where
  pub words_room : 6048 ≤ length words
  pub text_room : 113920 ≤ length text
  pub texts_room : 540680 ≤ length texts

-- the first two
pub record Block (words : List ℤ) (text : List ℕ) : Type 0 where
  pub words_room : 6048 ≤ length words
  pub text_room : 113920 ≤ length text
