-- A slice that begins with a text, and the entries of a table of texts.
use mathlib.Core.Path.{◌≡◌, refl, sym, ◌∙◌, ap}
use mathlib.Core.Logic.{⊎_elim, by_cases}
use mathlib.Core.List.{List, [], ◌∷◌, ◌++◌, append-nil, append_assoc}
use Prim.Native.Nat.{ℕ, zero, suc, ◌+◌, ◌-◌, ◌*◌, ◌/◌, ◌%◌, ◌≤◌, ◌<◌}
use native.Mathlib.Nat.{eq-or-lt_of_le}
use native.Mathlib.Decide.{dec_lt}
use native.Mathlib.Numerals.{add-one}
use native.Mathlib.Omega.{arith}
use borrow.Rule.Slice.PartMut.{put_mid, mid_of, same_len_mid, mid_len, take_put, drop_put}
use lib.Dec.{leb}
use lib.IntN.{ℤ, pos, negsuc, neg_ℤ, nat_abs}
use lib.ListN.{length, get_or, set, take, drop, length-append, length-take, length-drop, take-append-drop}
use lib.Seq.{drop_at, drop-drop, length-take-le, take-take, take-append_seam, take-append-le, take-append-add, drop-append-le, take-set-le, get_or-take, get_or-drop, get_or-set_same, take-suc, take-suc-set}
use Rattle.std.specs.Simd.{first_chunks}
use Rattle.lists.specs.Slice.{filled, Wrote}
use Rattle.lists.proofs.Tests.{below_suc, leb_iff}
use Rattle.lists.proofs.Loops.{all_get_d, each_append}
use Rattle.lists.proofs.Slices.{take_filled, filled_length}
use Rattle.decimals.specs.Decimals.{digit, digits, decimal, signed}
use Rattle.dimacs.specs.Text.{ended, after, word_text, words_text}
use Rattle.dimacs.specs.Table.{Begins, Entry, entry_at, entry_of, Sized, Numbers, Negatives, Texts, Within, Pairs, pair_text}
use Rattle.decimals.proofs.Laws.{length_most}
use Rattle.dimacs.proofs.Laws.{length_word, word_size, end_space, put_more, put_after}

-- ---- a slice that begins with a text
fits : (text s : List ℕ) (r : ℕ) → Begins text s r → r ≤ length s
fits text s r b = omega (arith, b.0, ap length b.1, length-take r s)

pub begins_wrote : (text s f : List ℕ) (r : ℕ) → Wrote text s f r → Begins text f r
begins_wrote text s f r o = (o.0, rw (o.1, o.0) (take_filled text s))

pub begins_filled : (text e s : List ℕ) (r : ℕ) → Begins text e r → Begins text (filled e s) r
unfolding filled
begins_filled text e s r b = (b.0, take-append-le r e _ (fits text e r b) ∙ b.1)

-- after `s[..8].copy_from_slice(e)`, where e has eight bytes
pub copied : (e s ys : List ℕ) → length e ≡ 8 → ys ≡ e → ys ++ drop 8 s ≡ filled e s
unfolding filled
copied e s ys l h = rw (l, h) refl

-- as one that text was written to
begins_same : (text s : List ℕ) → take (length text) s ≡ text → s ≡ filled text s
unfolding filled
begins_same text s e = sym (take-append-drop (length text) s) ∙ ap (λ (t : List ℕ). t ++ drop (length text) s) e

-- more, written to the part that starts after text: what comes back from a call on `&mut f[n..]` that left ys there
pub begins_part : (f ys text more : List ℕ) (n r : ℕ) → Begins text f n → Begins more ys r
    → Begins (text ++ more) (put_mid n (length f - n) f ys) (n + r)
begins_part f ys text more n r b o =
    let h : r ≤ length ys = fits more ys r o in
    (omega (arith, b.0, o.0, length-append text more), rw (b.1, b.0, take-append-add, take-append-le r ys _ h, o.1))

-- ---- entries
-- the text of a number was written, and then its length
pub entry_put : (x r : ℕ) (f s : List ℕ) → x < 100000 → 8 ≤ length s → Wrote (word_text (pos x)) s f r → Entry (pos x) (take 8 (set f 7 r))
unfolding Entry
entry_put x r f s h k o =
    let m : r ≤ 7 = omega (arith, o.0, length_word 4 x (omega arith)) in
    let n : length f ≡ length s = ap length o.1 ∙ filled_length (word_text (pos x)) s (omega (arith, o.0)) in
    let g : get_or (take 8 (set f 7 r)) 7 0 ≡ r = get_or-take 8 (set f 7 r) 7 0 (omega arith) ∙ get_or-set_same f 7 r 0 (omega arith) in
    rw g (o.0, take-take r 8 (set f 7 r) (omega arith) ∙ take-set-le r f 7 r m ∙ (begins_wrote (word_text (pos x)) s f r o).1)

-- the length of a number's text
pub entry_length : (x : ℕ) (e : List ℕ) → x < 100000 → Entry (pos x) e → (0 < get_or e 7 0) × (get_or e 7 0 ≤ 6)
unfolding Entry
entry_length x e h b =
    (omega (arith, b.0, ap length (word_size x), length-append (decimal x) (after (pos x) ∷ [])), omega (arith, b.0, length_word 4 x (omega arith)))

module _ (x : ℕ) (more : 10 ≤ x) where
  -- where a slice begins with the text of x / 10, its digits stand there
  tenth_digits : (f : List ℕ) (n : ℕ) → Begins (word_text (pos (x / 10))) f n → (n ≡ length (decimal (x / 10)) + 1) × (f ≡ filled (decimal (x / 10)) f)
  tenth_digits f n b =
      let d = decimal (x / 10) in
      let e : n ≡ length d + 1 = b.0 ∙ ap length (word_size (x / 10)) ∙ length-append d (after (pos (x / 10)) ∷ []) in
      let t : take (length d) f ≡ d =
      sym (take-take (length d) n f (omega arith)) ∙ ap (take (length d)) (b.1 ∙ word_size (x / 10)) ∙ take-append_seam d (after (pos (x / 10)) ∷ []) in
      (e, begins_same d f t)

  -- one digit more, a space, and the length
  pub entry_longer : (e f s : List ℕ) → x < 100000 → 8 ≤ length s → length e ≡ 8 → Entry (pos (x / 10)) e → f ≡ filled e s
      → Entry (pos x) (take 8 (set (set (set f (get_or e 7 0 - 1) (digit (x % 10))) (get_or e 7 0) 32) 7 (get_or e 7 0 + 1)))
  unfolding Entry
  entry_longer e f s h k l b ef =
      let n = get_or e 7 0 in
      let d = decimal (x / 10) in
      let b' : Begins (word_text (pos (x / 10))) f n = rw ef (begins_filled (word_text (pos (x / 10))) e s n b) in
      let (en, same) = tenth_digits f n b' in
      let lf : length f ≡ length s = ap length ef ∙ filled_length e s (omega arith) in
      let lx : length (decimal x) ≤ 5 = length_most 4 x (omega arith) in
      let w : Wrote (decimal x) f (set f (length d) (digit (x % 10))) (length d + 1) = put_more x (length d) f f more refl (omega arith) same in
      let w' = (put_after x 32 (length d + 1) (set f (length d) (digit (x % 10))) f w.0 (omega arith) w.1 (omega arith)).0 in
      let t : ended x 32 ≡ word_text (pos x) = ap (ended x) (end_space x (λ z. omega arith)) ∙ sym (word_size x) in
      let en' : n - 1 ≡ length d = omega arith in
      let w'' : Wrote (word_text (pos x)) f (set (set f (length d) (digit (x % 10))) (length d + 1) 32) (length d + 1 + 1) = rw (← t) w' in
      rw (en', en) (entry_put x (length d + 1 + 1) _ f h (omega arith) w'')

-- a minus sign before the text of x
negative_text : (x : ℕ) → 0 < x → word_text (neg_ℤ (pos x)) ≡ 45 ∷ word_text (pos x)
unfolding word_text signed
negative_text zero h = absurd (let z : ⊥ = omega arith in z)
negative_text (suc y) h = refl

-- after `s[0] = b'-'` and a copy of ys to `s[1..7]`
minus : (s ys : List ℕ) → 0 < length s → put_mid 1 6 (set s 0 45) ys ≡ 45 ∷ (ys ++ drop 7 s)
minus [] ys h = absurd (let z : ⊥ = omega arith in z)
minus (a ∷ s) ys h = refl

pub entry_negated : (x : ℕ) (e s ys : List ℕ) → 0 < x → x < 100000 → 8 ≤ length s → length e ≡ 8 → Entry (pos x) e → ys ≡ take 6 e
    → Entry (neg_ℤ (pos x)) (take 8 (set (put_mid 1 6 (set s 0 45) ys) 7 (get_or e 7 0 + 1)))
unfolding Entry
entry_negated x e s ys p h k l b ey =
    let n = get_or e 7 0 in
    let text = word_text (pos x) in
    let f : List ℕ = 45 ∷ (take 6 e ++ drop 7 s) in
    let m : n ≤ 6 = (entry_length x e h b).1 in
    let six : length (take 6 e) ≡ 6 = length-take-le 6 e (omega arith) in
    let lf : length f ≡ length s = simp (length-append, six, length-drop) (omega arith) in
    let g : get_or (take 8 (set f 7 (n + 1))) 7 0 ≡ n + 1 = get_or-take 8 (set f 7 (n + 1)) 7 0 (omega arith) ∙ get_or-set_same f 7 (n + 1) 0 (omega arith) in
    let t : take n (take 6 e ++ drop 7 s) ≡ text = take-append-le n (take 6 e) (drop 7 s) (omega arith) ∙ take-take n 6 e m ∙ b.1 in
    let u : take (n + 1) (take 8 (set f 7 (n + 1))) ≡ 45 ∷ text =
    take-take (n + 1) 8 (set f 7 (n + 1)) (omega arith) ∙ take-set-le (n + 1) f 7 (n + 1) (omega arith) ∙ rw add-one (ap (λ (v : List ℕ). 45 ∷ v) t) in
    rw (ey, minus s (take 6 e) (omega arith), g, negative_text x p) (rw add-one (ap suc b.0), u)

-- ---- the table: entry i comes back from a call on `&mut f[8 * i..8 * i + 8]` that left ys there; the others stay
entry_before : (f : List ℕ) (i j : ℕ) → 8 * i ≤ length f → j < i → entry_at (take (8 * i) f) j ≡ entry_at f j
unfolding entry_at
entry_before f i j h l =
    let n : length (take (8 * i) f) ≡ 8 * i = length-take-le (8 * i) f h in
    let k : 8 ≤ length (drop (8 * j) (take (8 * i) f)) = simp length-drop (omega arith) in
    sym (take-append-le 8 (drop (8 * j) (take (8 * i) f)) (drop (8 * i) f) k)
    ∙ ap (take 8) (sym (drop-append-le (8 * j) (take (8 * i) f) (drop (8 * i) f) (omega arith)) ∙ ap (drop (8 * j)) (take-append-drop (8 * i) f))

entry_behind : (f : List ℕ) (i j : ℕ) → i ≤ j → take 8 (drop (8 * j - 8 * i) (drop (8 * i) f)) ≡ entry_at f j
unfolding entry_at
entry_behind f i j l = ap (take 8) (drop-drop (8 * j - 8 * i) (8 * i) f ∙ ap (λ (x : ℕ). drop x f) (let e : 8 * i + (8 * j - 8 * i) ≡ 8 * j = omega arith in e))

abbrev back : List ℕ → List ℕ → ℕ → List ℕ
back f ys i = put_mid (8 * i) (8 * i + 8 - 8 * i) f ys

abbrev Kept : List ℕ → List ℕ → ℕ → Type 0
Kept f ys i = length ys ≡ length (mid_of (8 * i) (8 * i + 8 - 8 * i) f)

module _ (f ys : List ℕ) (i : ℕ) (room : 8 * i + 8 ≤ length f) (kept : Kept f ys i) where
  back_length : length (back f ys i) ≡ length f
  back_length = same_len_mid (8 * i) (8 * i + 8 - 8 * i) f ys kept

  eight : length ys ≡ 8
  eight = kept ∙ mid_len (8 * i) (8 * i + 8) f room ∙ omega arith

  entry_other : (j : ℕ) → (j ≡ i → ⊥) → entry_at (back f ys i) j ≡ entry_at f j
  entry_other j d =
      by_cases (dec_lt j i)
      (λ l.
      sym (entry_before (back f ys i) i j (omega (arith, back_length)) l)
      ∙ ap (λ (t : List ℕ). entry_at t j) (take_put (8 * i) (8 * i + 8 - 8 * i) f ys (omega arith))
      ∙ entry_before f i j (omega arith) l)
      (λ g.
      let l : i + 1 ≤ j = ⊎_elim (λ e. absurd (d (sym e))) (λ l. omega arith) (eq-or-lt_of_le (let k : i ≤ j = omega arith in k)) in
      let q : 8 * (i + 1) ≡ 8 * i + 8 = omega arith in
      sym (entry_behind (back f ys i) (i + 1) j l)
      ∙ ap (λ (t : List ℕ). take 8 (drop (8 * j - 8 * (i + 1)) t)) (rw q (drop_put (8 * i) (8 * i + 8) f ys (omega arith) room (eight ∙ omega arith)))
      ∙ entry_behind f (i + 1) j l)

  entry_here : entry_at (back f ys i) i ≡ take 8 ys
  unfolding entry_at
  entry_here =
      ap (take 8) (drop_at (take (8 * i) f) _ (8 * i) (length-take-le (8 * i) f (omega arith)))
      ∙ take-append-le 8 ys _ (omega (arith, eight))

-- one number more, and one negative more
module _ (top : ℕ) (f ys : List ℕ) (x : ℕ) (sized : Sized top f) (h : x ≤ top) where
  pub numbers_next : Kept f ys (top + x) → Numbers top x f → Entry (pos x) (take 8 ys) → Numbers top (x + 1) (back f ys (top + x))
  unfolding Numbers
  numbers_next kept before here =
      rw add-one
      (below_suc _ x
      (λ y l. rw (entry_other f ys (top + x) (omega arith) kept (top + y) (λ e. omega arith)) (before y l))
      (rw (entry_here f ys (top + x) (omega arith) kept) here))

  pub negatives_next : 0 < x → Kept f ys (top - x) → Numbers top (top + 1) f → Negatives top x f → Entry (neg_ℤ (pos x)) (take 8 ys)
      → Numbers top (top + 1) (back f ys (top - x)) × Negatives top (x + 1) (back f ys (top - x))
  unfolding Numbers Negatives
  negatives_next p kept all before here = (
    (λ y l. rw (entry_other f ys (top - x) (omega arith) kept (top + y) (λ e. omega arith)) (all y l)),
    (λ y q l.
        ⊎_elim
        (λ e. rw (e, entry_here f ys (top - x) (omega arith) kept) here)
        (λ k. rw (entry_other f ys (top - x) (omega arith) kept (top - y) (λ e. omega arith)) (before y q k))
        (eq-or-lt_of_le (let k : y ≤ x = omega arith in k))),
  )

-- all of them
pub texts_whole : (top : ℕ) (f : List ℕ) → Sized top f → Numbers top (top + 1) f → Negatives top (top + 1) f → Texts top f
unfolding Numbers Negatives
texts_whole top f sized numbers negatives = record { sized = sized; entries = entries }
  where
    entries : (w : ℤ) → nat_abs w ≤ top → Entry w (entry_at f (entry_of top w))
    entries (pos x) h = numbers x (omega arith)
    entries (negsuc x) h = negatives (suc x) (omega arith) (omega arith)

-- a word's entry
module _ (top : ℕ) where
  -- it stands in the table
  pub entry_inside : (texts : List ℕ) (w : ℤ) → Texts top texts → nat_abs w ≤ top → 8 * entry_of top w + 8 ≤ length texts
  entry_inside texts (pos x) t h = omega (arith, t.sized.1)
  entry_inside texts (negsuc x) t h = omega (arith, t.sized.1)

  -- and each of the words within has one
  pub within_at : (words : List ℤ) (i : ℕ) → Within top words → i < length words → nat_abs (get_or words i (pos 0)) ≤ top
  unfolding Within
  within_at words i w h = (leb_iff _ top).0 ((all_get_d (pos 0) (λ w. leb (nat_abs w) top) words).0 w i h)

-- an entry is a chunk of eight bytes
pub entry_chunk : (k i : ℕ) (texts : List ℕ) → i < k → get_or (first_chunks 8 k texts) i [] ≡ entry_at texts i
unfolding entry_at
entry_chunk zero i texts h = absurd (let z : ⊥ = omega arith in z)
entry_chunk (suc k) zero texts h = refl
entry_chunk (suc k) (suc i) texts h =
    let e : 8 * i + 8 ≡ 8 * suc i = omega arith in
    entry_chunk k i (drop 8 texts) (omega arith) ∙ ap (take 8) (drop-drop (8 * i) 8 texts ∙ ap (λ (n : ℕ). drop n texts) (omega arith))

-- an entry, copied to the start of a slice
pub entry_copied : (w : ℤ) (e f s : List ℕ) → length e ≡ 8 → Entry w e → f ≡ filled e s → Begins (word_text w) f (get_or e 7 0) × (get_or e 7 0 ≤ 8)
unfolding Entry
entry_copied w e f s l b ef = rw ef (begins_filled (word_text w) e s _ b, omega (arith, fits (word_text w) e _ b))

-- ---- clauses of two literals
-- word j of chunk i, where the words are taken by threes
pub chunk_word : (k i j : ℕ) (words : List ℤ) → i < k → j < 3 → get_or (get_or (first_chunks 3 k words) i []) j (pos 0) ≡ get_or words (3 * i + j) (pos 0)
chunk_word zero i j words h l = absurd (let z : ⊥ = omega arith in z)
chunk_word (suc k) zero j words h l = get_or-take 3 words j (pos 0) l ∙ ap (λ (n : ℕ). get_or words n (pos 0)) (omega arith)
chunk_word (suc k) (suc i) j words h l =
    chunk_word k i j (drop 3 words) (omega arith) l ∙ get_or-drop 3 words (3 * i + j) (pos 0) ∙ ap (λ (n : ℕ). get_or words n (pos 0)) (omega arith)

-- one byte behind a text
pub begins_set : (text f : List ℕ) (n b : ℕ) → Begins text f n → n < length f → Begins (text ++ b ∷ []) (set f n b) (n + 1)
begins_set text f n b o h = (rw (length-append, o.0), rw add-one (take-suc-set f n b h ∙ ap (λ (t : List ℕ). t ++ b ∷ []) o.1))

pub pair_end : (x y : ℤ) → ((word_text x ++ word_text y) ++ 48 ∷ []) ++ 10 ∷ [] ≡ pair_text x y
pair_end x y = append_assoc (word_text x ++ word_text y) (48 ∷ []) (10 ∷ [])

module _ (words : List ℤ) where
  abbrev word : ℕ → ℤ
  word i = get_or words i (pos 0)

  abbrev pub pair_at : ℕ → List ℕ
  pair_at i = pair_text (word (3 * i)) (word (3 * i + 1))

  take_one : (j : ℕ) → j < length words → take (j + 1) words ≡ take j words ++ word j ∷ []
  take_one j h = rw add-one (take-suc words j (pos 0) h)

  zero_text : word_text (pos 0) ≡ 48 ∷ 10 ∷ []
  unfolding word_text signed decimal digits
  zero_text = refl

  -- one word more, and one clause more
  pub words_more : (i : ℕ) → i < length words → words_text (take (i + 1) words) ≡ words_text (take i words) ++ word_text (word i)
  unfolding words_text
  words_more i h = rw (take_one i h) (simp (each_append, append-nil))

  pub pairs_more : Pairs words → (i : ℕ) → i < length words / 3 → words_text (take (3 * (i + 1)) words) ≡ words_text (take (3 * i) words) ++ pair_at i
  pairs_more p i h =
      let e : 3 * (i + 1) ≡ 3 * i + 1 + 1 + 1 = omega arith in
      let two : 3 * i + 1 + 1 ≡ 3 * i + 2 = omega arith in
      let last : word (3 * i + 1 + 1) ≡ pos 0 = rw two (p.ends i h) in
      rw (e, words_more (3 * i + 1 + 1) (omega (arith, p.whole)), words_more (3 * i + 1) (omega (arith, p.whole)), words_more (3 * i) (omega (arith, p.whole)), last, zero_text)
      (simp append_assoc)
