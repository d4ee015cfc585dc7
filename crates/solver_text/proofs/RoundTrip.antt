-- A valuation printed, its v lines cut anywhere: no line is wrong, the s line and the 0 are there, and the literals are its entries.
use mathlib.Core.Path.{◌≡◌, refl, sym, ◌∙◌, ap, ap₂, subst}
use mathlib.Core.Logic.{◌⊎◌, ⊎_elim, by_cases}
use mathlib.Core.List.{List, [], ◌∷◌, ◌++◌, append-nil, append_assoc}
use mathlib.Core.Bool.{Bool, true, false, ◌&&◌, ◌||◌, cond}
use Prim.Native.Nat.{ℕ, zero, suc, ◌+◌, ◌*◌, ◌≤◌, ◌<◌}
use native.Mathlib.Nat.{le_refl}
use native.Mathlib.Decide.{dec_lt}
use native.Mathlib.Omega.{arith}
use borrow.Author.Tests.{eq-eqb, ne_eqb, lt-ltb, le-ltb}
use lib.Dec.{T, leb, ltb, eqb}
use lib.IntN.{ℤ, pos, negsuc, neg_ℤ, nat_abs}
use lib.ListN.{length, length-append}
use lib.Seq.{ext_get_or}
use Rattle.std.specs.Prelude.{Some}
use Rattle.lists.specs.Loop.{for, each, all, any, unless}
use Rattle.lists.proofs.Tests.{and_iff, leb_iff, or_false}
use Rattle.lists.proofs.Loops.{all_append, all_get_d, each_append, for_ext}
use Rattle.lists.proofs.Blocks.{for1_length, for1_get_or}
use Rattle.decimals.specs.Decimals.{signed}
use Rattle.decimals.proofs.Laws.{length_most}
use Rattle.valuation.specs.Valuation.{same_number, true?, entry}
use Rattle.valuation.specs.Satisfying.{Valuation}
use Rattle.solver_text.specs.declared.Said.{Said}
use Rattle.solver_text.specs.Text.{ahead, behind, lines, value, zero?, tokens?, kind, Kind, values, satisfiable}
use Rattle.solver_text.specs.Form.{text_most, literal?, satisfiable?, complete?, literals_of, given, times, in_order}
use Rattle.solver_text.specs.Printed.{v_line, printed, gathered, some?}
use Rattle.solver_text.specs.Walk.{nothing, satisfied?, after, said_after, wrong_lines, whole?}
use Rattle.solver_text.proofs.Walk.{split, whole_is, satisfied_is}
use Rattle.solver_text.proofs.Given.{range}
use Rattle.solver_text.proofs.Pieces.{pieces_cut, tokens_of, kind_v, line_free, token_right, token_value, token_zero}

-- ---- the lines of a text that is printed
abbrev group_lines : List (List ℤ) → List (List ℕ)
group_lines groups = each (λ ws. v_line ws ∷ []) groups

lines_groups : (groups : List (List ℤ)) (rest : List ℕ) → lines (each (λ ws. v_line ws ++ 10 ∷ []) groups ++ rest) ≡ group_lines groups ++ lines rest
lines_groups [] rest = refl
lines_groups (ws ∷ groups) rest =
    ap lines (append_assoc (v_line ws ++ 10 ∷ []) (each (λ ws. v_line ws ++ 10 ∷ []) groups) rest ∙ append_assoc (v_line ws) (10 ∷ []) (each (λ ws. v_line ws ++ 10 ∷ []) groups ++ rest))
    ∙ pieces_cut 10 (v_line ws) _ (line_free ws)
    ∙ ap (λ (ls : List (List ℕ)). v_line ws ∷ ls) (lines_groups groups rest)

module _ (groups : List (List ℤ)) (last : List ℤ) where
  abbrev closing : List ℤ
  closing = last ++ pos 0 ∷ []

  pub lines_printed : lines (printed groups last) ≡ satisfiable ∷ (group_lines groups ++ v_line closing ∷ [] ∷ [])
  unfolding printed ahead behind
  lines_printed =
      pieces_cut 10 satisfiable (each (λ ws. v_line ws ++ 10 ∷ []) groups ++ (v_line closing ++ 10 ∷ [])) tt
      ∙ ap (λ (ls : List (List ℕ)). satisfiable ∷ ls)
      (lines_groups groups (v_line closing ++ 10 ∷ [])
      ∙ ap (λ (ls : List (List ℕ)). group_lines groups ++ ls) (pieces_cut 10 (v_line closing) [] (line_free closing)))

-- ---- the tokens of literals
module _ (N : ℕ) where
  not_zero : (w : ℤ) → T (literal? N w) → zero? (signed w) ≡ false
  not_zero w t = token_zero N w ∙ ne_eqb (nat_abs w) 0 (λ z. let r = range N w t in omega arith)

  -- literals, and then more tokens
  tokens_more : (ws : List ℤ) (ts : List (List ℕ)) → T (all (literal? N) ws) → tokens? N false (tokens_of ws ++ ts) ≡ tokens? N false ts
  tokens_more [] ts h = refl
  tokens_more (w ∷ ws) ts h =
      let (a, b) = (and_iff (literal? N w) _).0 h in
      rw (token_right N w (range N w a).1, not_zero w a) (tokens_more ws ts b)

  any_more : (ws : List ℤ) (ts : List (List ℕ)) → T (all (literal? N) ws) → any zero? (tokens_of ws ++ ts) ≡ any zero? ts
  any_more [] ts h = refl
  any_more (w ∷ ws) ts h = let (a, b) = (and_iff (literal? N w) _).0 h in rw (not_zero w a) (any_more ws ts b)

  value_of : (w : ℤ) → T (literal? N w) → unless (zero? (signed w)) (value (signed w)) ≡ w ∷ []
  value_of w a = rw (not_zero w a) (ap (λ (x : ℤ). x ∷ []) (token_value N w))

  -- literals, and then more tokens
  values_more : (ws : List ℤ) (ts : List (List ℕ)) → T (all (literal? N) ws)
      → each (λ t. unless (zero? t) (value t)) (tokens_of ws ++ ts) ≡ ws ++ each (λ t. unless (zero? t) (value t)) ts
  values_more [] ts h = refl
  values_more (w ∷ ws) ts h =
      let (a, b) = (and_iff (literal? N w) _).0 h in ap₂ (λ (x : List ℤ) (y : List ℤ). x ++ y) (value_of w a) (values_more ws ts b)

  module _ (ws : List ℤ) (h : T (all (literal? N) ws)) where
    right_group : tokens? N false (tokens_of ws) ≡ true
    right_group = ap (tokens? N false) (sym (append-nil (tokens_of ws))) ∙ tokens_more ws [] h

    no_zero : any zero? (tokens_of ws) ≡ false
    no_zero = ap (any zero?) (sym (append-nil (tokens_of ws))) ∙ any_more ws [] h

    last_tokens : tokens_of (ws ++ pos 0 ∷ []) ≡ tokens_of ws ++ signed (pos 0) ∷ []
    last_tokens = each_append (λ w. signed w ∷ []) ws (pos 0 ∷ [])

    right_last : tokens? N false (tokens_of (ws ++ pos 0 ∷ [])) ≡ true
    right_last = ap (tokens? N false) last_tokens ∙ tokens_more ws _ h ∙ rw (token_right N (pos 0) (omega arith))

    last_zero : any zero? (tokens_of (ws ++ pos 0 ∷ [])) ≡ true
    last_zero = ap (any zero?) last_tokens ∙ any_more ws _ h ∙ rw (token_zero N (pos 0))

    group_values : each (λ t. unless (zero? t) (value t)) (tokens_of ws) ≡ ws
    group_values = ap (each (λ t. unless (zero? t) (value t))) (sym (append-nil (tokens_of ws))) ∙ values_more ws [] h ∙ append-nil ws

    last_values : each (λ t. unless (zero? t) (value t)) (tokens_of (ws ++ pos 0 ∷ [])) ≡ ws
    last_values =
        ap (each (λ t. unless (zero? t) (value t))) last_tokens ∙ values_more ws _ h ∙ rw (token_zero N (pos 0)) (append-nil ws)

  -- ---- along the lines
  abbrev begun : Bool → Said
  begun closed = record { verdict = Some (record { satisfiable = true; place = 0 }); closed = closed }

  module _ (tail : List (List ℕ)) where
    wrong_groups : (groups : List (List ℤ)) → T (all some? groups) → T (all (all (literal? N)) groups)
        → ((at : ℕ) → wrong_lines N at (begun false) tail ≡ []) → (at : ℕ) → wrong_lines N at (begun false) (group_lines groups ++ tail) ≡ []
    unfolding wrong_lines
    wrong_groups [] o h k at = k at
    wrong_groups (ws ∷ groups) o h k at =
        let (p, q) = (and_iff (some? ws) _).0 o in
        let (a, b) = (and_iff (all (literal? N) ws) _).0 h in
        rw (kind_v ws p, right_group ws a, no_zero ws a) (wrong_groups groups q b k (at + length (v_line ws) + 1))

    said_groups : (final : Said) (groups : List (List ℤ)) → T (all some? groups) → T (all (all (literal? N)) groups)
        → ((at : ℕ) → said_after at (begun false) tail ≡ final) → (at : ℕ) → said_after at (begun false) (group_lines groups ++ tail) ≡ final
    unfolding said_after
    said_groups final [] o h k at = k at
    said_groups final (ws ∷ groups) o h k at =
        let (p, q) = (and_iff (some? ws) _).0 o in
        let (a, b) = (and_iff (all (literal? N) ws) _).0 h in
        let e : after at (begun false) (kind (v_line ws)) ≡ begun false = ap (after at (begun false)) (kind_v ws p) ∙ ap begun (no_zero ws a) in
        ap (λ (x : Said). said_after (at + length (v_line ws) + 1) x (group_lines groups ++ tail)) e
        ∙ said_groups final groups q b k (at + length (v_line ws) + 1)

    literals_groups : (groups : List (List ℤ)) → T (all some? groups) → T (all (all (literal? N)) groups)
        → literals_of (group_lines groups ++ tail) ≡ each (λ ws. ws) groups ++ literals_of tail
    unfolding literals_of
    literals_groups [] o h = refl
    literals_groups (ws ∷ groups) o h =
        let (p, q) = (and_iff (some? ws) _).0 o in
        let (a, b) = (and_iff (all (literal? N) ws) _).0 h in
        rw (kind_v ws p, group_values ws a, literals_groups groups q b, append_assoc)

  -- the closing line, and the empty piece behind it
  module _ (last : List ℤ) (h : T (all (literal? N) last)) where
    some_closing : (ws : List ℤ) → T (some? (ws ++ pos 0 ∷ []))
    some_closing [] = tt
    some_closing (w ∷ ws) = tt

    closing_kind : kind (v_line (closing [] last)) ≡ values (tokens_of (closing [] last))
    closing_kind = kind_v (closing [] last) (some_closing last)

    wrong_closing : (at : ℕ) → wrong_lines N at (begun false) (v_line (closing [] last) ∷ [] ∷ []) ≡ []
    unfolding wrong_lines kind
    wrong_closing at = rw (closing_kind, right_last last h)

    said_closing : (at : ℕ) → said_after at (begun false) (v_line (closing [] last) ∷ [] ∷ []) ≡ begun true
    unfolding said_after kind
    said_closing at =
        ap (λ (k : Kind). after at (begun false) k) closing_kind ∙ ap begun (last_zero last h)

    literals_closing : literals_of (v_line (closing [] last) ∷ [] ∷ []) ≡ last
    unfolding literals_of kind
    literals_closing = rw (closing_kind, last_values last h, append-nil)

  -- ---- the whole text
  module _ (groups : List (List ℤ)) (last : List ℤ) (o : T (all some? groups)) (h : T (all (all (literal? N)) groups)) (k : T (all (literal? N) last)) where
    abbrev text : List ℕ
    text = printed groups last

    abbrev tail : List (List ℕ)
    tail = v_line (closing groups last) ∷ [] ∷ []

    no_wrong : wrong_lines N 0 nothing (lines text) ≡ []
    unfolding wrong_lines kind
    no_wrong =
        ap (wrong_lines N 0 nothing) (lines_printed groups last) ∙ wrong_groups tail groups o h (wrong_closing last k) (0 + length satisfiable + 1)

    all_said : said_after 0 nothing (lines text) ≡ begun true
    unfolding said_after kind
    all_said =
        ap (said_after 0 nothing) (lines_printed groups last)
        ∙ said_groups tail (begun true) groups o h (said_closing last k) (0 + length satisfiable + 1)

    all_literals : given text ≡ gathered groups last
    unfolding literals_of kind
    all_literals =
        ap literals_of (lines_printed groups last)
        ∙ literals_groups tail groups o h
        ∙ ap (λ (l : List ℤ). each (λ ws. ws) groups ++ l) (literals_closing last k)

-- ---- the entries of a valuation, as literals
times_append : (x : ℕ) (a b : List ℤ) → times x (a ++ b) ≡ times x a + times x b
unfolding times
times_append x [] b = omega arith
times_append x (v ∷ a) b = omega (arith, times_append x a b)

true_append : (w : ℤ) (a b : List ℤ) → true? (a ++ b) w ≡ (true? a w || true? b w)
unfolding true?
true_append w [] b = refl
true_append w (v ∷ a) b = split (same_number w v) (λ e. rw e) (λ e. rw e (true_append w a b))

module _ (f : ℕ → ℤ) where
  abbrev Sides : ℕ → Type 0
  Sides n = (i : ℕ) → i < n → (f i ≡ pos (suc i)) ⊎ (f i ≡ neg_ℤ (pos (suc i)))

  abbrev listed : ℕ → List ℤ
  listed n = for n λ i. f i ∷ []

  size_is : (n : ℕ) → Sides n → (i : ℕ) → i < n → nat_abs (f i) ≡ suc i
  size_is n s i h = ⊎_elim (λ e. ap nat_abs e) (λ e. ap nat_abs e) (s i h)

  fewer : (n : ℕ) → Sides (suc n) → Sides n
  fewer n s i h = s i (omega arith)

  times_one : (n i : ℕ) → times (suc i) (f n ∷ []) ≡ cond (eqb (nat_abs (f n)) (suc i)) 1 0
  unfolding times
  times_one n i = omega arith

  times_listed : (n : ℕ) → Sides n → (i : ℕ) → times (suc i) (listed n) ≡ cond (ltb i n) 1 0
  unfolding times
  times_listed zero s i = rw (le-ltb i 0 (omega arith))
  times_listed (suc n) s i =
      times_append (suc i) (listed n) (f n ∷ [])
      ∙ ap₂ (λ (x : ℕ) (y : ℕ). x + y) (times_listed n (fewer n s) i) (times_one n i ∙ ap (λ (y : ℕ). cond (eqb y (suc i)) 1 0) (size_is (suc n) s n (omega arith)))
      ∙ by_cases (dec_lt i n)
      (λ l. rw (lt-ltb i n l, ne_eqb (suc n) (suc i) (λ z. omega arith), lt-ltb i (suc n) (omega arith)))
      (λ l.
      by_cases (dec_lt n i)
      (λ k. rw (le-ltb i n (omega arith), ne_eqb (suc n) (suc i) (λ z. omega arith), le-ltb i (suc n) (omega arith)))
      (λ k. let q : i ≡ n = omega arith in rw (q, le-ltb n n (omega arith), eq-eqb (suc n) (suc n) refl, lt-ltb n (suc n) (omega arith))))

  same_other : (n : ℕ) → Sides n → (i j : ℕ) → j < n → (i ≡ j → ⊥) → same_number (pos (suc i)) (f j) ≡ false
  same_other n s i j h d =
      ⊎_elim
      (λ e. rw e (ne_eqb (suc i) (suc j) (λ z. d (omega arith))))
      (λ e. rw e)
      (s j h)

  true_one : (n i : ℕ) → true? (f n ∷ []) (pos (suc i)) ≡ same_number (pos (suc i)) (f n)
  unfolding true?
  true_one n i = or_false (same_number (pos (suc i)) (f n))

  true_listed : (n : ℕ) → Sides n → (i : ℕ) → true? (listed n) (pos (suc i)) ≡ (ltb i n && same_number (pos (suc i)) (f i))
  unfolding true?
  true_listed zero s i = rw (le-ltb i 0 (omega arith))
  true_listed (suc n) s i =
      true_append (pos (suc i)) (listed n) (f n ∷ [])
      ∙ ap₂ (λ (x : Bool) (y : Bool). x || y) (true_listed n (fewer n s) i) (true_one n i)
      ∙ by_cases (dec_lt i n)
      (λ l. rw (lt-ltb i n l, same_other (suc n) s i n (omega arith) (λ z. omega arith), lt-ltb i (suc n) (omega arith)) (or_false _))
      (λ l.
      by_cases (dec_lt n i)
      (λ k. rw (le-ltb i n (omega arith), same_other (suc n) s i n (omega arith) (λ z. omega arith), le-ltb i (suc n) (omega arith)))
      (λ k. let q : i ≡ n = omega arith in rw (q, le-ltb n n (omega arith), lt-ltb n (suc n) (omega arith))))

  module _ (n : ℕ) (s : Sides n) where
    once : (i : ℕ) → i < n → times (suc i) (listed n) ≡ 1
    once i h = times_listed n s i ∙ rw (lt-ltb i n h)

    back : (i : ℕ) → i < n → cond (true? (listed n) (pos (suc i))) (pos (suc i)) (neg_ℤ (pos (suc i))) ≡ f i
    back i h =
        let t : true? (listed n) (pos (suc i)) ≡ same_number (pos (suc i)) (f i) = true_listed n s i ∙ rw (lt-ltb i n h) in
        ap (λ (b : Bool). cond b (pos (suc i)) (neg_ℤ (pos (suc i)))) t
        ∙ ⊎_elim
        (λ e. subst (λ (w : ℤ). cond (same_number (pos (suc i)) w) (pos (suc i)) (neg_ℤ (pos (suc i))) ≡ w) (sym e) (rw (eq-eqb (suc i) (suc i) refl)))
        (λ e. subst (λ (w : ℤ). cond (same_number (pos (suc i)) w) (pos (suc i)) (neg_ℤ (pos (suc i))) ≡ w) (sym e) refl)
        (s i h)

    same_entries : in_order n (listed n) ≡ listed n
    unfolding in_order
    same_entries = for_ext n _ _ (λ i h. ap (λ (z : ℤ). z ∷ []) (back i h))

-- ---- the round trip
all_groups : (p : ℤ → Bool) (groups : List (List ℤ)) → T (all p (each (λ ws. ws) groups)) → T (all (all p) groups)
all_groups p [] h = tt
all_groups p (ws ∷ groups) h =
    let (a, b) = (all_append p ws (each (λ ws. ws) groups)).0 h in (and_iff (all p ws) _).1 (a, all_groups p groups b)

module _ (N : ℕ) (es : List ℤ) (v : Valuation N es) where
  listed_is : es ≡ listed (entry es) N
  listed_is =
      ext_get_or (pos 0) es (listed (entry es) N) (v.size ∙ sym (for1_length N (entry es)))
      (λ i h. sym (for1_get_or N (entry es) (pos 0) i (omega (arith, v.size))))

  literals : T (all (literal? N) es)
  literals =
      (all_get_d (pos 0) (literal? N) es).1
      (λ i h.
      let e : nat_abs (entry es i) ≡ suc i = size_is (entry es) N v.each i (omega (arith, v.size)) in
      (and_iff (leb 1 (nat_abs (entry es i))) _).1 ((leb_iff 1 (nat_abs (entry es i))).1 (omega arith), (leb_iff (nat_abs (entry es i)) N).1 (omega (arith, v.size))))

-- ---- the text of a valuation is never too long
module _ (N : ℕ) (small : N ≤ 99999) where
  signed_length : (w : ℤ) → nat_abs w ≤ N → length (signed w) ≤ 6
  unfolding signed
  signed_length (pos x) h = omega (arith, length_most 4 x (omega arith))
  signed_length (negsuc x) h = omega (arith, length_most 4 (suc x) (omega arith))

  abbrev spaced : List ℤ → List ℕ
  spaced ws = each (λ w. 32 ∷ signed w) ws

  spaced_length : (ws : List ℤ) → T (all (literal? N) ws) → length (spaced ws) ≤ 7 * length ws
  spaced_length [] h = le_refl 0
  spaced_length (w ∷ ws) h =
      let (a, b) = (and_iff (literal? N w) _).0 h in
      omega (arith, length-append (32 ∷ signed w) (spaced ws), signed_length w (range N w a).1, spaced_length ws b)

  groups_length : (groups : List (List ℤ)) → T (all some? groups) → T (all (all (literal? N)) groups)
      → length (each (λ ws. v_line ws ++ 10 ∷ []) groups) ≤ 9 * length (each (λ ws. ws) groups)
  groups_length [] o h = le_refl 0
  groups_length ([] ∷ groups) o h = absurd o
  groups_length ((w ∷ ws) ∷ groups) o h =
      let (a, b) = (and_iff (all (literal? N) (w ∷ ws)) _).0 h in
      omega (
        arith,
        length-append (v_line (w ∷ ws) ++ 10 ∷ []) (each (λ ws. v_line ws ++ 10 ∷ []) groups),
        length-append (v_line (w ∷ ws)) (10 ∷ []),
        spaced_length (w ∷ ws) a,
        length-append (w ∷ ws) (each (λ ws. ws) groups),
        groups_length groups o b,
      )

  text_length : (groups : List (List ℤ)) (last : List ℤ) → T (all some? groups) → T (all (all (literal? N)) groups) → T (all (literal? N) last)
      → length (printed groups last) ≤ 9 * length (gathered groups last) + 23
  unfolding printed
  text_length groups last o h k =
      let g : List ℕ = each (λ ws. v_line ws ++ 10 ∷ []) groups in
      let e : spaced (last ++ pos 0 ∷ []) ≡ spaced last ++ ((32 ∷ signed (pos 0)) ++ []) = each_append (λ w. 32 ∷ signed w) last (pos 0 ∷ []) in
      omega (
        arith,
        length-append satisfiable (10 ∷ (g ++ (v_line (last ++ pos 0 ∷ []) ++ 10 ∷ []))),
        length-append g (v_line (last ++ pos 0 ∷ []) ++ 10 ∷ []),
        length-append (v_line (last ++ pos 0 ∷ [])) (10 ∷ []),
        ap length e,
        length-append (32 ∷ signed (pos 0)) [],
        length-append (spaced last) ((32 ∷ signed (pos 0)) ++ []),
        length-append (each (λ ws. ws) groups) last,
        groups_length groups o h,
        spaced_length last k,
        signed_length (pos 0) (omega arith),
      )

-- what the text of literals has
pub record Back (N : ℕ) (text : List ℕ) (ws : List ℤ) : Type 0 where
  pub right : wrong_lines N 0 nothing (lines text) ≡ []
  pub complete : T (complete? (lines text))
  pub satisfied : T (any satisfiable? (lines text))
  pub literals : given text ≡ ws

module _ (N : ℕ) (groups : List (List ℤ)) (last : List ℤ) (o : T (all some? groups)) where
  abbrev ws : List ℤ
  ws = gathered groups last

  module _ (inside : T (all (literal? N) ws)) where
    in_groups : T (all (all (literal? N)) groups)
    in_groups = all_groups (literal? N) groups ((all_append (literal? N) (each (λ ws. ws) groups) last).0 inside).0

    in_last : T (all (literal? N) last)
    in_last = ((all_append (literal? N) (each (λ ws. ws) groups) last).0 inside).1

    pub back_again : Back N (printed groups last) ws
    back_again =
        let text : List ℕ = printed groups last in
        let said = all_said N groups last o in_groups in_last in
        record {
          right = no_wrong N groups last o in_groups in_last;
          complete = subst T (whole_is text) (subst (λ (x : Said). T (whole? x)) (sym said) tt);
          satisfied = subst T (satisfied_is text) (subst (λ (x : Said). T (satisfied? x)) (sym said) tt);
          literals = all_literals N groups last o in_groups in_last;
        }

  -- the text of a valuation is short enough, and gives each variable once, in variable order
  module _ (v : Valuation N ws) where
    pub valuation_inside : T (all (literal? N) ws)
    valuation_inside = literals N ws v

    pub valuation_short : 9 * N + 23 ≤ text_most → length (printed groups last) ≤ text_most
    valuation_short m =
        omega (arith, text_length N (omega arith) groups last o (in_groups valuation_inside) (in_last valuation_inside), v.size)

    pub valuation_once : (i : ℕ) → i < N → times (suc i) ws ≡ 1
    valuation_once i h = ap (times (suc i)) (listed_is N ws v) ∙ once (entry ws) N v.each i h

    pub valuation_order : in_order N ws ≡ ws
    valuation_order = ap (in_order N) (listed_is N ws v) ∙ same_entries (entry ws) N v.each ∙ sym (listed_is N ws v)
