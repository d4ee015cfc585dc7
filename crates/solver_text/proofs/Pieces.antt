-- Pieces of a text that is put together, and the tokens of numbers that are printed.
use mathlib.Core.Path.{◌≡◌, refl, sym, ◌∙◌, ap, ap₂, subst}
use mathlib.Core.List.{List, [], ◌∷◌, ◌++◌, append-nil}
use mathlib.Core.Bool.{Bool, true, false, not}
use Prim.Native.Nat.{ℕ, zero, suc, ◌≤◌, ◌<◌}
use native.Mathlib.Omega.{arith}
use borrow.Author.Tests.{eq-eqb, ne_eqb, le-leb}
use lib.Dec.{T, eqb}
use lib.IntN.{ℤ, pos, negsuc, neg_ℤ, nat_abs}
use lib.ListN.{get_or}
use Rattle.lists.specs.Loop.{each, all}
use Rattle.lists.proofs.Tests.{and_iff, not_iff, eqb_iff}
use Rattle.lists.proofs.Loops.{all_append}
use Rattle.answers.proofs.Faults.{T_true, T_false}
use Rattle.decimals.specs.Decimals.{digit?, digits, decimal, signed, read_on}
use Rattle.decimals.proofs.Reading.{read_decimal, no_zero_in_front, decimal_digits}
use Rattle.solver_text.specs.Text.{ahead, behind, pieces, size?, zero?, negative?, token?, value, kind, values}
use Rattle.solver_text.specs.Printed.{v_line, some?}

-- ---- pieces of a text that is put together
module _ (s : ℕ) where
  abbrev pub free : ℕ → Bool
  free d = not (eqb d s)

  ahead_at : (t l : List ℕ) → T (all free t) → ahead s (t ++ s ∷ l) ≡ t
  unfolding ahead
  ahead_at [] l h = rw (eq-eqb s s refl)
  ahead_at (x ∷ t) l h =
      let (a, b) = (and_iff (free x) _).0 h in
      rw (T_false (eqb x s) ((not_iff (eqb x s)).0 a)) (ap (λ (r : List ℕ). x ∷ r) (ahead_at t l b))

  behind_at : (t l : List ℕ) → T (all free t) → behind s (t ++ s ∷ l) ≡ pieces s l
  unfolding behind
  behind_at [] l h = rw (eq-eqb s s refl)
  behind_at (x ∷ t) l h =
      let (a, b) = (and_iff (free x) _).0 h in rw (T_false (eqb x s) ((not_iff (eqb x s)).0 a)) (behind_at t l b)

  pub pieces_cut : (t l : List ℕ) → T (all free t) → pieces s (t ++ s ∷ l) ≡ t ∷ pieces s l
  pieces_cut t l h = ap₂ (λ (x : List ℕ) (y : List (List ℕ)). x ∷ y) (ahead_at t l h) (behind_at t l h)

  ahead_all : (t : List ℕ) → T (all free t) → ahead s t ≡ t
  unfolding ahead
  ahead_all [] h = refl
  ahead_all (x ∷ t) h =
      let (a, b) = (and_iff (free x) _).0 h in
      rw (T_false (eqb x s) ((not_iff (eqb x s)).0 a)) (ap (λ (r : List ℕ). x ∷ r) (ahead_all t b))

  behind_all : (t : List ℕ) → T (all free t) → behind s t ≡ []
  unfolding behind
  behind_all [] h = refl
  behind_all (x ∷ t) h =
      let (a, b) = (and_iff (free x) _).0 h in rw (T_false (eqb x s) ((not_iff (eqb x s)).0 a)) (behind_all t b)

  pub pieces_one : (t : List ℕ) → T (all free t) → pieces s t ≡ t ∷ []
  pieces_one t h = ap₂ (λ (x : List ℕ) (y : List (List ℕ)). x ∷ y) (ahead_all t h) (behind_all t h)

  -- ---- numbers hold no separator
  module _ (minus : T (free 45)) (other : T (digit? s) → ⊥) where
    digits_free : (t : List ℕ) → T (all digit? t) → T (all free t)
    digits_free [] h = tt
    digits_free (x ∷ t) h =
        let (a, b) = (and_iff (digit? x) _).0 h in
        (and_iff (free x) _).1 ((not_iff (eqb x s)).1 (λ e. other (subst (λ (y : ℕ). T (digit? y)) ((eqb_iff x s).0 e) a)), digits_free t b)

    pub signed_free : (w : ℤ) → T (all free (signed w))
    unfolding signed
    signed_free (pos x) = digits_free (decimal x) (decimal_digits x)
    signed_free (negsuc x) = (and_iff (free 45) _).1 (minus, digits_free (decimal (suc x)) (decimal_digits (suc x)))

-- ---- the tokens of a v line
abbrev pub tokens_of : List ℤ → List (List ℕ)
tokens_of ws = each (λ w. signed w ∷ []) ws

line_tokens : (w : ℤ) (ws : List ℤ) → pieces 32 (signed w ++ each (λ w. 32 ∷ signed w) ws) ≡ signed w ∷ tokens_of ws
line_tokens w [] = ap (pieces 32) (append-nil (signed w)) ∙ pieces_one 32 (signed w) (signed_free 32 tt (λ t. t) w)
line_tokens w (v ∷ ws) =
    pieces_cut 32 (signed w) _ (signed_free 32 tt (λ t. t) w) ∙ ap (λ (ts : List (List ℕ)). signed w ∷ ts) (line_tokens v ws)

pub kind_v : (ws : List ℤ) → T (some? ws) → kind (v_line ws) ≡ values (tokens_of ws)
unfolding kind
kind_v [] h = absurd h
kind_v (w ∷ ws) h = ap values (line_tokens w ws)

spaced_free : (ws : List ℤ) → T (all (free 10) (each (λ w. 32 ∷ signed w) ws))
spaced_free [] = tt
spaced_free (w ∷ ws) = (all_append (free 10) (32 ∷ signed w) _).1 (signed_free 10 tt (λ t. t) w, spaced_free ws)

pub line_free : (ws : List ℤ) → T (all (free 10) (v_line ws))
line_free ws = spaced_free ws

-- ---- a token that is printed
zero_text : decimal 0 ≡ 48 ∷ []
unfolding decimal digits
zero_text = refl

module _ (N : ℕ) where
  size_right : (t : List ℕ) (n : ℕ) → 48 < get_or t 0 0 → T (all digit? t) → read_on 0 t ≡ n → n ≤ N → size? N t ≡ true
  size_right [] n h a e l = absurd (let f : ⊥ = omega arith in f)
  size_right (x ∷ t) n h a e l = rw (ne_eqb x 48 (λ z. omega arith), T_true (all digit? (x ∷ t)) a, le-leb (read_on 0 (x ∷ t)) N (omega arith))

  -- a token that begins with a digit from 1 to 9
  front_token : (t : List ℕ) → 48 < get_or t 0 0 → (zero? t ≡ false) × (negative? t ≡ false)
  front_token [] h = absurd (let f : ⊥ = omega arith in f)
  front_token (x ∷ t) h = (rw (ne_eqb x 48 (λ z. omega arith)), ne_eqb x 45 (λ z. omega arith))

  size_decimal : (x : ℕ) → suc x ≤ N → size? N (decimal (suc x)) ≡ true
  size_decimal x h = size_right (decimal (suc x)) (suc x) (no_zero_in_front (suc x) (omega arith)) (decimal_digits (suc x)) (read_decimal (suc x)) h

  pub token_right : (w : ℤ) → nat_abs w ≤ N → token? N (signed w) ≡ true
  unfolding token? signed
  token_right (pos zero) h = rw zero_text
  token_right (pos (suc x)) h =
      let f = front_token (decimal (suc x)) (no_zero_in_front (suc x) (omega arith)) in rw (f.0, f.1) (size_decimal x h)
  token_right (negsuc x) h = size_decimal x h

  pub token_value : (w : ℤ) → value (signed w) ≡ w
  unfolding value signed
  token_value (pos zero) = rw zero_text
  token_value (pos (suc x)) =
      let f = front_token (decimal (suc x)) (no_zero_in_front (suc x) (omega arith)) in rw f.1 (ap pos (read_decimal (suc x)))
  token_value (negsuc x) = ap (λ (y : ℕ). neg_ℤ (pos y)) (read_decimal (suc x))

  pub token_zero : (w : ℤ) → zero? (signed w) ≡ eqb (nat_abs w) 0
  unfolding signed
  token_zero (pos zero) = rw zero_text
  token_zero (pos (suc x)) = (front_token (decimal (suc x)) (no_zero_in_front (suc x) (omega arith))).0 ∙ sym (ne_eqb (suc x) 0 (λ z. omega arith))
  token_zero (negsuc x) = sym (ne_eqb (suc x) 0 (λ z. omega arith))
