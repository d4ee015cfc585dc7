-- What stands ahead of a place, byte by byte, and the numbers and tokens read from it.
use mathlib.Core.Path.{◌≡◌, refl, sym, ◌∙◌, ap, subst}
use mathlib.Core.Logic.{by_cases, ◌⊎◌, inl, inr, ⊎_elim}
use mathlib.Core.List.{List, [], ◌∷◌}
use mathlib.Core.Bool.{Bool, true, false, not, ◌||◌, cond}
use Prim.Native.Nat.{ℕ, suc, ◌+◌, ◌*◌, ◌-◌, ◌≤◌, ◌<◌}
use native.Mathlib.Nat.{add-zero}
use native.Mathlib.Decide.{dec_lt}
use native.Mathlib.Omega.{arith}
use borrow.Author.Tests.{eq-eqb, ne_eqb, eqb-true, le-leb, lt-leb}
use lib.Dec.{T, leb, eqb}
use lib.ListN.{length, get_or, drop, get_or-eq_default}
use lib.Seq.{get_or-drop, drop-drop}
use Rattle.std.specs.Prelude.{Option, None, Some, option_map}
use Rattle.std.specs.Bool.{then_some}
use Rattle.lists.specs.Loop.{all}
use Rattle.lists.proofs.Tests.{and_iff, or_iff, not_iff, eqb_iff, and_false, leb_iff}
use Rattle.answers.proofs.Faults.{T_true}
use Rattle.decimals.specs.Decimals.{digit?, read_on}
use Rattle.decimals.proofs.Reading.{read_most}
use Rattle.solver_text.specs.Text.{ahead, size?, token?, zero?, negative?, unsigned, value}
use Rattle.solver_text.proofs.Walk.{split}
use Rattle.solver_tokens.specs.declared.Number.{Number}
use Rattle.solver_tokens.specs.declared.Token.{Token}
use Rattle.solver_tokens.specs.Token.{byte, line, token, end?, number_of, size_of, token_of, literal}

-- ---- pieces, byte by byte
pub ahead_end : (s : ℕ) (l : List ℕ) → get_or l 0 s ≡ s → ahead s l ≡ []
unfolding ahead
ahead_end s [] e = refl
ahead_end s (x ∷ l) e = rw (eq-eqb x s e)

pub ahead_more : (s : ℕ) (l : List ℕ) → (get_or l 0 s ≡ s → ⊥) → ahead s l ≡ get_or l 0 s ∷ ahead s (drop 1 l)
unfolding ahead
ahead_more s [] d = absurd (d refl)
ahead_more s (x ∷ l) d = rw (ne_eqb x s d)

-- a number that passes a test is none that fails it, and the other way round
pub differs : {d : ℕ} (k : ℕ) (p : ℕ → Bool) → p d ≡ true → (T (p k) → ⊥) → d ≡ k → ⊥
differs {d} k p e f z = f (subst (λ (x : ℕ). T (p x)) z (subst T (sym e) tt))

pub differs_not : {d : ℕ} (k : ℕ) (p : ℕ → Bool) → p d ≡ false → T (p k) → d ≡ k → ⊥
differs_not {d} k p e t z = subst T e (subst (λ (x : ℕ). T (p x)) (sym z) t)

pub end_cases : (d : ℕ) → end? d ≡ true → (d ≡ 32) ⊎ (d ≡ 10)
end_cases d e = split (eqb d 32) (λ h. inl (eqb-true d 32 h)) (λ h. inr (eqb-true d 10 (sym (ap (λ (b : Bool). b || eqb d 10) h) ∙ e)))

module _ (text : List ℕ) where
  at_front : (at : ℕ) → get_or (drop at text) 0 10 ≡ byte text at
  at_front at = get_or-drop at text 0 10 ∙ ap (λ (i : ℕ). get_or text i 10) (add-zero at)

  pub byte_in : (at : ℕ) → (byte text at ≡ 10 → ⊥) → at < length text
  byte_in at d = by_cases (dec_lt at (length text)) (λ l. l) (λ l. absurd (d (get_or-eq_default text 10 (omega arith))))

  pub line_end : (at : ℕ) → byte text at ≡ 10 → line text at ≡ []
  unfolding line
  line_end at e = ahead_end 10 (drop at text) (at_front at ∙ e)

  pub line_more : (at : ℕ) → (byte text at ≡ 10 → ⊥) → line text at ≡ byte text at ∷ line text (at + 1)
  unfolding line
  line_more at d =
      ahead_more 10 (drop at text) (λ e. d (sym (at_front at) ∙ e))
      ∙ rw (at_front at, drop-drop 1 at text)

  pub token_end : (at : ℕ) → end? (byte text at) ≡ true → token text at ≡ []
  unfolding token ahead
  token_end at e =
      ⊎_elim (λ z. let n : byte text at ≡ 10 → ⊥ = λ y. omega arith in rw (line_more at n, eq-eqb (byte text at) 32 z)) (λ z. rw (line_end at z)) (end_cases (byte text at) e)

  pub token_more : (at : ℕ) → end? (byte text at) ≡ false → token text at ≡ byte text at ∷ token text (at + 1)
  unfolding token ahead
  token_more at e = rw (line_more at (differs_not 10 end? e tt), ne_eqb (byte text at) 32 (differs_not 32 end? e tt))

-- ---- numbers
pub digit_range : (d : ℕ) → digit? d ≡ true → (48 ≤ d) × (d ≤ 57)
digit_range d e = let h = (and_iff (leb 48 d) (leb d 57)).0 (subst T (sym e) tt) in ((leb_iff 48 d).0 h.0, (leb_iff d 57).0 h.1)

module _ (text : List ℕ) (N at : ℕ) where
  -- d is the byte read here
  module _ (d : ℕ) (ed : d ≡ byte text at) where
    some_more : end? d ≡ false → token text at ≡ d ∷ token text (at + 1)
    some_more e = token_more text at (sym (ap end? ed) ∙ e) ∙ ap (λ (y : ℕ). y ∷ token text (at + 1)) (sym ed)

    no_more : end? d ≡ true → token text at ≡ []
    no_more e = token_end text at (sym (ap end? ed) ∙ e)

    digit_end : digit? d ≡ true → end? d ≡ false
    digit_end e = rw (ne_eqb d 32 (differs 32 digit? e (λ t. t)), ne_eqb d 10 (differs 10 digit? e (λ t. t)))

    pub digit_in : digit? d ≡ true → at < length text
    digit_in e = byte_in text at (λ z. differs 10 digit? e (λ t. t) (ed ∙ z))

    -- a digit more, or none
    pub number_begun : (x : ℕ) → digit? d ≡ true → number_of N (10 * x + (d - 48)) (token text (at + 1)) (at + 1) ≡ number_of N x (token text at) at
    unfolding number_of
    number_begun x e =
        let k : at + 1 + length (token text (at + 1)) ≡ at + suc (length (token text (at + 1))) = omega arith in
        rw (some_more (digit_end e), e, k)

    pub number_done : (x : ℕ) → x ≤ N → digit? d ≡ false → then_some (end? d) (record { size = x; end = at }) ≡ number_of N x (token text at) at
    unfolding number_of
    number_done x l e =
        split (end? d)
        (λ h. rw (no_more h, h, le-leb x N l, add-zero))
        (λ h. rw (some_more h, h, e))

    -- ---- sizes
    pub size_none : digit? d ≡ false → None ≡ size_of N (token text at) at
    unfolding size_of
    size_none e =
        split (end? d)
        (λ h. rw (no_more h))
        (λ h. rw (some_more h, e, and_false))

    pub size_zero : d ≡ 48 → None ≡ size_of N (token text at) at
    unfolding size_of
    size_zero z = rw (some_more (ap end? z), z)

    pub size_number : digit? d ≡ true → (d ≡ 48 → ⊥) → number_of N 0 (token text at) at ≡ size_of N (token text at) at
    unfolding size_of number_of
    size_number e f = rw (some_more (digit_end e), ne_eqb d 48 f)

    -- ---- tokens
    -- "0"
    pub token_zero : (f : ℕ) → d ≡ 48 → f ≡ byte text (at + 1)
        → then_some (end? f) (record { negative = false; size = 0; end = at + 1 }) ≡ token_of N (token text at) at
    unfolding token_of token?
    token_zero f z ef =
        let more : token text at ≡ 48 ∷ token text (at + 1) = some_more (ap end? z) ∙ ap (λ (y : ℕ). y ∷ token text (at + 1)) z in
        split (end? f)
        (λ h. rw (more, token_end text (at + 1) (sym (ap end? ef) ∙ h), h))
        (λ h. rw (more, token_more text (at + 1) (sym (ap end? ef) ∙ h), h))

    -- "-" before the size, or no sign
    pub token_negative : (r : Option Number) → d ≡ 45 → r ≡ size_of N (token text (at + 1)) (at + 1)
        → option_map (λ x. record { negative = true; size = x.size; end = x.end }) r ≡ token_of N (token text at) at
    unfolding token_of token? size_of
    token_negative r z e =
        let more : token text at ≡ 45 ∷ token text (at + 1) = some_more (ap end? z) ∙ ap (λ (y : ℕ). y ∷ token text (at + 1)) z in
        let k : at + 1 + length (token text (at + 1)) ≡ at + suc (length (token text (at + 1))) = omega arith in
        split (size? N (token text (at + 1))) (λ h. rw (more, e, h, k)) (λ h. rw (more, e, h))

    pub token_positive : (r : Option Number) → (d ≡ 48 → ⊥) → (d ≡ 45 → ⊥) → r ≡ size_of N (token text at) at
        → option_map (λ x. record { negative = false; size = x.size; end = x.end }) r ≡ token_of N (token text at) at
    unfolding token_of token? size_of
    token_positive r f g e =
        split (end? d)
        (λ h. rw (e, no_more h))
        (λ h.
        let more = some_more h in
        let s : negative? (token text at) ≡ false = rw more (ne_eqb d 45 g) in
        let z : zero? (token text at) ≡ false = rw more (rw (ne_eqb d 48 f)) in
        split (size? N (token text at)) (λ y. rw (e, z, s, y)) (λ y. rw (e, z, s, y)))

pub number_over : (N x at : ℕ) (t : List ℕ) → N < x → None ≡ number_of N x t at
unfolding number_of
number_over N x at t l = rw (lt-leb (read_on x t) N (omega (arith, read_most x t)), and_false (all digit? t))

-- ---- what a token says
size_at_most : (N : ℕ) (t : List ℕ) → T (size? N t) → read_on 0 t ≤ N
size_at_most N t h = (leb_iff (read_on 0 t) N).0 ((and_iff (all digit? t) _).0 ((and_iff (not (eqb (get_or t 0 48) 48)) _).0 h).1).1

-- it is not 0
size_some : (N : ℕ) (t : List ℕ) → T (size? N t) → 1 ≤ read_on 0 t
size_some N [] h = absurd h
size_some N (d ∷ t) h =
    let (f, g) = (and_iff (not (eqb d 48)) _).0 h in
    let k = digit_range d (T_true (digit? d) ((and_iff (digit? d) _).0 ((and_iff (all digit? (d ∷ t)) _).0 g).0).0) in
    let q : d ≡ 48 → ⊥ = λ e. (not_iff (eqb d 48)).0 f ((eqb_iff d 48).1 e) in
    omega (arith, read_most (10 * 0 + (d - 48)) t, k, q)

module _ (N : ℕ) (t : List ℕ) (h : token? N t ≡ true) where
  same_zero : (t : List ℕ) → T (zero? t) → t ≡ 48 ∷ []
  same_zero [] z = absurd z
  same_zero (d ∷ []) z = ap (λ (x : ℕ). x ∷ []) ((eqb_iff d 48).0 ((and_iff (eqb d 48) _).0 z).0)
  same_zero (d ∷ e ∷ t) z = absurd ((and_iff (eqb d 48) _).0 z).1

  token_cases : (t ≡ 48 ∷ []) ⊎ T (size? N (unsigned t))
  unfolding token?
  token_cases = ⊎_elim (λ z. inl (same_zero t z)) (λ s. inr s) ((or_iff (zero? t) _).0 (subst T (sym h) tt))

  pub token_most : read_on 0 (unsigned t) ≤ N
  token_most = ⊎_elim (λ e. rw e (omega arith)) (size_at_most N (unsigned t)) token_cases

  -- its size is 0 where it is the token "0"
  pub token_size : zero? t ≡ eqb (read_on 0 (unsigned t)) 0
  token_size =
      split (zero? t)
      (λ e. rw (same_zero t (subst T (sym e) tt)))
      (λ e.
      ⊎_elim
      (λ f. absurd (subst T (sym (ap zero? f) ∙ e) tt))
      (λ s. let l = size_some N (unsigned t) s in e ∙ sym (ne_eqb (read_on 0 (unsigned t)) 0 (λ z. omega arith)))
      token_cases)

-- what was read at a token's place
pub record IsToken (N : ℕ) (t : List ℕ) (at : ℕ) (x : Token) : Type 0 where
  pub right : token? N t ≡ true
  pub value : value t ≡ literal x.negative x.size
  pub zero : zero? t ≡ eqb x.size 0
  pub most : x.size ≤ N
  pub end : x.end ≡ at + length t

-- what a value says that is there where a test holds
pub some_cond : {A : Type 0} (b : Bool) (x y : A) → Some y ≡ cond b (Some x) None → (b ≡ true) × (y ≡ x)
some_cond true x y e = (refl, cc)
some_cond false x y e = cc

pub none_cond : {A : Type 0} (b : Bool) (x : A) → None ≡ cond b (Some x) None → b ≡ false
none_cond true x e = cc
none_cond false x e = refl

pub token_is : (N : ℕ) (t : List ℕ) (at : ℕ) (x : Token) → Some x ≡ token_of N t at → IsToken N t at x
unfolding token_of value
token_is N t at x e =
    let (h, z) = some_cond (token? N t) _ x e in
    subst (IsToken N t at) (sym z) (record { right = h; value = refl; zero = token_size N t h; most = token_most N t h; end = refl })

pub token_wrong : (N : ℕ) (t : List ℕ) (at : ℕ) → None ≡ token_of N t at → token? N t ≡ false
unfolding token_of
token_wrong N t at e = none_cond (token? N t) _ e
