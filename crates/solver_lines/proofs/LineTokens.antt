-- The tokens of a v line, one after another, and the marks they leave.
use mathlib.Core.Path.{◌≡◌, refl, sym, ◌∙◌, ap}
use mathlib.Core.Logic.{◌⊎◌, inl, inr, ⊎_elim}
use mathlib.Core.List.{List, [], ◌∷◌, ◌++◌}
use mathlib.Core.Bool.{Bool, true, false, cond}
use Prim.Native.Nat.{ℕ, zero, suc, ◌+◌, ◌-◌, ◌≤◌, ◌<◌}
use native.Mathlib.Omega.{arith}
use borrow.Author.Tests.{eq-eqb, ne_eqb, eqb-true}
use lib.Dec.{eqb}
use lib.IntN.{ℤ, pos, negsuc}
use lib.ListN.{length, get_or, drop, set, length-set}
use lib.Seq.{get_or-drop, drop-drop}
use Rattle.std.specs.Prelude.{None, Some, is_some}
use Rattle.std.specs.Bool.{then_some}
use Rattle.lists.specs.Loop.{unless}
use Rattle.solver_text.specs.Text.{ahead, behind, pieces, zero?, value, values}
use Rattle.solver_text.specs.Form.{literals_on}
use Rattle.solver_text.proofs.Walk.{split}
use Rattle.solver_tokens.specs.declared.Token.{Token}
use Rattle.solver_tokens.specs.Token.{byte, line, token, literal, token_of}
use Rattle.solver_tokens.proofs.Laws.{byte_in, IsToken, token_is, token_wrong}
use Rattle.solver_lines.specs.declared.Mark.{Mark}
use Rattle.solver_lines.specs.declared.Mark.TheVariants.{Absent, Positive, Negative}
use Rattle.solver_lines.specs.Lines.{again, mark, marked, values_of}

-- ---- behind a token: the line's end, or a space and the next token
abbrev Next : List ℕ → ℕ → Type 0
Next l k =
    ((get_or l k 10 ≡ 10) × (behind 32 (ahead 10 l) ≡ []) × (length (ahead 10 l) ≡ k))
    ⊎ ((get_or l k 10 ≡ 32) × (behind 32 (ahead 10 l) ≡ pieces 32 (ahead 10 (drop (suc k) l))) × (length (ahead 10 l) ≡ suc k + length (ahead 10 (drop (suc k) l))))

next : (l : List ℕ) → Next l (length (ahead 32 (ahead 10 l)))
unfolding ahead behind
next [] = inl (refl, refl, refl)
next (x ∷ l) =
    split (eqb x 10)
    (λ h. rw h (inl (eqb-true x 10 h, refl, refl)))
    (λ h. split (eqb x 32)
    (λ g. rw (h, g) (inr (eqb-true x 32 g, refl, omega arith)))
    (λ g. rw (h, g) (⊎_elim (λ a. inl (a.0, a.1, ap suc a.2)) (λ a. inr (a.0, a.1, omega (arith, a.2))) (next l))))

module _ (text : List ℕ) where
  abbrev After : ℕ → ℕ → Type 0
  After at e =
      ((byte text e ≡ 10) × (behind 32 (line text at) ≡ []) × (e ≡ at + length (line text at)))
      ⊎ ((byte text e ≡ 32) × (behind 32 (line text at) ≡ pieces 32 (line text (e + 1))) × (e + 1 + length (line text (e + 1)) ≡ at + length (line text at)))

  after_token : (at e : ℕ) → e ≡ at + length (token text at) → After at e
  unfolding token line
  after_token at e q =
      let k : ℕ = length (ahead 32 (ahead 10 (drop at text))) in
      let b : get_or (drop at text) k 10 ≡ byte text e = get_or-drop at text k 10 ∙ ap (λ (i : ℕ). get_or text i 10) (sym q) in
      let w : at + suc k ≡ e + 1 = omega arith in
      let d : drop (suc k) (drop at text) ≡ drop (e + 1) text = drop-drop (suc k) at text ∙ ap (λ (i : ℕ). drop i text) w in
      ⊎_elim
      (λ a. inl (sym b ∙ a.0, a.1, q ∙ ap (λ (i : ℕ). at + i) (sym a.2)))
      (λ a.
      let y : length (ahead 10 (drop at text)) ≡ suc k + length (ahead 10 (drop (e + 1) text)) = a.2 ∙ ap (λ (r : List ℕ). suc k + length (ahead 10 r)) d in
      inr (sym b ∙ a.0, a.1 ∙ ap (λ (r : List ℕ). pieces 32 (ahead 10 r)) d, omega arith))
      (next (drop at text))

-- ---- marks
pub mark_length : (ms : List Mark) (v : ℤ) → length (mark ms v) ≡ length ms
unfolding mark
mark_length ms (pos zero) = refl
mark_length ms (pos (suc i)) = length-set ms i _
mark_length ms (negsuc i) = length-set ms i _

pub mark_none : (ms : List Mark) (b : Bool) (size : ℕ) → size ≡ 0 → ms ≡ mark ms (literal b size)
unfolding mark
mark_none ms true size e = rw e
mark_none ms false size e = rw e

pub mark_some : (ms : List Mark) (b : Bool) (size : ℕ) → (size ≡ 0 → ⊥)
    → set ms (size - 1) (again (get_or ms (size - 1) Absent) (cond b Negative Positive)) ≡ mark ms (literal b size)
unfolding mark
mark_some ms b zero d = absurd (d refl)
mark_some ms true (suc i) d = let z : suc i - 1 ≡ i = omega arith in rw z
mark_some ms false (suc i) d = let z : suc i - 1 ≡ i = omega arith in rw z

pub marked_append : (ms : List Mark) (a b : List ℤ) → marked ms (a ++ b) ≡ marked (marked ms a) b
unfolding marked
marked_append ms [] b = refl
marked_append ms (v ∷ a) b = marked_append (mark ms v) a b

-- the literals of the tokens of a line
abbrev pub literals_in : List ℕ → List ℤ
literals_in l = literals_on (values (pieces 32 l))

pub some_then : {A : Type 0} (b : Bool) (x : A) → is_some (then_some b x) ≡ true → b ≡ true
some_then true x e = refl
some_then false x e = e

-- ---- a line, by the token that stands first in it
module _ (text : List ℕ) (N at : ℕ) where
  abbrev l : List ℕ
  l = line text at

  pub values_wrong : None ≡ token_of N (token text at) at → None ≡ values_of N l at
  unfolding token values_of
  values_wrong e = rw (token_wrong N (ahead 32 l) at e)

  module _ (x : Token) (ex : Some x ≡ token_of N (token text at) at) where
    tok : IsToken N (ahead 32 l) at x
    unfolding token
    tok = token_is N (ahead 32 l) at x ex

    pub token_most : x.size ≤ N
    token_most = tok.most

    pub token_later : at ≤ x.end
    token_later = omega (arith, tok.end)

    here : After text at x.end
    unfolding token
    here = after_token text at x.end tok.end

    -- the token's literal is marked, 0 is none; and then those of the tokens behind it
    module _ (ms ms1 : List Mark) (em : ms1 ≡ mark ms (literal x.negative x.size)) where
      one_marked : marked ms (unless (zero? (ahead 32 l)) (value (ahead 32 l))) ≡ ms1
      unfolding marked
      one_marked =
          split (eqb x.size 0)
          (λ e. rw (tok.zero, e) (mark_none ms x.negative x.size (eqb-true x.size 0 e) ∙ sym em))
          (λ e. rw (tok.zero, e) (ap (mark ms) tok.value ∙ sym em))

      marks_are : (ts : List (List ℕ)) → marked ms (literals_on (values (ahead 32 l ∷ ts))) ≡ marked ms1 (literals_on (values ts))
      marks_are ts =
          marked_append ms (unless (zero? (ahead 32 l)) (value (ahead 32 l))) (literals_on (values ts))
          ∙ ap (λ (m : List Mark). marked m (literals_on (values ts))) one_marked

      pub marks_last : byte text x.end ≡ 10 → ms1 ≡ marked ms (literals_in l)
      unfolding marked
      marks_last e =
          ⊎_elim
          (λ a. sym (ap (λ (ts : List (List ℕ)). marked ms (literals_on (values (ahead 32 l ∷ ts)))) a.1 ∙ marks_are []))
          (λ a. absurd (let o : ⊥ = omega (arith, e, a.0) in o))
          here

      pub marks_more : (byte text x.end ≡ 10 → ⊥) → marked ms1 (literals_in (line text (x.end + 1))) ≡ marked ms (literals_in l)
      marks_more g =
          ⊎_elim
          (λ a. absurd (g a.0))
          (λ a. sym (ap (λ (ts : List (List ℕ)). marked ms (literals_on (values (ahead 32 l ∷ ts)))) a.1 ∙ marks_are (pieces 32 (line text (x.end + 1)))))
          here

    -- f is the byte behind the token
    module _ (f : ℕ) (ef : f ≡ byte text x.end) where
      pub values_zero : x.size ≡ 0 → then_some (eqb f 10) (record { closed = true; end = x.end }) ≡ values_of N l at
      unfolding values_of
      values_zero ez =
          let z : zero? (ahead 32 l) ≡ true = tok.zero ∙ eq-eqb x.size 0 ez in
          ⊎_elim
          (λ a. rw (eq-eqb f 10 (ef ∙ a.0), a.1, tok.right, z, a.2))
          (λ a. let o : eqb f 10 ≡ false = ne_eqb f 10 (λ y. omega (arith, a.0)) in rw (o, a.1, tok.right, z))
          here

      module _ (d : x.size ≡ 0 → ⊥) where
        some : zero? (ahead 32 l) ≡ false
        some = tok.zero ∙ ne_eqb x.size 0 d

        pub values_last : f ≡ 10 → Some (record { closed = false; end = x.end }) ≡ values_of N l at
        unfolding values_of
        values_last e =
            ⊎_elim
            (λ a. rw (a.1, tok.right, some, a.2))
            (λ a. absurd (let o : ⊥ = omega (arith, a.0) in o))
            here

        pub values_next : (f ≡ 10 → ⊥) → x.end < length text
        values_next g = byte_in text x.end (λ e. g (ef ∙ e))

        pub values_more : (f ≡ 10 → ⊥) → values_of N (line text (x.end + 1)) (x.end + 1) ≡ values_of N l at
        unfolding values_of
        values_more g =
            ⊎_elim
            (λ a. absurd (g (ef ∙ a.0)))
            (λ a. rw (a.1, tok.right, some, ← a.2))
            here
