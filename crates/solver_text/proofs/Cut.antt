-- Pieces are the parts into which a byte cuts a text, and right tokens are decimal texts.
use mathlib.Core.Path.{◌≡◌, refl, sym, ◌∙◌, ap, ap₂, subst}
use mathlib.Core.Logic.{◌↔◌, ◌⊎◌, inl, inr, ⊎_elim}
use mathlib.Core.List.{List, [], ◌∷◌, cons≢nil}
use mathlib.Core.Bool.{Bool, true, false, not, ◌||◌, cond}
use Prim.Native.Nat.{ℕ, zero, suc, ◌≤◌}
use native.Mathlib.Omega.{arith}
use borrow.Author.Tests.{eqb-true}
use lib.Dec.{T, eqb}
use lib.IntN.{pos, neg_ℤ, nat_abs}
use lib.ListN.{take, drop}
use Rattle.lists.specs.Loop.{all}
use Rattle.lists.proofs.Tests.{and_iff, or_iff, not_iff, eqb_iff}
use Rattle.lists.proofs.Loops.{all_mem}
use Rattle.decimals.specs.Decimals.{digit?, digits, decimal, signed, read_on}
use Rattle.decimals.proofs.Reading.{decimal_read}
use Rattle.solver_text.specs.Text.{Kind, skipped, status, values, neither, kind, same, satisfiable, unsatisfiable, unknown, ahead, behind, pieces, size?, zero?, unsigned, token?}
use Rattle.solver_text.specs.Cut.{joined, Cut, DecimalText}
use Rattle.solver_text.proofs.Walk.{split}
use Rattle.solver_text.proofs.Given.{size_range}
use Rattle.solver_text.proofs.Pieces.{free, token_right}

module _ (s : ℕ) where
  ahead_free : (l : List ℕ) → T (all (free s) (ahead s l))
  unfolding ahead
  ahead_free [] = tt
  ahead_free (x ∷ l) = split (eqb x s) (λ e. rw e tt) (λ e. rw e ((and_iff (free s x) _).1 (rw e tt, ahead_free l)))

  behind_free : (l : List ℕ) → T (all (all (free s)) (behind s l))
  unfolding behind
  behind_free [] = tt
  behind_free (x ∷ l) =
      split (eqb x s) (λ e. rw e ((and_iff (all (free s) (ahead s l)) _).1 (ahead_free l, behind_free l))) (λ e. rw e (behind_free l))

  longer : (x : ℕ) (p : List ℕ) (ps : List (List ℕ)) → joined s ((x ∷ p) ∷ ps) ≡ x ∷ joined s (p ∷ ps)
  longer x p [] = refl
  longer x p (q ∷ ps) = refl

  together : (l : List ℕ) → joined s (pieces s l) ≡ l
  unfolding ahead behind
  together [] = refl
  together (x ∷ l) =
      split (eqb x s)
      (λ e. rw e (ap (λ (r : List ℕ). s ∷ r) (together l) ∙ ap (λ (y : ℕ). y ∷ l) (sym (eqb-true x s e))))
      (λ e. rw e (longer x (ahead s l) (behind s l) ∙ ap (λ (r : List ℕ). x ∷ r) (together l)))

  pub pieces_all : (l : List ℕ) → Cut s l (pieces s l)
  pieces_all l =
      record {
        some = λ e. cons≢nil e;
        free = λ part i j.
            let f : T (all (free s) part) = (all_mem (all (free s)) (pieces s l)).0 ((and_iff (all (free s) (ahead s l)) _).1 (ahead_free l, behind_free l)) part i in
            (not_iff (eqb s s)).0 ((all_mem (free s) part).0 f s j) ((eqb_iff s s).1 refl);
        whole = together l;
      }

-- ---- skipped lines, and s lines
pub same_iff : (l r : List ℕ) → T (same l r) ↔ (l ≡ r)
same_iff l r = (there l r, (λ e. subst (λ (x : List ℕ). T (same l x)) e (again l)))
  where
    there : (l r : List ℕ) → T (same l r) → l ≡ r
    there [] [] h = refl
    there [] (y ∷ r) h = absurd h
    there (x ∷ l) [] h = absurd h
    there (x ∷ l) (y ∷ r) h =
        let (a, b) = (and_iff (eqb x y) _).0 h in ap₂ (λ (u : ℕ) (v : List ℕ). u ∷ v) ((eqb_iff x y).0 a) (there l r b)

    again : (l : List ℕ) → T (same l l)
    again [] = tt
    again (x ∷ l) = (and_iff (eqb x x) _).1 ((eqb_iff x x).1 refl, again l)

abbrev is_status : Bool → Kind → Bool
is_status b (status s) = cond b s (not s)
is_status b skipped = false
is_status b (values ts) = false
is_status b neither = false

-- the tests of a line's kind, in their order
abbrev chosen : Bool → Bool → Bool → Bool → List (List ℕ) → Kind
chosen a b c d ts = cond a skipped (cond b (status true) (cond c (status false) (cond d (values ts) neither)))

is_yes : (a b c d : Bool) (ts : List (List ℕ)) → chosen a b c d ts ≡ status true → T b
is_yes true b c d ts e = absurd (subst (λ (k : Kind). T (is_status true k)) (sym e) tt)
is_yes false true c d ts e = tt
is_yes false false true d ts e = absurd (subst (λ (k : Kind). T (is_status true k)) (sym e) tt)
is_yes false false false true ts e = absurd (subst (λ (k : Kind). T (is_status true k)) (sym e) tt)
is_yes false false false false ts e = absurd (subst (λ (k : Kind). T (is_status true k)) (sym e) tt)

is_no : (a b c d : Bool) (ts : List (List ℕ)) → chosen a b c d ts ≡ status false → T c
is_no true b c d ts e = absurd (subst (λ (k : Kind). T (is_status false k)) (sym e) tt)
is_no false true c d ts e = absurd (subst (λ (k : Kind). T (is_status false k)) (sym e) tt)
is_no false false true d ts e = tt
is_no false false false true ts e = absurd (subst (λ (k : Kind). T (is_status false k)) (sym e) tt)
is_no false false false false ts e = absurd (subst (λ (k : Kind). T (is_status false k)) (sym e) tt)

pub satisfiable_line : (l : List ℕ) → (kind l ≡ status true) ↔ (l ≡ satisfiable)
unfolding kind
satisfiable_line l = (there l, (λ e. ap kind e))
  where
    there : (l : List ℕ) → kind l ≡ status true → l ≡ satisfiable
    there [] e = absurd (subst (λ (k : Kind). T (is_status true k)) (sym e) tt)
    there (x ∷ l) e = (same_iff (x ∷ l) satisfiable).0 (is_yes (eqb x 99) (same (x ∷ l) satisfiable) (same (x ∷ l) unsatisfiable || same (x ∷ l) unknown) (same (take 2 (x ∷ l)) (118 ∷ 32 ∷ [])) (pieces 32 (drop 2 (x ∷ l))) e)

pub other_line_lem : (l : List ℕ) → (kind l ≡ status false) ↔ ((l ≡ unsatisfiable) ⊎ (l ≡ unknown))
unfolding kind
other_line_lem l = (there l, ⊎_elim (λ e. ap kind e) (λ e. ap kind e))
  where
    there : (l : List ℕ) → kind l ≡ status false → (l ≡ unsatisfiable) ⊎ (l ≡ unknown)
    there [] e = absurd (subst (λ (k : Kind). T (is_status false k)) (sym e) tt)
    there (x ∷ l) e =
        ⊎_elim
        (λ h. inl ((same_iff (x ∷ l) unsatisfiable).0 h))
        (λ h. inr ((same_iff (x ∷ l) unknown).0 h))
        ((or_iff (same (x ∷ l) unsatisfiable) _).0 (is_no (eqb x 99) (same (x ∷ l) satisfiable) (same (x ∷ l) unsatisfiable || same (x ∷ l) unknown) (same (take 2 (x ∷ l)) (118 ∷ 32 ∷ [])) (pieces 32 (drop 2 (x ∷ l))) e))

-- ---- v lines
abbrev is_values : Kind → Bool
is_values (values ts) = true
is_values skipped = false
is_values (status s) = false
is_values neither = false

begins : (l : List ℕ) → T (same (take 2 l) (118 ∷ 32 ∷ [])) → (rest : List ℕ) × (l ≡ 118 ∷ 32 ∷ rest)
begins [] h = absurd h
begins (x ∷ []) h = absurd ((and_iff (eqb x 118) false).0 h).1
begins (x ∷ y ∷ l) h =
    let (a, b) = (and_iff (eqb x 118) _).0 h in
    let (c, d) = (and_iff (eqb y 32) _).0 b in
    (l, ap₂ (λ (u : ℕ) (v : ℕ). u ∷ v ∷ l) ((eqb_iff x 118).0 a) ((eqb_iff y 32).0 c))

by_kind : (a b c d : Bool) (ts : List (List ℕ)) → T (is_values (cond a skipped (cond b (status true) (cond c (status false) (cond d (values ts) neither))))) → T d
by_kind true b c d ts h = absurd h
by_kind false true c d ts h = absurd h
by_kind false false true d ts h = absurd h
by_kind false false false true ts h = tt
by_kind false false false false ts h = absurd h

pub v_line_lem : (l : List ℕ) (ts : List (List ℕ)) → kind l ≡ values ts → (rest : List ℕ) × (l ≡ 118 ∷ 32 ∷ rest)
unfolding kind
v_line_lem [] ts e = absurd (subst (λ (k : Kind). T (is_values k)) (sym e) tt)
v_line_lem (x ∷ l) ts e =
    begins (x ∷ l)
    (by_kind (eqb x 99) (same (x ∷ l) satisfiable) (same (x ∷ l) unsatisfiable || same (x ∷ l) unknown) (same (take 2 (x ∷ l)) (118 ∷ 32 ∷ [])) (pieces 32 (drop 2 (x ∷ l)))
    (subst (λ (k : Kind). T (is_values k)) (sym e) tt))

-- ---- tokens
module _ (N : ℕ) where
  size_text : (t : List ℕ) → T (size? N t) → decimal (read_on 0 t) ≡ t
  size_text [] h = absurd h
  size_text (x ∷ t) h =
      let (a, b) = (and_iff (not (eqb x 48)) _).0 h in
      decimal_read x t ((and_iff (all digit? (x ∷ t)) _).0 b).0 (λ e. (not_iff (eqb x 48)).0 a ((eqb_iff x 48).1 e))

  zero_text : (t : List ℕ) → T (zero? t) → t ≡ signed (pos 0)
  unfolding signed decimal digits
  zero_text [] h = absurd h
  zero_text (x ∷ []) h = ap (λ (y : ℕ). y ∷ []) ((eqb_iff x 48).0 ((and_iff (eqb x 48) true).0 h).0)
  zero_text (x ∷ y ∷ t) h = absurd ((and_iff (eqb x 48) false).0 h).1

  negative_text : (x : ℕ) → 1 ≤ x → signed (neg_ℤ (pos x)) ≡ 45 ∷ decimal x
  unfolding signed
  negative_text zero h = absurd (let f : ⊥ = omega arith in f)
  negative_text (suc x) h = refl

  negative_size : (x : ℕ) → nat_abs (neg_ℤ (pos x)) ≡ x
  negative_size zero = refl
  negative_size (suc x) = refl

  size_printed : (t : List ℕ) → T (size? N (unsigned t)) → DecimalText N t
  unfolding signed
  size_printed [] h = absurd h
  size_printed (x ∷ t) h =
      split (eqb x 45)
      (λ e.
      let k : T (size? N t) = subst (λ (b : Bool). T (size? N (cond b t (x ∷ t)))) e h in
      let (l, m) = size_range N t k in (
        neg_ℤ (pos (read_on 0 t)),
        rw (negative_size (read_on 0 t)) m,
        ap (λ (y : ℕ). y ∷ t) (eqb-true x 45 e) ∙ sym (negative_text (read_on 0 t) l ∙ ap (λ (r : List ℕ). 45 ∷ r) (size_text t k)),
      ))
      (λ e.
      let k : T (size? N (x ∷ t)) = subst (λ (b : Bool). T (size? N (cond b t (x ∷ t)))) e h in
      (pos (read_on 0 (x ∷ t)), (size_range N (x ∷ t) k).1, sym (size_text (x ∷ t) k)))

  -- a token is right exactly when it is the text of a number
  pub token_printed : (t : List ℕ) → T (token? N t) ↔ DecimalText N t
  unfolding token?
  token_printed t = (
    (λ h. ⊎_elim (λ z. (pos 0, omega arith, zero_text t z)) (size_printed t) ((or_iff (zero? t) _).0 h)),
    (λ (w, l, e). subst (λ (u : List ℕ). T (token? N u)) (sym e) (subst T (sym (token_right N w l)) tt)),
  )
