-- The literals of a text whose lines are right: each is of a variable 1 to N. Where each variable is given once, those in variable
-- order are a valuation that has exactly them.
use mathlib.Core.Path.{◌≡◌, refl, sym, ◌∙◌, ap, subst}
use mathlib.Core.Logic.{◌↔◌, ⊎_elim, inl, inr}
use mathlib.Core.List.{List, [], ◌∷◌}
use mathlib.Core.Bool.{Bool, true, false, not, ◌||◌, cond}
use Prim.Native.Nat.{ℕ, zero, suc, ◌+◌, ◌*◌, ◌-◌, ◌≤◌, ◌<◌}
use native.Mathlib.Omega.{arith}
use borrow.Author.Tests.{eq-eqb, ne_eqb, eqb-false}
use lib.Dec.{T, leb, eqb}
use lib.IntN.{ℤ, pos, negsuc, neg_ℤ, nat_abs}
use lib.ListN.{length}
use Rattle.lists.specs.Loop.{each, all, any, unless}
use Rattle.lists.proofs.Tests.{and_iff, or_iff, not_iff, leb_iff, eqb_iff}
use Rattle.lists.proofs.Loops.{all_append, any_get_or, any_mem, all_mem, append_nil_iff, unless_nil}
use Rattle.lists.proofs.Blocks.{for1_length, for1_get_or}
use Rattle.answers.specs.Answers.{refuse}
use Rattle.decimals.specs.Decimals.{digit?, read_on}
use Rattle.decimals.proofs.Reading.{read_most}
use Rattle.valuation.specs.Valuation.{same_number, true?, entry}
use Rattle.valuation.specs.Satisfying.{Valuation}
use Rattle.valuation.proofs.Entries.{same_number_iff}
use Rattle.solver_text.specs.declared.Said.{Said}
use Rattle.solver_text.specs.Text.{zero?, negative?, unsigned, size?, token?, value, tokens?, Kind, skipped, status, values, neither, kind}
use Rattle.solver_text.specs.Form.{literals_on, literals_of, literal?, times, in_order}
use Rattle.solver_text.specs.Walk.{right?, after, wrong_lines}
use Rattle.solver_text.proofs.Walk.{split}

-- ---- right lines give literals of the variables 1 to N
module _ (N : ℕ) where
  pub range : (w : ℤ) → T (literal? N w) → (1 ≤ nat_abs w) × (nat_abs w ≤ N)
  range w t = let (a, b) = (and_iff (leb 1 (nat_abs w)) _).0 t in ((leb_iff 1 (nat_abs w)).0 a, (leb_iff (nat_abs w) N).0 b)

  size_of : (b : Bool) (x : ℕ) → nat_abs (cond b (neg_ℤ (pos x)) (pos x)) ≡ x
  size_of true zero = refl
  size_of true (suc x) = refl
  size_of false x = refl

  -- digits that do not begin with 0 say 1 or more
  pub size_range : (t : List ℕ) → T (size? N t) → (1 ≤ read_on 0 t) × (read_on 0 t ≤ N)
  size_range [] h = absurd h
  size_range (x ∷ t) h =
      let (a, b) = (and_iff (not (eqb x 48)) _).0 h in
      let (c, d) = (and_iff (all digit? (x ∷ t)) _).0 b in
      let low = (leb_iff 48 x).0 ((and_iff (leb 48 x) _).0 ((and_iff (digit? x) _).0 c).0).0 in
      let other : x ≡ 48 → ⊥ = λ e. (not_iff (eqb x 48)).0 a ((eqb_iff x 48).1 e) in
      (omega (arith, read_most (10 * 0 + (x - 48)) t, low, other), (leb_iff (read_on 0 (x ∷ t)) N).0 d)

  token_inside : (t : List ℕ) → T (token? N t) → zero? t ≡ false → T (literal? N (value t))
  unfolding token? value
  token_inside t h f =
      let e = size_of (negative? t) (read_on 0 (unsigned t)) in
      let w : ℤ = cond (negative? t) (neg_ℤ (pos (read_on 0 (unsigned t)))) (pos (read_on 0 (unsigned t))) in
      ⊎_elim
      (λ z. absurd (subst T f z))
      (λ s.
      let (l, m) = size_range (unsigned t) s in
      (and_iff (leb 1 (nat_abs w)) _).1 ((leb_iff 1 (nat_abs w)).1 (omega (arith, e, l)), (leb_iff (nat_abs w) N).1 (omega (arith, e, m))))
      ((or_iff (zero? t) _).0 h)

  one_inside : (t : List ℕ) → T (token? N t) → T (all (literal? N) (unless (zero? t) (value t)))
  one_inside t h = split (zero? t) (λ e. rw e tt) (λ e. rw e ((and_iff (literal? N (value t)) true).1 (token_inside t h e, tt)))

  tokens_inside : (closed : Bool) (ts : List (List ℕ)) → T (tokens? N closed ts) → T (all (literal? N) (each (λ t. unless (zero? t) (value t)) ts))
  tokens_inside closed [] h = tt
  tokens_inside closed (t ∷ ts) h =
      let (a, b) = (and_iff (token? N t) _).0 ((and_iff (not closed) _).0 h).1 in
      (all_append (literal? N) (unless (zero? t) (value t)) _).1 (one_inside t a, tokens_inside (zero? t) ts b)

  kind_inside : (said : Said) (k : Kind) → T (right? N said k) → T (all (literal? N) (literals_on k))
  kind_inside said skipped h = tt
  kind_inside said (status s) h = tt
  kind_inside said (values ts) h = tokens_inside said.closed ts h
  kind_inside said neither h = tt

  pub lines_inside : (at : ℕ) (said : Said) (ls : List (List ℕ)) → wrong_lines N at said ls ≡ [] → T (all (literal? N) (literals_of ls))
  unfolding wrong_lines literals_of
  lines_inside at said [] e = tt
  lines_inside at said (l ∷ ls) e =
      let (a, b) = (append_nil_iff (unless (right? N said (kind l)) (refuse 27 at)) _).0 e in
      (all_append (literal? N) (literals_on (kind l)) _).1
      (kind_inside said (kind l) ((unless_nil (right? N said (kind l)) (refuse 27 at)).0 a), lines_inside (at + length l + 1) (after at said (kind l)) ls b)

-- ---- in variable order
abbrev chosen : List ℤ → ℕ → ℤ
chosen vs i = cond (true? vs (pos (suc i))) (pos (suc i)) (neg_ℤ (pos (suc i)))

entry_read : (N : ℕ) (vs : List ℤ) (i : ℕ) → i < N → entry (in_order N vs) i ≡ chosen vs i
unfolding in_order
entry_read N vs i h = for1_get_or N (chosen vs) (pos 0) i h

pub order_length : (N : ℕ) (vs : List ℤ) → length (in_order N vs) ≡ N
unfolding in_order
order_length N vs = for1_length N (chosen vs)

-- whatever the literals are, what is written is a valuation
pub order_valuation : (N : ℕ) (vs : List ℤ) → Valuation N (in_order N vs)
order_valuation N vs =
    record {
      size = order_length N vs;
      each = λ i h.
          let e = entry_read N vs i h in
          split (true? vs (pos (suc i))) (λ t. inl (e ∙ rw t)) (λ f. inr (e ∙ rw f));
    }

-- a variable that is given, and not as itself, is given as its negative
other_side : (i : ℕ) (vs : List ℤ) → (times (suc i) vs ≡ 0 → ⊥) → true? vs (pos (suc i)) ≡ false → T (true? vs (neg_ℤ (pos (suc i))))
unfolding times true?
other_side i [] d f = absurd (d refl)
other_side i (pos a ∷ vs) d f =
    split (eqb (suc i) a)
    (λ e. absurd (subst T (sym (ap (λ (b : Bool). b || any (same_number (pos (suc i))) vs) e) ∙ f) tt))
    (λ e.
    let n : eqb a (suc i) ≡ false = ne_eqb a (suc i) (λ z. eqb-false (suc i) a e (sym z)) in
    other_side i vs (λ z. d (rw n (omega arith))) (sym (ap (λ (b : Bool). b || any (same_number (pos (suc i))) vs) e) ∙ f))
other_side i (negsuc a ∷ vs) d f =
    split (eqb i a)
    (λ e. rw e tt)
    (λ e.
    let n : eqb (suc a) (suc i) ≡ false = ne_eqb (suc a) (suc i) (λ z. eqb-false i a e (omega arith)) in
    rw e (other_side i vs (λ z. d (rw n (omega arith))) f))

-- where a variable is given once, its entry is a literal of the text
read_given : (N : ℕ) (vs : List ℤ) (i : ℕ) → i < N → times (suc i) vs ≡ 1 → T (true? vs (entry (in_order N vs) i))
read_given N vs i h o =
    split (true? vs (pos (suc i)))
    (λ t. rw (entry_read N vs i h, t) (subst T (sym t) tt))
    (λ f. rw (entry_read N vs i h, f) (other_side i vs (λ z. let g : ⊥ = omega arith in g) f))

-- ---- a variable given once is not given both ways
same_is : (v w : ℤ) → T (same_number v w) → v ≡ w
same_is v w h = (same_number_iff v w).0 h

-- counted at each place where it stands
counted : (i : ℕ) (w : ℤ) (vs : List ℤ) → nat_abs w ≡ suc i → T (true? vs w) → 1 ≤ times (suc i) vs
unfolding true? times
counted i w [] e h = absurd h
counted i w (v ∷ vs) e h =
    ⊎_elim
    (λ a. let q : nat_abs v ≡ suc i = sym (ap nat_abs (same_is w v a)) ∙ e in rw (eq-eqb (nat_abs v) (suc i) q) (omega arith))
    (λ a. omega (arith, counted i w vs e a))
    ((or_iff (same_number w v) _).0 h)

both : (i : ℕ) (w u : ℤ) (vs : List ℤ) → nat_abs w ≡ suc i → nat_abs u ≡ suc i → (w ≡ u → ⊥) → T (true? vs w) → T (true? vs u) → 2 ≤ times (suc i) vs
unfolding true? times
both i w u [] ew eu d h k = absurd h
both i w u (v ∷ vs) ew eu d h k =
    ⊎_elim
    (λ a.
    let q : nat_abs v ≡ suc i = sym (ap nat_abs (same_is w v a)) ∙ ew in
    ⊎_elim
    (λ b. absurd (d (same_is w v a ∙ sym (same_is u v b))))
    (λ b. rw (eq-eqb (nat_abs v) (suc i) q) (omega (arith, counted i u vs eu b)))
    ((or_iff (same_number u v) _).0 k))
    (λ a.
    ⊎_elim
    (λ b. let q : nat_abs v ≡ suc i = sym (ap nat_abs (same_is u v b)) ∙ eu in rw (eq-eqb (nat_abs v) (suc i) q) (omega (arith, counted i w vs ew a)))
    (λ b. omega (arith, both i w u vs ew eu d a b))
    ((or_iff (same_number u v) _).0 k))
    ((or_iff (same_number w v) _).0 h)

-- ---- where each variable is given once, and no other
module _ (N : ℕ) (vs : List ℤ) (inside : T (all (literal? N) vs)) (once : (i : ℕ) → i < N → times (suc i) vs ≡ 1) where
  entry_size : (i : ℕ) → i < N → nat_abs (entry (in_order N vs) i) ≡ suc i
  entry_size i h = ap nat_abs (entry_read N vs i h) ∙ split (true? vs (pos (suc i))) (λ t. rw t) (λ f. rw f)

  -- each literal of the text is an entry
  there : (w : ℤ) → T (true? vs w) → T (true? (in_order N vs) w)
  unfolding true?
  there w h =
      let (x, r, t) = (any_mem (same_number w) vs).0 h in
      let (k, l) = range N w (subst (λ (y : ℤ). T (literal? N y)) (sym (same_is w x t)) ((all_mem (literal? N) vs).0 inside x r)) in
      let i : ℕ = nat_abs w - 1 in
      let e : nat_abs w ≡ suc i = omega arith in
      let j : i < N = omega arith in
      let here : T (true? vs (entry (in_order N vs) i)) = read_given N vs i j (once i j) in
      (any_get_or (pos 0) (same_number w) (in_order N vs)).1 (
        i,
        omega (arith, order_length N vs),
        split (same_number w (entry (in_order N vs) i)) (λ y. subst T (sym y) tt) (λ f.
            absurd (let two = both i w (entry (in_order N vs) i) vs e (entry_size i j) (λ z. subst T f ((same_number_iff w _).1 z)) h here in let o = once i j in let g : ⊥ = omega arith in g)),
      )

  -- and each entry is a literal of the text
  from : (w : ℤ) → T (true? (in_order N vs) w) → T (true? vs w)
  unfolding true?
  from w h =
      let (i, l, t) = (any_get_or (pos 0) (same_number w) (in_order N vs)).0 h in
      let j : i < N = omega (arith, order_length N vs) in
      subst (λ (y : ℤ). T (true? vs y)) (sym (same_is w (entry (in_order N vs) i) t)) (read_given N vs i j (once i j))

  pub order_true : (w : ℤ) → T (true? (in_order N vs) w) ↔ T (true? vs w)
  order_true w = (from w, there w)
