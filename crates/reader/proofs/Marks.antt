-- The marks say how often each variable is given, and how.
use mathlib.Core.Path.{◌≡◌, refl, sym, ◌∙◌, ap, subst}
use mathlib.Core.Logic.{◌⊎◌, inl, inr, ⊎_elim}
use mathlib.Core.List.{List, [], ◌∷◌}
use mathlib.Core.Bool.{Bool, true, false, cond}
use Prim.Native.Nat.{ℕ, zero, suc, ◌+◌, ◌≤◌, ◌<◌}
use native.Mathlib.Omega.{arith}
use borrow.Author.Tests.{eq-eqb, ne_eqb, eqb-true, eqb-false}
use lib.Dec.{T, eqb, eqb→eq}
use native.Mathlib.Nat.{zero-add}
use lib.IntN.{ℤ, pos, negsuc, neg_ℤ, nat_abs}
use lib.ListN.{length, get_or, set, replicate, length-replicate, get_or-replicate}
use lib.Seq.{get_or-set_same, get_or-set_other}
use Rattle.lists.proofs.Loops.{for_ext}
use Rattle.std.specs.Prelude.{Option, None, Some}
use Rattle.answers.specs.Fault.{FirstFailing}
use Rattle.valuation.specs.Valuation.{same_number, true?}
use Rattle.answers.proofs.Faults.{fault_ext}
use Rattle.solver_text.specs.Form.{times, in_order}
use Rattle.solver_text.proofs.Walk.{split}
use Rattle.solver_lines.specs.Lines.{again, mark, marked}
use Rattle.solver_lines.proofs.LineTokens.{mark_length}
use Rattle.solver_lines.specs.declared.Mark.{Mark}
use Rattle.solver_lines.specs.declared.Mark.TheVariants.{Absent, Positive, Negative, Repeated}
use Rattle.reader.specs.Marks.{once?, entry_of, Says}

-- as itself, or as its negative
abbrev sign : ℤ → Mark
sign (pos x) = Positive
sign (negsuc x) = Negative

-- the mark of variable i + 1 that was m, after a number, and after more of them
abbrev see_one : ℕ → Mark → ℤ → Mark
see_one i m v = cond (eqb (nat_abs v) (suc i)) (again m (sign v)) m

unfoldable see : ℕ → Mark → List ℤ → Mark
see i m [] = m
see i m (v ∷ vs) = see i (see_one i m v) vs

-- the marks, one by one
set_one : (ms : List Mark) (i j : ℕ) (x : Mark) → i < length ms
    → get_or (set ms j (again (get_or ms j Absent) x)) i Absent ≡ cond (eqb (suc j) (suc i)) (again (get_or ms i Absent) x) (get_or ms i Absent)
set_one ms i j x h =
    split (eqb (suc j) (suc i))
    (λ e. let q : j ≡ i = omega (arith, eqb-true (suc j) (suc i) e) in rw (e, q) (get_or-set_same ms i (again (get_or ms i Absent) x) Absent h))
    (λ e. let q : suc j ≡ suc i → ⊥ = eqb-false (suc j) (suc i) e in rw e (get_or-set_other ms j i (again (get_or ms j Absent) x) Absent (λ z. q (ap suc (sym z)))))

mark_one : (ms : List Mark) (i : ℕ) (v : ℤ) → i < length ms → get_or (mark ms v) i Absent ≡ see_one i (get_or ms i Absent) v
unfolding mark
mark_one ms i (pos zero) h = rw (ne_eqb 0 (suc i) (λ z. omega arith))
mark_one ms i (pos (suc j)) h = set_one ms i j Positive h
mark_one ms i (negsuc j) h = set_one ms i j Negative h

marked_one : (ms : List Mark) (i : ℕ) (vs : List ℤ) → i < length ms → get_or (marked ms vs) i Absent ≡ see i (get_or ms i Absent) vs
unfolding marked see
marked_one ms i [] h = refl
marked_one ms i (v ∷ vs) h =
    marked_one (mark ms v) i vs (omega (arith, mark_length ms v)) ∙ ap (λ (m : Mark). see i m vs) (mark_one ms i v h)

-- three marks: given more than once, once, and not yet
see_more : (i : ℕ) (vs : List ℤ) → see i Repeated vs ≡ Repeated
unfolding see
see_more i [] = refl
see_more i (v ∷ vs) = split (eqb (nat_abs v) (suc i)) (λ e. rw e (see_more i vs)) (λ e. rw e (see_more i vs))

again_once : (m s : Mark) → once? m ≡ true → again m s ≡ Repeated
again_once Absent s e = absurd (subst T (sym e) tt)
again_once Positive s e = refl
again_once Negative s e = refl
again_once Repeated s e = refl

see_once : (i : ℕ) (s : Mark) (vs : List ℤ) → once? s ≡ true → see i s vs ≡ cond (eqb (times (suc i) vs) 0) s Repeated
unfolding see times
see_once i s [] d = refl
see_once i s (v ∷ vs) d =
    split (eqb (nat_abs v) (suc i))
    (λ e. rw (e, again_once s (sign v) d, ne_eqb (1 + times (suc i) vs) 0 (λ z. omega arith)) (see_more i vs))
    (λ e. let q : 0 + times (suc i) vs ≡ times (suc i) vs = omega arith in rw (e, q) (see_once i s vs d))

-- a variable that is not given is not among the numbers
apart : (i : ℕ) (v : ℤ) → eqb (nat_abs v) (suc i) ≡ false → same_number (pos (suc i)) v ≡ false
apart i (pos a) e = ne_eqb (suc i) a (λ z. eqb-false a (suc i) e (sym z))
apart i (negsuc a) e = refl

not_given : (i : ℕ) (vs : List ℤ) → times (suc i) vs ≡ 0 → true? vs (pos (suc i)) ≡ false
unfolding times true?
not_given i [] h = refl
not_given i (v ∷ vs) h =
    split (eqb (nat_abs v) (suc i))
    (λ e. absurd (let q : 1 + times (suc i) vs ≡ 0 = sym (ap (λ (b : Bool). cond b 1 0 + times (suc i) vs) e) ∙ h in let f : ⊥ = omega arith in f))
    (λ e. let q : 0 + times (suc i) vs ≡ 0 = sym (ap (λ (b : Bool). cond b 1 0 + times (suc i) vs) e) ∙ h in rw (apart i v e) (not_given i vs (omega arith)))

abbrev told : ℕ → List ℤ → Mark
told i vs = cond (eqb (times (suc i) vs) 0) Absent (cond (eqb (times (suc i) vs) 1) (cond (true? vs (pos (suc i))) Positive Negative) Repeated)

-- the number of the variable itself, or of its negative
which : (i : ℕ) (v : ℤ) → eqb (nat_abs v) (suc i) ≡ true → (v ≡ pos (suc i)) ⊎ (v ≡ negsuc i)
which i (pos a) e = inl (ap pos (eqb-true a (suc i) e))
which i (negsuc a) e = inr (ap negsuc (let q : a ≡ i = omega (arith, eqb-true (suc a) (suc i) e) in q))

turn_one : (t : ℕ) (x : Mark) → cond (eqb t 0) x Repeated ≡ cond (eqb (1 + t) 0) Absent (cond (eqb (1 + t) 1) x Repeated)
turn_one t x =
    split (eqb t 0)
    (λ e. let z : t ≡ 0 = eqb-true t 0 e in rw z)
    (λ e. let d : t ≡ 0 → ⊥ = eqb-false t 0 e in rw (e, ne_eqb (1 + t) 0 (λ z. omega arith), ne_eqb (1 + t) 1 (λ z. d (omega arith))))

told_itself : (i : ℕ) (vs : List ℤ) → see i (see_one i Absent (pos (suc i))) vs ≡ told i (pos (suc i) ∷ vs)
unfolding times true?
told_itself i vs = rw (eq-eqb (suc i) (suc i) refl) (see_once i Positive vs refl ∙ turn_one (times (suc i) vs) Positive)

told_negative : (i : ℕ) (vs : List ℤ) → see i (see_one i Absent (negsuc i)) vs ≡ told i (negsuc i ∷ vs)
unfolding times true?
told_negative i vs =
    let x : Mark = cond (true? vs (pos (suc i))) Positive Negative in
    let q : cond (eqb (times (suc i) vs) 0) Negative Repeated ≡ cond (eqb (times (suc i) vs) 0) x Repeated =
    split (eqb (times (suc i) vs) 0) (λ e. rw (e, not_given i vs (eqb-true (times (suc i) vs) 0 e))) (λ e. rw e) in
    rw (eq-eqb (suc i) (suc i) refl) (see_once i Negative vs refl ∙ q ∙ turn_one (times (suc i) vs) x)

told_other : (i : ℕ) (v : ℤ) (vs : List ℤ) → eqb (nat_abs v) (suc i) ≡ false → see i Absent vs ≡ told i vs → see i (see_one i Absent v) vs ≡ told i (v ∷ vs)
unfolding times true?
told_other i v vs e h = rw (e, zero-add, apart i v e) h

told_is : (i : ℕ) (vs : List ℤ) → see i Absent vs ≡ told i vs
unfolding see times
told_is i [] = refl
told_is i (v ∷ vs) =
    split (eqb (nat_abs v) (suc i))
    (λ e.
    ⊎_elim
    (λ q. subst (λ (w : ℤ). see i (see_one i Absent w) vs ≡ told i (w ∷ vs)) (sym q) (told_itself i vs))
    (λ q. subst (λ (w : ℤ). see i (see_one i Absent w) vs ≡ told i (w ∷ vs)) (sym q) (told_negative i vs))
    (which i v e))
    (λ e. told_other i v vs e (told_is i vs))

-- ---- what the marks say after all numbers, from marks of zeros
module _ (M : ℕ) (vs : List ℤ) where
  marks_say : (i : ℕ) → i < M → get_or (marked (replicate M Absent) vs) i Absent ≡ told i vs
  marks_say i h =
      marked_one (replicate M Absent) i vs (omega (arith, length-replicate {A = Mark} M Absent))
      ∙ ap (λ (m : Mark). see i m vs) (get_or-replicate M i Absent Absent h)
      ∙ told_is i vs

  once_when : (t : ℕ) (b : Bool) → once? (cond (eqb t 0) Absent (cond (eqb t 1) (cond b Positive Negative) Repeated)) ≡ eqb t 1
  once_when t b =
      split (eqb t 0)
      (λ e. let z : t ≡ 0 = eqb-true t 0 e in rw z)
      (λ e. split (eqb t 1) (λ f. rw (e, f) (sides b)) (λ f. rw (e, f)))
    where
      sides : (b : Bool) → once? (cond b Positive Negative) ≡ true
      sides true = refl
      sides false = refl

  entry_when : (t i : ℕ) (b : Bool) → t ≡ 1
      → entry_of (cond (eqb t 0) Absent (cond (eqb t 1) (cond b Positive Negative) Repeated)) i ≡ cond b (pos (suc i)) (neg_ℤ (pos (suc i)))
  entry_when t i true e = rw e
  entry_when t i false e = rw e

  module _ (n : ℕ) (small : n ≤ M) (marks : List Mark) (em : marks ≡ marked (replicate M Absent) vs) where
    mark_is : (i : ℕ) → i < n → get_or marks i Absent ≡ told i vs
    mark_is i h = ap (λ (ms : List Mark). get_or ms i Absent) em ∙ marks_say i (omega arith)

    once_is : (i : ℕ) → i < n → once? (get_or marks i Absent) ≡ eqb (times (suc i) vs) 1
    once_is i h = ap once? (mark_is i h) ∙ once_when (times (suc i) vs) (true? vs (pos (suc i)))

    -- the first variable not given once
    pub fault_given : (r : Option ℕ) → FirstFailing n (λ i. once? (get_or marks i Absent)) r → FirstFailing n (λ i. eqb (times (suc i) vs) 1) r
    fault_given (Some r) f = (f.0, fault_ext once_is f.1)
    fault_given None f = fault_ext once_is f

    -- where each is given once, the marks say the entries
    pub written_is : ((i : ℕ) → i < n → T (eqb (times (suc i) vs) 1)) → Says n vs marks
    unfolding in_order
    written_is h =
        for_ext n _ _
        (λ i l.
        ap (λ (z : ℤ). z ∷ [])
        (ap (λ (m : Mark). entry_of m i) (mark_is i l)
        ∙ entry_when (times (suc i) vs) i (true? vs (pos (suc i))) (eqb→eq _ _ (h i l))))
