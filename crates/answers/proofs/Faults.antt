-- How a loop over the items of a question comes to the first that fails, and what that says of all of them.
use mathlib.Core.Path.{◌≡◌, refl, sym, ◌∙◌, subst}
use mathlib.Core.Logic.{by_cases}
use mathlib.Core.Bool.{Bool, true, false, not, cond}
use Prim.Native.Nat.{ℕ, zero, suc, ◌<◌}
use native.Mathlib.Nat.{not-suc-le-zero}
use native.Mathlib.Decide.{dec_lt}
use native.Mathlib.Omega.{arith}
use borrow.Author.Tests.{eq-eqb, ne_eqb}
use lib.Dec.{T, eqb}
use Rattle.std.specs.Prelude.{Option, None, Some, is_none}
use Rattle.lists.specs.Loop.{some, every, first}
use Rattle.lists.proofs.Tests.{below_zero, below_suc, not_iff, some_iff, every_iff}
use Rattle.answers.specs.Fault.{FirstFault, FirstFailing}

-- a test whose value a call has returned
pub holds : {test x : Bool} → x ≡ test → x ≡ true → T test
holds {test} e h = subst T (sym h ∙ e) tt

pub fails : {test x : Bool} → x ≡ test → x ≡ false → T test → ⊥
fails {test} e h t = subst T (sym e ∙ h) t

pub T_true : (a : Bool) → T a → a ≡ true
T_true true t = refl
T_true false t = absurd t

pub T_false : (a : Bool) → (T a → ⊥) → a ≡ false
T_false true f = absurd (f tt)
T_false false f = refl

-- the loop stops at an item that fails, or has passed them all
pub fault_at : {n r : ℕ} {test : ℕ → Bool} → r < n → ((i : ℕ) → i < r → T (test i)) → (T (test r) → ⊥) → FirstFault n test r
fault_at l b f = record { within = omega arith; before = b; here = λ h. f }

pub fault_none : {n r : ℕ} {test : ℕ → Bool} → r ≡ n → ((i : ℕ) → i < r → T (test i)) → FirstFault n test n
fault_none e b = record { within = omega arith; before = λ i l. b i (omega arith); here = λ h. absurd (let f : ⊥ = omega arith in f) }

-- tests that agree have the same first item that fails
pub fault_ext : {n r : ℕ} {test other : ℕ → Bool} → ((i : ℕ) → i < n → test i ≡ other i) → FirstFault n test r → FirstFault n other r
fault_ext e f =
    record {
      within = f.within;
      before = λ i l. subst T (e i (let w = f.within in omega arith)) (f.before i l);
      here = λ l t. f.here l (subst T (sym (e _ l)) t);
    }

-- all items pass exactly where the first that fails is none of them
pub fault_every : (n : ℕ) (test : ℕ → Bool) (r : ℕ) → FirstFault n test r → eqb r n ≡ every n test
fault_every n test r f =
    by_cases (dec_lt r n)
    (λ l. ne_eqb r n (omega arith) ∙ sym (T_false (every n test) (λ t. f.here l ((every_iff n test).0 t r l))))
    (λ l.
    let w = f.within in
    eq-eqb r n (omega arith) ∙ sym (T_true (every n test) ((every_iff n test).1 (λ i h. f.before i (omega arith)))))

-- of any items there is a first that fails, or none
pub fault_of : (n : ℕ) (test : ℕ → Bool) → (r : ℕ) × FirstFault n test r
fault_of zero test = (0, fault_none (omega arith) (below_zero _))
fault_of (suc n) test = go (fault_of n test)
  where
    last : (b : Bool) → test n ≡ b → ((i : ℕ) → i < n → T (test i)) → (r : ℕ) × FirstFault (suc n) test r
    last true e h = (suc n, fault_none (omega arith) (below_suc _ n h (subst T (sym e) tt)))
    last false e h = (n, fault_at (omega arith) h (λ t. subst T e t))

    go : ((r : ℕ) × FirstFault n test r) → (r : ℕ) × FirstFault (suc n) test r
    go (r, f) =
        by_cases (dec_lt r n)
        (λ l. (r, fault_at (omega arith) f.before (f.here l)))
        (λ l. last (test n) refl (λ i h. f.before i (omega arith)))

-- the first item at which a test holds is the first that fails its opposite
pub fault_first : (n : ℕ) (p : ℕ → Bool) (r : ℕ) → FirstFault n (λ i. not (p i)) r → r < n → T (p r) × (first n p ≡ r)
fault_first zero p r f l = absurd (not-suc-le-zero l)
fault_first (suc n) p r f l = (found, go (fault_first n p r) (some n p) refl)
  where
    holds_by : (b : Bool) → (T (not b) → ⊥) → T b
    holds_by true h = tt
    holds_by false h = h tt

    found : T (p r)
    found = holds_by (p r) (f.here l)

    go : (FirstFault n (λ i. not (p i)) r → r < n → T (p r) × (first n p ≡ r)) → (b : Bool) → some n p ≡ b → cond b (first n p) n ≡ r
    go rec true e =
        let (i, h, t) = (some_iff n p).0 (subst T (sym e) tt) in
        let o : r < n = by_cases (dec_lt r n) (λ o. o) (λ o. absurd ((not_iff (p i)).0 (f.before i (omega arith)) t)) in
        (rec (fault_at o f.before (f.here l)) o).1
    go rec false e = by_cases (dec_lt r n) (λ o. absurd (subst T e ((some_iff n p).1 (r, o, found)))) (λ o. omega arith)

-- ---- the first that fails, as an option
-- tests that agree on the first that fails
pub failing_map : {n : ℕ} {test other : ℕ → Bool} (r : Option ℕ) → ((i : ℕ) → FirstFault n test i → FirstFault n other i) → FirstFailing n test r → FirstFailing n other r
failing_map None f h = f _ h
failing_map (Some i) f h = (h.0, f i h.1)

pub failing_ext : {n : ℕ} {test other : ℕ → Bool} (r : Option ℕ) → ((i : ℕ) → i < n → test i ≡ other i) → FirstFailing n test r → FirstFailing n other r
failing_ext r e = failing_map r (λ i. fault_ext e)

-- there is none exactly where all items pass
pub failing_every : (n : ℕ) (test : ℕ → Bool) (r : Option ℕ) → FirstFailing n test r → is_none r ≡ every n test
failing_every n test None f = sym (eq-eqb n n refl) ∙ fault_every n test n f
failing_every n test (Some i) (l, f) = sym (ne_eqb i n (omega arith)) ∙ fault_every n test i f
