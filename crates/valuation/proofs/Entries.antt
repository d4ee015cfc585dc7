-- A valuation's entries, the truth of literals, the plan named and the valuation of a plan.
use mathlib.Core.Path.{◌≡◌, refl, sym, ◌∙◌, ap}
use mathlib.Core.Logic.{◌↔◌, ◌≢◌, ◌⊎◌, inl, inr, ⊎_elim, by_cases}
use mathlib.Core.List.{List}
use Prim.Native.Nat.{ℕ, suc, ◌*◌, ◌<◌}
use native.Mathlib.Nat.{mul_comm, mul_left_comm}
use native.Mathlib.Decide.{ℕ_discrete, dec_lt}
use native.Mathlib.Omega.{arith}
use borrow.Author.Tests.{eq-eqb, ne_eqb}
use lib.ListN.{length, get_or}
use lib.Dec.{T}
use lib.IntN.{ℤ, pos, negsuc, nat_abs}
use Rattle.lists.specs.Loop.{any}
use Rattle.lists.proofs.Tests.{eqb_iff, ltb_iff, some_iff, first_iff}
use Rattle.lists.proofs.Loops.{for_all, when_all, one_all, for_any, any_one, any_two, any_get_or}
use Rattle.lists.proofs.Blocks.{for2_length, for2_get_or, for3_length, for3_get_or}
use Rattle.instance.specs.declared.Sizes.{Sizes}
use Rattle.instance.specs.Instance.{Instance}
use Rattle.formula.specs.Variables.{Literal, index, variable_count}
use Rattle.formula.specs.Formula.{C, D}
use Rattle.formula.proofs.Variables.{index_lt, index_onto}
use Rattle.plan.specs.Plan.{plan_row}
use Rattle.valuation.specs.Valuation.{same_number, true?, named, named_plan, entry_for, plan_valuation}
use Rattle.valuation.specs.Satisfying.{Valuation}
use Rattle.valuation.specs.Places.{Places}
use Rattle.valuation.proofs.Families.{Sat}
use Rattle.formula.specs.Variables as variables

pub same_number_iff : (x y : ℤ) → T (same_number x y) ↔ (x ≡ y)
same_number_iff (pos a) (pos b) = ((λ t. ap pos ((eqb_iff a b).0 t)), (λ e. (eqb_iff a b).1 (cc)))
same_number_iff (pos a) (negsuc b) = ((λ t. absurd t), (λ e. let z : ◌≡◌ {A = ℕ} 0 1 = cc in omega arith))
same_number_iff (negsuc a) (pos b) = ((λ t. absurd t), (λ e. let z : ◌≡◌ {A = ℕ} 0 1 = cc in omega arith))
same_number_iff (negsuc a) (negsuc b) = ((λ t. ap negsuc ((eqb_iff a b).0 t)), (λ e. (eqb_iff a b).1 (cc)))

module _ (s : Sizes) where
  open s use {n, k, m}

  abbrev X : ℕ → ℕ → ℕ → Literal
  X = variables.X s

  abbrev ¬X : ℕ → ℕ → ℕ → Literal
  ¬X = variables.¬X s

  -- ---- truth under a valuation goes by one entry
  module _ (es : List ℤ) (w : Valuation (variable_count s) es) where
    size_of : (i : ℕ) → i < variable_count s → nat_abs (get_or es i (pos 0)) ≡ suc i
    size_of i l = ⊎_elim (λ e. ap nat_abs e) (λ e. ap nat_abs e) (w.each i l)

    entry_is : (z : ℤ) (i : ℕ) → nat_abs z ≡ suc i → i < variable_count s → T (any (same_number z) es) ↔ (get_or es i (pos 0) ≡ z)
    entry_is z i q l = (
      (λ h.
          let (j, r, t) = (any_get_or (pos 0) (same_number z) es).0 h in
          let e : z ≡ get_or es j (pos 0) = (same_number_iff z (get_or es j (pos 0))).0 t in
          let o : j < variable_count s = omega (arith, r, w.size) in
          let s : suc i ≡ suc j = sym q ∙ ap nat_abs e ∙ size_of j o in
          let s' : i ≡ j = omega arith in
          rw s' (sym e)),
      (λ e. (any_get_or (pos 0) (same_number z) es).1 (i, omega (arith, w.size), (same_number_iff z (get_or es i (pos 0))).1 (sym e))),
    )

    pub true_yes : (t a v : ℕ) → t < suc m → a < k → v < n
        → T (true? es (X t a v)) ↔ (get_or es (index s t a v) (pos 0) ≡ pos (suc (index s t a v)))
    unfolding true?
    true_yes t a v p q r = entry_is (pos (suc (index s t a v))) (index s t a v) refl (index_lt s t a v p q r)

    pub true_no : (t a v : ℕ) → t < suc m → a < k → v < n
        → T (true? es (¬X t a v)) ↔ (T (true? es (X t a v)) → ⊥)
    unfolding true?
    true_no t a v p q r =
        let i = index s t a v in
        let l = index_lt s t a v p q r in (
          (λ h h'.
              let e : get_or es i (pos 0) ≡ negsuc i = (entry_is (negsuc i) i refl l).0 h in
              let e' : get_or es i (pos 0) ≡ pos (suc i) = (entry_is (pos (suc i)) i refl l).0 h' in
              let z : ◌≡◌ {A = ℕ} 0 1 = cc in
              omega arith),
          (λ f. (entry_is (negsuc i) i refl l).1 (⊎_elim (λ e. absurd (f ((entry_is (pos (suc i)) i refl l).1 e))) (λ e. e) (w.each i l))),
        )

  -- ---- the plan named
  module _ (es : List ℤ) where
    pub named_size : length (named_plan s es) ≡ suc m * k
    unfolding named_plan
    named_size = for2_length (suc m) k _

    pub named_at : (t a : ℕ) → t < suc m → a < k → plan_row s (named_plan s es) t a ≡ named s es t a
    unfolding named_plan
    named_at t a p q = for2_get_or (suc m) k (named s es) 0 t a p q

  -- ---- the valuation of a plan
  module _ (p : List ℕ) where
    pub written_at : (t a v : ℕ) → t < suc m → a < k → v < n → get_or (plan_valuation s p) (index s t a v) (pos 0) ≡ entry_for s p t a v
    unfolding plan_valuation index
    written_at t a v x y z = for3_get_or k (suc m) n (λ a t v. entry_for s p t a v) (pos 0) a t v y x z

    entry_for_cases : (t a v : ℕ) → ((v ≡ plan_row s p t a) × (entry_for s p t a v ≡ pos (suc (index s t a v))))
        ⊎ ((v ≢ plan_row s p t a) × (entry_for s p t a v ≡ negsuc (index s t a v)))
    entry_for_cases t a v =
        by_cases (ℕ_discrete (plan_row s p t a) v)
        (λ e. inl (sym e, rw (eq-eqb (plan_row s p t a) v e)))
        (λ d. inr ((λ e. d (sym e)), rw (ne_eqb (plan_row s p t a) v d)))

    pub written_size : length (plan_valuation s p) ≡ variable_count s
    unfolding plan_valuation
    written_size = for3_length k (suc m) n (λ a t v. entry_for s p t a v) ∙ simp (mul_comm, mul_left_comm)

    pub written_valuation : Valuation (variable_count s) (plan_valuation s p)
    written_valuation =
        record {
          size = written_size;
          each = λ i l.
              let (t, a, v, x, y, z, e) = index_onto s i l in
              rw e (⊎_elim (λ c. inl (written_at t a v x y z ∙ c.1)) (λ c. inr (written_at t a v x y z ∙ c.1)) (entry_for_cases t a v));
        }

    pub written_places : ((t a : ℕ) → t < suc m → a < k → plan_row s p t a < n) → Places s (true? (plan_valuation s p)) (plan_row s p)
    written_places inside' =
        record {
          inside = inside';
          here = here';
          elsewhere = λ t a v x y z. (
            (λ h e. (true_no _ written_valuation t a v x y z).0 h ((here' t a v x y z).1 e)),
            (λ d. (true_no _ written_valuation t a v x y z).1 (λ h. d ((here' t a v x y z).0 h))),
          );
        }
      where
        here' : (t a v : ℕ) → t < suc m → a < k → v < n → T (true? (plan_valuation s p) (X t a v)) ↔ (v ≡ plan_row s p t a)
        here' t a v x y z =
            let (to, from) = true_yes (plan_valuation s p) written_valuation t a v x y z in
            let w = written_at t a v x y z in
            ⊎_elim
            (λ c. ((λ h. c.0), (λ e. from (w ∙ c.1))))
            (λ c. ((λ h. let q = to h in let q' = c.1 in let o : ◌≡◌ {A = ℕ} 0 1 = cc in omega arith), (λ e. absurd (c.0 e))))
            (entry_for_cases t a v)

-- ---- C and D leave one vertex to each agent at each time: the one named
module _ (I : Instance) (es : List ℤ) (w : Valuation (variable_count I.sizes) es) where
  open I use {sizes}
  open sizes use {n, k, m}

  pub named_places : Sat (true? es) (C I.sizes) → Sat (true? es) (D I.sizes) → Places sizes (true? es) (named sizes es)
  unfolding C D named
  named_places c d =
      record {
        inside = λ t a p q. (found t a p q).0;
        here = λ t a v p q r. ((λ h. only t a v p q r h), (λ e. rw e (found t a p q).1));
        elsewhere = λ t a v p q r. (
          (λ h e. (true_no sizes es w t a v p q r).0 h (rw e (found t a p q).1)),
          (λ f. (true_no sizes es w t a v p q r).1 (λ h. f (only t a v p q r h))),
        );
      }
    where
      found : (t a : ℕ) → t < suc m → a < k → (named sizes es t a < n) × T (true? es (variables.X sizes t a (named sizes es t a)))
      found t a p q = first_iff n (λ v. true? es (variables.X sizes t a v)) ((some_iff n _).1 ((simp (for_all, one_all, for_any, any_one) at c) t p a q))

      clash : (t a v u : ℕ) → t < suc m → a < k → v < n → u < n → v < u → T (true? es (variables.X sizes t a v)) → T (true? es (variables.X sizes t a u)) → ⊥
      clash t a v u p q r o' o h h' =
          let f = (simp (for_all, when_all, one_all, ltb_iff, any_two) at d) t p a q v r u o' o in
          (true_no sizes es w t a u p q o').0 (f (λ g. (true_no sizes es w t a v p q r).0 g h)) h'

      only : (t a v : ℕ) → t < suc m → a < k → v < n → T (true? es (variables.X sizes t a v)) → v ≡ named sizes es t a
      only t a v p q r h =
          let (i, y) = found t a p q in
          by_cases (dec_lt v (named sizes es t a))
          (λ o. absurd (clash t a v (named sizes es t a) p q r i o h y))
          (λ g.
          by_cases (dec_lt (named sizes es t a) v)
          (λ o. absurd (clash t a (named sizes es t a) v p q i r o y h))
          (λ g'. omega arith))
