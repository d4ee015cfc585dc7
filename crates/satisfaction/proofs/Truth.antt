-- The clauses of each family under a valuation: where the first without a true literal stands in a row.
use mathlib.Core.Path.{◌≡◌, refl, sym, ◌∙◌, ap, subst}
use mathlib.Core.Logic.{◌↔◌, ◌≢◌, by_cases}
use mathlib.Core.List.{List, [], ◌∷◌}
use mathlib.Core.Bool.{Bool, not, ◌||◌}
use Prim.Native.Nat.{ℕ, suc, ◌+◌, ◌*◌, ◌-◌, ◌/◌, ◌≤◌, ◌<◌}
use native.Mathlib.Nat.{le_refl}
use native.Mathlib.Numerals.{add-one}
use native.Mathlib.Decide.{dec_lt, ℕ_discrete}
use native.Mathlib.Omega.{arith}
use borrow.Author.Tests.{ne_eqb}
use lib.ListN.{length}
use lib.Dec.{T, eqb}
use lib.IntN.{ℤ}
use Rattle.std.specs.Prelude.{Option, None, Some}
use Rattle.lists.specs.Loop.{for, when, all, every}
use Rattle.lists.proofs.Tests.{or_imp, not_iff, eqb_iff}
use Rattle.lists.proofs.Loops.{for_all, one_all, when_all, for_any, when_any, any_one, any_two, for_length}
use Rattle.lists.proofs.Blocks.{for1_length}
use Rattle.lists.proofs.Slices.{for_room}
use Rattle.lists.specs.Pairs.{pairs_below}
use Rattle.lists.proofs.Sums.{others_length}
use Rattle.answers.specs.Fault.{FirstFault, FirstFailing}
use Rattle.answers.proofs.Faults.{failing_map}
use Rattle.instance.specs.declared.Sizes.{Sizes}
use Rattle.formula.specs.Variables.{X, ¬X, index, variable_count}
use Rattle.formula.proofs.Places.{two_length}
use Rattle.formula.specs.Formula.{Clause, somewhere, block_c, block_d, block_e, block_f, no_following}
use Rattle.plan.specs.Plan.{plan_row, condition1}
use Rattle.valuation.specs.Valuation.{true?, satisfied?}
use Rattle.valuation.specs.Satisfying.{Valuation}
use Rattle.valuation.specs.Places.{Places}
use Rattle.formula.proofs.Variables.{run_fits, vertices_run}
use Rattle.valuation.proofs.Entries.{true_no}
use Rattle.satisfaction.specs.Rows.{Fault, Failing, Stop, says, denies, Seen, Read, Lowest}
use Rattle.satisfaction.proofs.Entries.{right_says, skip_le, read_true, right_at}
use Rattle.satisfaction.proofs.Steps.{keeps_or, Enters}
use Rattle.satisfaction.proofs.Laws.{others_before, blocks_failing, failing_none, for_stop, for_failing, singles, singles_failing, pairs_pass, pairs_two}

-- agent a does not go where agent b stood
abbrev follows : Sizes → ℕ → ℕ → ℕ → List Clause
follows s t a b = for s.n λ v. (¬X s t b v ∷ ¬X s (suc t) a v ∷ []) ∷ []

-- the lengths of the blocks
module _ (s : Sizes) where
  open s use {n, k, m}

  pub length_D : (t a : ℕ) → length (block_d s t a) ≡ n * (n - 1) / 2
  length_D t a = two_length n (¬X s t a)

  pub length_E : (t v : ℕ) → length (block_e s t v) ≡ k * (k - 1) / 2
  length_E t v = two_length k (λ a. ¬X s t a v)

  pub length_F : (near : ℕ → ℕ → Bool) (t a : ℕ) → length (block_f s near t a) ≡ n
  length_F near t a = for1_length n _

  pub length_G : (t a : ℕ) → a < k → length (no_following s t a) ≡ (k - 1) * n
  length_G t a l = others_length k n a l (follows s t a) (λ b h. for1_length n _)

module _ (s : Sizes) (es : List ℤ) (w : Valuation (variable_count s) es) where
  open s use {n, k, m}

  abbrev q : ℕ → ℕ → ℕ → Bool
  q t a v = true? es (X s t a v)

  abbrev sat : Clause → Bool
  sat = satisfied? es

  -- a clause of two negations
  pub not_both : (t a v t' a' v' : ℕ) → t < suc m → a < k → v < n → t' < suc m → a' < k → v' < n
      → T (sat (¬X s t a v ∷ ¬X s t' a' v' ∷ [])) ↔ (T (q t a v) → T (q t' a' v') → ⊥)
  not_both t a v t' a' v' x y z x' y' z' =
      let one = true_no s es w t a v x y z in
      let two = true_no s es w t' a' v' x' y' z' in (
        (λ h f g. two.0 ((any_two (true? es) (¬X s t a v) (¬X s t' a' v')).0 h (λ o. one.0 o f)) g),
        (λ h. (any_two (true? es) (¬X s t a v) (¬X s t' a' v')).1 (λ o. two.1 (λ g. o (one.1 (λ f. h f g))))),
      )

  -- ---- C and D, by what the pass has seen
  module _ (p : List ℕ) (rd : Read s es p) (t : ℕ) (x : t < suc m) where
    abbrev seen : (a : ℕ) → a < k → Seen n (q t a) (plan_row s p t a)
    seen a y = rd.seen t a x y

    pub in_C : (r : Option ℕ) → FirstFailing k (λ a. not (eqb (plan_row s p t a) n)) r → Failing es (for k (block_c s t)) r
    in_C r g =
        singles_failing es k (somewhere s t) r (failing_map r (λ i f.
        record {
          within = f.within;
          before = λ a l.
              let y : a < k = omega (arith, f.within) in
              let d : plan_row s p t a ≢ n = λ o. simp (not_iff, eqb_iff) at (f.before a l) o in
              let (v, l', o) = some_vertex a y d in
              (for_any (true? es) n _).1 (v, l', (any_one (true? es) _).1 o);
          here = λ l h.
              let (v, l', o) = (for_any (true? es) n _).0 h in
              f.here l (simp (not_iff, eqb_iff) (λ e. (seen i l).none e v l' ((any_one (true? es) _).0 o)));
        }) g)
      where
        some_vertex : (a : ℕ) → (y : a < k) → plan_row s p t a ≢ n → (v : ℕ) × (v < n) × T (q t a v)
        some_vertex a y d =
            by_cases (dec_lt (plan_row s p t a) n)
            (λ l. (plan_row s p t a, l, ((seen a y).one l (plan_row s p t a) l).1 refl))
            (λ g.
            let m = (seen a y).most in
            let (v, u, o, l, h, i) = (seen a y).several (omega arith) in
            (v, omega arith, h))

    abbrev iff_d : (a : ℕ) → a < k → (v u : ℕ) → v < n → u < n → T (sat (¬X s t a v ∷ ¬X s t a u ∷ [])) ↔ (T (q t a v) → T (q t a u) → ⊥)
    iff_d a y v u l r = not_both t a v t a u x y l x y r

    pass_D : (a : ℕ) → a < k → plan_row s p t a ≢ suc n → T (all sat (block_d s t a))
    pass_D a y d =
        pairs_pass es n (λ v u. ¬X s t a v ∷ ¬X s t a u ∷ []) (q t a) (iff_d a y) (λ v u o l h i.
        let c = seen a y in
        by_cases (dec_lt (plan_row s p t a) n)
        (λ r. let e = (c.one r v (omega arith)).0 h in let e' = (c.one r u l).0 i in omega arith)
        (λ g. let m = c.most in c.none (omega arith) u l i))

    passed_D : (a : ℕ) → a ≤ k → ((b : ℕ) → b < a → plan_row s p t b ≢ suc n) → T (all sat (for a (block_d s t)))
    passed_D a l h = (for_all sat a (block_d s t)).1 (λ b o. pass_D b (omega arith) (h b o))

    -- a is the first agent with several, or k
    module _ (a : ℕ) (f : FirstFault k (λ b. not (eqb (plan_row s p t b) (n + 1))) a) where
      below_D : (b : ℕ) → b < a → plan_row s p t b ≢ suc n
      below_D b l o = simp (not_iff, eqb_iff) at (f.before b l) (o ∙ sym (add-one n))

      pub none_D : a ≡ k → Failing es (for k (block_d s t)) None
      none_D o = failing_none es (for k (block_d s t)) (passed_D k (le_refl k) (λ b l. below_D b (omega arith)))

      -- the first two that are not denied: v and u are entries of the row, which begins at b, and no other before u says its variable
      module _ (agent_D : a < k) (b v u : ℕ) (begins : b ≡ index s t a 0) (g : Stop (denies es) b (b + n) v) where
        place_q : (y : ℕ) → b + y ≡ index s t a y
        place_q y = omega (arith, vertices_run s t a y)

        says_q : (y : ℕ) → y < n → T (q t a y) → T (says es (b + y))
        says_q y lt z = rw (place_q y) (subst T (sym (read_true s es w t a y x agent_D lt)) z)

        two_D : (v' u' : ℕ) × (v' < u') × (u' < n) × T (q t a v') × T (q t a u')
        two_D =
            (seen a agent_D).several (by_cases (ℕ_discrete (plan_row s p t a) (suc n)) (λ o. o) (λ o. absurd (f.here agent_D (simp (not_iff, eqb_iff) (λ i. o (i ∙ add-one n))))))

        pub first_D : v < b + n
        first_D = let (v', u', r, r', i, j) = two_D in omega (arith, skip_le es b (b + n) v (b + v') g (omega arith) (says_q v' (omega arith) i))

        pub second_D : Stop (denies es) (v + 1) (b + n) u → u < b + n
        second_D h =
            let (v', u', r, r', i, j) = two_D in
            let hv = skip_le es b (b + n) v (b + v') g (omega arith) (says_q v' (omega arith) i) in
            omega (arith, skip_le es (v + 1) (b + n) u (b + u') h (omega arith) (says_q u' r' j))

        pub here_D : Stop (denies es) (v + 1) (b + n) u → Failing es (for k (block_d s t)) (Some (a * (n * (n - 1) / 2) + (pairs_below n (v - b) + (u - v - 1))))
        here_D h =
            let l = agent_D in
            let lv = first_D in
            let lu = second_D h in
            let gl = g.least in
            let hl = h.least in
            let ev : b + (v - b) ≡ v = omega arith in
            let eu : b + (u - b) ≡ u = omega arith in
            let end = run_fits s t a x l in
            let e' : u - b - (v - b) - 1 ≡ u - v - 1 = omega arith in
            let qv : T (q t a (v - b)) =
            subst T (read_true s es w t a (v - b) x l (omega arith)) (rw (← place_q (v - b), ev) (right_says es v (right_at s es w v (omega arith)) (g.here (omega arith)))) in
            let qu : T (q t a (u - b)) =
            subst T (read_true s es w t a (u - b) x l (omega arith)) (rw (← place_q (u - b), eu) (right_says es u (right_at s es w u (omega arith)) (h.here (omega arith)))) in
            let two = pairs_two es n (λ v u. ¬X s t a v ∷ ¬X s t a u ∷ []) (q t a) (iff_d a l) (v - b) (u - b) (omega arith) (omega arith) qv qu
            (λ y lt z.
            let c = says_q y (omega arith) z in
            let k₁ = skip_le es b (b + n) v (b + y) g (omega arith) c in
            by_cases (dec_lt v (b + y)) (λ lt'. let k₂ = skip_le es (v + 1) (b + n) u (b + y) h (omega arith) c in absurd (let z : ⊥ = omega arith in z)) (λ lt'. omega arith)) in
            let at : ℕ = pairs_below n (v - b) in
            blocks_failing es (block_d s t) (n * (n - 1) / 2) k a (at + (u - v - 1)) (length_D s t) l (passed_D a (omega arith) below_D)
            (subst (λ (y : ℕ). Fault es (block_d s t a) (at + y)) e' two.0)
            (omega (arith, two.1, length_D s t a, e'))

-- ---- E, F and G, by the places
module _ (s : Sizes) (es : List ℤ) (w : Valuation (variable_count s) es) (P : ℕ → ℕ → ℕ) (c : Places s (true? es) P) where
  open s use {n, k, m}

  abbrev q_p : ℕ → ℕ → ℕ → Bool
  q_p t a v = true? es (X s t a v)

  abbrev sat_p : Clause → Bool
  sat_p = satisfied? es

  module _ (t : ℕ) (x : t < suc m) where
    abbrev iff_e : (v : ℕ) → v < n → (a b : ℕ) → a < k → b < k → T (sat_p (¬X s t a v ∷ ¬X s t b v ∷ [])) ↔ (T (q_p t a v) → T (q_p t b v) → ⊥)
    iff_e v z a b l r = not_both s es w t a v t b v x l z x r z

    -- no two are at v
    pass_E : (v : ℕ) → v < n → ((a b : ℕ) → a < b → b < k → P t a ≡ v → P t b ≡ v → ⊥) → T (all sat_p (block_e s t v))
    pass_E v z h =
        pairs_pass es k (λ a b. ¬X s t a v ∷ ¬X s t b v ∷ []) (λ a. q_p t a v) (iff_e v z) (λ a b o l f g.
        h a b o l (sym ((c.here t a v x (omega arith) z).0 f)) (sym ((c.here t b v x l z).0 g)))

    module _ (v : ℕ) (f : Lowest k (P t) n v) where
      below_E : (y : ℕ) → y < v → T (all sat_p (block_e s t y))
      below_E y l = pass_E y (omega (arith, f.within)) (λ a b o l' e e'. let h = f.before a b o l' (e ∙ sym e') in omega arith)

      pub none_E : v ≡ n → Failing es (for n (block_e s t)) None
      none_E e = failing_none es (for n (block_e s t)) ((for_all sat_p n (block_e s t)).1 (λ y l. below_E y (omega arith)))

      -- a is the first agent on v, and b counts the agents from there to the next
      pub here_E : v < n → (a b : ℕ) → FirstFault k (λ i. not (eqb (P t i) v)) a → FirstFault (k - a - 1) (λ i. not (eqb (P t (a + 1 + i)) v)) b
          → Failing es (for n (block_e s t)) (Some (v * (k * (k - 1) / 2) + (pairs_below k a + b)))
      here_E l a b g h =
          let (a', b', o, r, i, j) = f.here l in
          let before_a : (y : ℕ) → y < a → P t y ≢ v = λ y lt q. simp (not_iff, eqb_iff) at (g.before y lt) q in
          let la : a ≤ a' = by_cases (dec_lt a' a) (λ lt. absurd (before_a a' lt i)) (λ lt. omega arith) in
          let before_b : (y : ℕ) → a < y → y < a + 1 + b → P t y ≢ v =
          λ y lt lt' q.
          let q' : P t (a + 1 + (y - a - 1)) ≡ v = (let q'' : a + 1 + (y - a - 1) ≡ y = omega arith in rw q'' q) in
          simp (not_iff, eqb_iff) at (h.before (y - a - 1) (omega arith)) q' in
          let lb : a + 1 + b ≤ b' = by_cases (dec_lt b' (a + 1 + b)) (λ lt. absurd (before_b b' (omega arith) lt j)) (λ lt. omega arith) in
          let stands : (y : ℕ) → (T (not (eqb (P t y) v)) → ⊥) → v ≡ P t y =
          λ y q. by_cases (ℕ_discrete (P t y) v) (λ p. sym p) (λ p. absurd (q (simp (not_iff, eqb_iff) p))) in
          let two = pairs_two es k (λ a b. ¬X s t a v ∷ ¬X s t b v ∷ []) (λ a. q_p t a v) (iff_e v l) a (a + 1 + b) (omega arith) (omega arith)
          ((c.here t a v x (omega arith) l).1 (stands a (g.here (omega arith))))
          ((c.here t (a + 1 + b) v x (omega arith) l).1 (stands (a + 1 + b) (h.here (omega arith))))
          (λ y lt q.
          let q' = sym ((c.here t y v x (omega arith) l).0 q) in
          by_cases (dec_lt y a) (λ p. absurd (before_a y p q')) (λ p. by_cases (dec_lt a y) (λ p'. absurd (before_b y p' lt q')) (λ p'. omega arith))) in
          let e' : a + 1 + b - a - 1 ≡ b = omega arith in
          blocks_failing es (block_e s t) (k * (k - 1) / 2) n v (pairs_below k a + b) (length_E s t) l
          ((for_all sat_p v (block_e s t)).1 below_E)
          (subst (λ (y : ℕ). Fault es (block_e s t v) (pairs_below k a + y)) e' two.0)
          (omega (arith, two.1, length_E s t v, e'))

  module _ (near : ℕ → ℕ → Bool) (t : ℕ) (x : t < m) where
    abbrev clause_f : ℕ → ℕ → Clause
    clause_f a v = ¬X s t a v ∷ X s (suc t) a v ∷ (for n λ u. when (near v u) (X s (suc t) a u ∷ []))

    iff_f : (a v : ℕ) → a < k → v < n → T (sat_p (clause_f a v)) ↔ (v ≡ P t a → v ≢ P (suc t) a → T (near v (P (suc t) a)))
    iff_f a v y l =
        let x' : suc t < suc m = omega arith in
        let i = c.inside (suc t) a x' y in
        simp (any_one, or_imp, for_any, when_any) (
          (λ h e d.
              let (u, r, o) = h (λ f. (c.elsewhere t a v (omega arith) y l).0 f e) (λ f. d ((c.here (suc t) a v x' y l).0 f)) in
              subst (λ (b : ℕ). T (near v b)) ((c.here (suc t) a u x' y r).0 o.1) o.0),
          (λ h f g. (
            P (suc t) a,
            i,
            (
              h (by_cases (ℕ_discrete v (P t a)) (λ e. e) (λ d. absurd (f ((c.elsewhere t a v (omega arith) y l).1 d)))) (λ e. g ((c.here (suc t) a v x' y l).1 e)),
              (c.here (suc t) a (P (suc t) a) x' y i).1 refl,
            ),
          )),
        )

    -- where every clause has a true literal, each agent keeps its vertex or crosses an edge
    pub read_row_f : T (all sat_p (for k (block_f s near t))) → (a : ℕ) → a < k → T (condition1 near (P t) (P (suc t)) a)
    unfolding condition1
    read_row_f h a y =
        let i = c.inside t a (omega arith) y in
        (or_imp (eqb (P t a) (P (suc t) a)) _).1 (λ d.
        (iff_f a (P t a) y i).0 ((one_all sat_p (clause_f a (P t a))).0 ((for_all sat_p n _).0 ((for_all sat_p k (block_f s near t)).0 h a y) (P t a) i)) refl
        (λ e. d ((eqb_iff _ _).1 e)))

    pass_F : (a : ℕ) → a < k → (P t a ≢ P (suc t) a → T (near (P t a) (P (suc t) a))) → T (all sat_p (block_f s near t a))
    pass_F a y h = (for_all sat_p n _).1 (λ v l. (one_all sat_p (clause_f a v)).1 ((iff_f a v y l).1 (λ e d. rw e (h (λ e'. d (e ∙ e'))))))

    here_F : (a : ℕ) → a < k → P t a ≢ P (suc t) a → (T (near (P t a) (P (suc t) a)) → ⊥) → Fault es (block_f s near t a) (P t a)
    here_F a y d o =
        let i = c.inside t a (omega arith) y in
        singles es n (clause_f a) (P t a)
        record {
          within = omega arith;
          before = λ v l. (iff_f a v y (omega arith)).1 (λ e. absurd (let f : ⊥ = omega arith in f));
          here = λ l h. o ((iff_f a (P t a) y i).0 h refl d);
        }

    -- r is the first agent that neither keeps its vertex nor crosses an edge
    module _ (r : ℕ) (f : FirstFault k (λ a. eqb (P t a) (P (suc t) a) || near (P t a) (P (suc t) a)) r) where
      below_F : (a : ℕ) → a < r → T (all sat_p (block_f s near t a))
      below_F a l =
          pass_F a (omega (arith, f.within)) (λ d. (or_imp (eqb (P t a) (P (suc t) a)) _).0 (f.before a l) (λ e. d ((eqb_iff _ _).0 e)))

      pub none_row_f : r ≡ k → Failing es (for k (block_f s near t)) None
      none_row_f e = failing_none es (for k (block_f s near t)) ((for_all sat_p k _).1 (λ a l. below_F a (omega arith)))

      pub here_row_f : r < k → Failing es (for k (block_f s near t)) (Some (r * n + P t r))
      here_row_f l =
          let no : (T (eqb (P t r) (P (suc t) r)) → ⊥) × (T (near (P t r) (P (suc t) r)) → ⊥) =
          ((λ e. f.here l ((or_imp (eqb (P t r) (P (suc t) r)) _).1 (λ h. absurd (h e)))), (λ o. f.here l ((or_imp (eqb (P t r) (P (suc t) r)) _).1 (λ h. o)))) in
          blocks_failing es (block_f s near t) n k r (P t r) (length_F s near t) l
          ((for_all sat_p r _).1 below_F)
          (here_F r l (λ e. no.0 ((eqb_iff _ _).1 e)) no.1)
          (c.inside t r (omega arith) l)

  -- G under rule 1, where no two agents share a vertex at time t
  module _ (t : ℕ) (x : t < m) (apart : (a b : ℕ) → a < b → b < k → P t a ≢ P t b) where
    abbrev other : ℕ → ℕ → List Clause
    other a b = when (not (eqb a b)) (follows s t a b)

    iff_g : (a b v : ℕ) → a < k → b < k → v < n → T (sat_p (¬X s t b v ∷ ¬X s (suc t) a v ∷ [])) ↔ (v ≡ P t b → v ≡ P (suc t) a → ⊥)
    iff_g a b v y z l =
        let h = not_both s es w t b v (suc t) a v (omega arith) z l (omega arith) y l in
        let one = c.here t b v (omega arith) z l in
        let two = c.here (suc t) a v (omega arith) y l in
        ((λ o e e'. h.0 o (one.1 e) (two.1 e')), (λ o. h.1 (λ f g. o (one.0 f) (two.0 g))))

    pass_follows : (a b : ℕ) → a < k → b < k → P t b ≢ P (suc t) a → T (all sat_p (follows s t a b))
    pass_follows a b y z d =
        (for_all sat_p n _).1 (λ v l. (one_all sat_p (¬X s t b v ∷ ¬X s (suc t) a v ∷ [])).1 ((iff_g a b v y z l).1 (λ e e'. d (sym e ∙ e'))))

    here_follows : (a b : ℕ) → a < k → b < k → P t b ≡ P (suc t) a → Fault es (follows s t a b) (P (suc t) a)
    here_follows a b y z e =
        let i = c.inside (suc t) a (omega arith) y in
        singles es n (λ v. ¬X s t b v ∷ ¬X s (suc t) a v ∷ []) (P (suc t) a)
        record {
          within = omega arith;
          before = λ v l. (iff_g a b v y z (omega arith)).1 (λ e e'. omega arith);
          here = λ l h. (iff_g a b (P (suc t) a) y z i).0 h (sym e) refl;
        }

    pass_others : (a r : ℕ) → a < k → r ≤ k → ((b : ℕ) → b < r → b ≢ a → P t b ≢ P (suc t) a) → T (all sat_p (for r (other a)))
    pass_others a r y l h =
        (for_all sat_p r _).1 (λ b o. (when_all sat_p (not (eqb a b)) _).1 (λ d. pass_follows a b y (omega arith) (h b o (λ e. (not_iff (eqb a b)).0 d ((eqb_iff a b).1 (sym e))))))

    here_others : (a b : ℕ) → a < k → b < k → b ≢ a → ((i : ℕ) → i < b → i ≢ a → P t i ≢ P (suc t) a) → P t b ≡ P (suc t) a
        → Fault es (no_following s t a) (length (for b (other a)) + P (suc t) a) × (length (for b (other a)) + P (suc t) a < (k - 1) * n)
    here_others a b y z d h e =
        let o : other a b ≡ follows s t a b = rw (ne_eqb a b (λ e. d (sym e))) in
        let i = c.inside (suc t) a (omega arith) y in
        let lo : length (other a b) ≡ n = ap length o ∙ for1_length n _ in (
          for_stop es (other a) k b (P (suc t) a) z (pass_others a b y (omega arith) h)
              (subst (λ (L : List Clause). Fault es L (P (suc t) a)) (sym o) (here_follows a b y z e)) (omega arith),
          omega (arith, for_room (other a) z, length_G s t a y),
        )

    -- r is the first agent that changes its vertex and goes to one on which an agent stood
    module _ (r : ℕ) (f : FirstFault k (λ a. eqb (P t a) (P (suc t) a) || (every k λ b. not (eqb (P t b) (P (suc t) a)))) r) where
      below_G : (a : ℕ) → a < r → T (all sat_p (no_following s t a))
      below_G a l =
          let y : a < k = omega (arith, f.within) in
          pass_others a k y (le_refl k) (λ b o d e.
          by_cases (ℕ_discrete (P t a) (P (suc t) a))
          (λ q. by_cases (dec_lt a b) (λ p. apart a b p o (q ∙ sym e)) (λ p. apart b a (omega arith) y (e ∙ sym q)))
          (λ q. (keeps_or k (P t) (P (suc t)) a).0 (f.before a l) q b o e))

      pub none_row_g : r ≡ k → Failing es (for k (no_following s t)) None
      none_row_g e = failing_none es (for k (no_following s t)) ((for_all sat_p k _).1 (λ a l. below_G a (omega arith)))

      pub here_row_g : (b i : ℕ) → Enters k (P t) (P (suc t)) r b → (b < r → i ≡ b) → (r < b → i ≡ b - 1)
          → Failing es (for k (no_following s t)) (Some (r * ((k - 1) * n) + (i * n + P (suc t) r)))
      here_row_g b i en h h' =
          let l = en.agent in
          let d = en.another in
          let e : length (for b (other r)) ≡ i * n = others_before n r b i (follows s t r) (λ i o. for1_length n _) d h h' in
          let (g, o) = here_others r b l en.stander d (λ i lt q. en.before i lt) en.stood in
          subst (λ (x : ℕ). Failing es (for k (no_following s t)) (Some (r * ((k - 1) * n) + (x + P (suc t) r)))) e
          (subst (λ (x : ℕ). Failing es (for k (no_following s t)) (Some (x + (length (for b (other r)) + P (suc t) r)))) (for_length r ((k - 1) * n) (no_following s t) (λ a o. length_G s t a (omega arith)))
          (for_failing es (no_following s t) k r (length (for b (other r)) + P (suc t) r) l ((for_all sat_p r _).1 below_G) g (omega (arith, length_G s t r l))))
