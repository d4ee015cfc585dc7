-- Agents that exchange vertices: in the rows of a plan alone, and in the clauses of G under rule 2.
use mathlib.Core.Path.{◌≡◌, refl, sym, ◌∙◌, ap, subst}
use mathlib.Core.Logic.Iff
use mathlib.Core.Logic.{◌↔◌, ◌≢◌, by_cases}
use mathlib.Core.List.{List, [], ◌∷◌}
use mathlib.Core.Bool.{Bool, true, false, not}
use Prim.Native.Nat.{ℕ, suc, ◌+◌, ◌*◌, ◌-◌, ◌≤◌, ◌<◌}
use native.Mathlib.Nat.{le_refl, add-mul, not-suc-le-zero}
use native.Mathlib.Decide.{dec_lt, ℕ_discrete}
use native.Mathlib.Omega.{arith}
use borrow.Author.Tests.{lt-ltb, le-ltb, eq-eqb, ne_eqb}
use lib.ListN.{length}
use lib.Dec.{T, ltb, eqb}
use lib.IntN.{ℤ}
use Rattle.std.specs.Prelude.{Option, None, Some, IsSome}
use Rattle.std.specs.Option.{is_some}
use Rattle.lists.specs.Loop.{for, when, all, some, sum}
use Rattle.lists.proofs.Tests.{and_iff, or_imp, not_iff, ltb_iff, eqb_iff, some_iff, every_iff}
use Rattle.lists.proofs.Loops.{for_all, one_all, when_all, any_four, for_length}
use Rattle.lists.proofs.Blocks.{place_lt}
use Rattle.lists.proofs.Slices.{for_room}
use Rattle.lists.proofs.Rising.{when_yes}
use Rattle.answers.specs.Fault.{FirstFault, FirstFailing}
use Rattle.answers.proofs.Faults.{T_true, T_false, fault_at, fault_none, fault_first, fault_of}
use Rattle.instance.specs.declared.Sizes.{Sizes}
use Rattle.instance.specs.Instance.{upward, higher, edges_before}
use Rattle.formula.specs.Formula.{Clause, exchange, no_exchange}
use Rattle.formula.specs.Blocks.{no_exchange_from}
use Rattle.formula.proofs.Counts.{exchange_agents, count_exchange}
use Rattle.formula.proofs.Places.{exchanges_below, exchanges_before}
use Rattle.plan.specs.Plan.{Row, condition, condition1, condition2}
use Rattle.plan.proofs.Steps.{apart_any}
use Rattle.valuation.specs.Valuation.{true?, satisfied?}
use Rattle.valuation.specs.Places.{Places}
use Rattle.satisfaction.specs.Rows.{Fault, Failing, LowestCrossed, goes, crossed}
use Rattle.satisfaction.proofs.Laws.{others_before, failing_none, for_stop, for_failing, singles}

-- ---- of k agents that go from P to Q
module _ (k : ℕ) (P Q : Row) where
  going : (u v a : ℕ) → T (goes P Q u v a) ↔ ((P a ≡ u) × (Q a ≡ v))
  going u v a = simp (and_iff, eqb_iff) Iff.rfl

  -- an agent goes from u to v
  abbrev Goes : ℕ → ℕ → Type 0
  Goes u v = (a : ℕ) × (a < k) × ((P a ≡ u) × (Q a ≡ v))

  crossed_iff : (u v : ℕ) → T (crossed k P Q u v) ↔ ((u < v) × (Goes u v × Goes v u))
  unfolding crossed
  crossed_iff u v = simp (and_iff, ltb_iff, some_iff, eqb_iff) Iff.rfl

  -- r is the first that does, or k
  module _ (u v r : ℕ) (f : FirstFault k (λ a. not (goes P Q u v a)) r) where
    first_goes : r < k → (P r ≡ u) × (Q r ≡ v)
    first_goes l = (going u v r).0 (fault_first k (goes P Q u v) r f l).0

    none_goes : r ≡ k → Goes u v → ⊥
    none_goes e (a, l, h) = (not_iff (goes P Q u v a)).0 (f.before a (omega arith)) ((going u v a).1 h)

    first_inside : Goes u v → r < k
    first_inside g = by_cases (dec_lt r k) (λ l. l) (λ l. absurd (none_goes (let w = f.within in omega arith) g))

  -- and as an option
  module _ (u v : ℕ) where
    abbrev First : Option ℕ → Type 0
    First r = FirstFailing k (λ a. not (goes P Q u v a)) r

    pub some_goes : (r : Option ℕ) → First r → is_some r ≡ some k (goes P Q u v)
    some_goes None f = sym (T_false (some k (goes P Q u v)) (λ t. let (a, l, h) = (some_iff k (goes P Q u v)).0 t in none_goes u v k f refl (a, l, (going u v a).0 h)))
    some_goes (Some r) f = sym (T_true (some k (goes P Q u v)) ((some_iff k (goes P Q u v)).1 (r, f.0, (going u v r).1 (first_goes u v r f.1 f.0))))

  -- u is exchanged with no vertex, where no agent is on it or the only agent on it does not exchange it; or with one
  module _ (n u : ℕ) where
    abbrev High : Option ℕ → Type 0
    High v = FirstFailing n (λ v. not (crossed k P Q u v)) v

    quiet : ((v : ℕ) → v < n → T (crossed k P Q u v) → ⊥) → High None
    quiet h = fault_none refl (λ v l. (not_iff (crossed k P Q u v)).1 (h v l))

    -- a is the first agent on u
    module _ (a : ℕ) (f : FirstFault k (λ i. not (eqb (P i) u)) a) where
      pub high_nobody : a ≡ k → High None
      high_nobody e =
          quiet (λ v l t.
          let (o, ((b, r, (x, y)), back)) = (crossed_iff u v).0 t in
          (not_iff (eqb (P b) u)).0 (f.before b (omega arith)) ((eqb_iff (P b) u).1 x))

      module _ (apart : (i j : ℕ) → i < j → j < k → P i ≢ P j) (l : a < k) where
        only : (v : ℕ) → T (crossed k P Q u v) → v ≡ Q a
        only v t =
            let (o, ((b, r, (x, y)), back)) = (crossed_iff u v).0 t in
            let e : P a ≡ u = (eqb_iff (P a) u).0 (fault_first k (λ i. eqb (P i) u) a f l).0 in
            let z : b ≡ a = by_cases (ℕ_discrete b a) (λ z. z) (λ d. absurd (apart_any k P apart b a r l d (x ∙ sym e))) in
            sym y ∙ ap Q z

        pub high_none : false ≡ crossed k P Q u (Q a) → High None
        high_none e = quiet (λ v r t. subst T (sym (subst (λ (w : ℕ). false ≡ crossed k P Q u w) (sym (only v t)) e)) t)

        -- the one that goes back was on that vertex
        pub high_one : ((i : ℕ) → i < k → P i < n) → true ≡ crossed k P Q u (Q a) → High (Some (Q a))
        high_one inside e =
            let h : Q a < n = (let (b, r, (x, y)) = ((crossed_iff u (Q a)).0 (subst T e tt)).1.1 in omega (arith, inside b r)) in (
              h,
              fault_at h
                  (λ v r. (not_iff (crossed k P Q u v)).1 (λ t. let z = only v t in omega arith))
                  (λ t. (not_iff (crossed k P Q u (Q a))).0 t (subst T e tt)),
            )

  -- whether u and v are exchanged, by the first agent that goes from u to v and the first that goes from v to u
  module _ (u v : ℕ) where
    pub crossed_down : v ≤ u → false ≡ crossed k P Q u v
    unfolding crossed
    crossed_down l = rw (le-ltb u v l)

    pub crossed_up : u < v → (to : Option ℕ) → First u v to → is_some to ≡ true → (back : Option ℕ) → First v u back → is_some back ≡ crossed k P Q u v
    unfolding crossed
    crossed_up l to f e back g = rw (lt-ltb u v l, ← some_goes u v to f, e, some_goes v u back g)

    pub crossed_none : u < v → (to : Option ℕ) → First u v to → is_some to ≡ false → false ≡ crossed k P Q u v
    unfolding crossed
    crossed_none l to f e = rw (lt-ltb u v l, ← some_goes u v to f, e)

    -- where they are exchanged, one goes each way
    pub crossed_ways : T (crossed k P Q u v) → Goes u v × Goes v u
    crossed_ways t = ((crossed_iff u v).0 t).1

-- u is the lowest vertex that is exchanged with a higher one, and v the lowest of those
module _ (n k : ℕ) (P Q : Row) where
  -- none is
  pub none_lowest : LowestCrossed n (crossed k P Q) None → (i v : ℕ) → i < n → v < n → T (crossed k P Q i v) → ⊥
  none_lowest f i v l r = (not_iff (crossed k P Q i v)).0 ((every_iff n (λ v. not (crossed k P Q i v))).0 (f.before i l) v r)

  module _ (u v : ℕ) (f : LowestCrossed n (crossed k P Q) (Some (u, v))) where
    pub low_before : (i j : ℕ) → i < u → j < n → T (crossed k P Q i j) → ⊥
    low_before i j l r = (not_iff (crossed k P Q i j)).0 ((every_iff n (λ v. not (crossed k P Q i v))).0 (f.0.1.before i l) j r)

    pub high_before : (j : ℕ) → j < v → T (crossed k P Q u j) → ⊥
    high_before j l = (not_iff (crossed k P Q u j)).0 (f.1.1.before j l)

    pub across : T (crossed k P Q u v)
    across = (fault_first n (crossed k P Q u) v f.1.1 f.1.0).0

    pub goes_up : (r : Option ℕ) → First k P Q u v r → IsSome r
    goes_up r g = some_goes k P Q u v r g ∙ T_true _ ((some_iff k (goes P Q u v)).1 (one u v (crossed_ways k P Q u v across).0))
      where
        one : (u v : ℕ) → Goes k P Q u v → (a : ℕ) × (a < k) × T (goes P Q u v a)
        one u v (a, l, h) = (a, l, (going k P Q u v a).1 h)

    pub goes_back : (r : Option ℕ) → First k P Q v u r → IsSome r
    goes_back r g = some_goes k P Q v u r g ∙ T_true _ ((some_iff k (goes P Q v u)).1 (one v u (crossed_ways k P Q u v across).1))
      where
        one : (u v : ℕ) → Goes k P Q u v → (a : ℕ) × (a < k) × T (goes P Q u v a)
        one u v (a, l, h) = (a, l, (going k P Q u v a).1 h)

-- ---- condition 2 under rule 2: r is the first agent that exchanges its vertex, or k
module _ (s : Sizes) (two : s.rule ≡ 2) (near : ℕ → ℕ → Bool) (P Q : Row) (r : ℕ) (f : FirstFault s.k (condition s near 1 P Q) r) where
  open s use {n, k}

  second : (a : ℕ) → T (condition s near 1 P Q a) ↔ (P a ≢ Q a → (b : ℕ) → b < k → (P b ≡ Q a) × (Q b ≡ P a) → ⊥)
  unfolding condition2
  second a = rw (eq-eqb s.rule 2 two) (simp (or_imp, every_iff, not_iff, and_iff, eqb_iff) Iff.rfl)

  pub uncrossed : r ≡ k → (u v : ℕ) → T (crossed k P Q u v) → ⊥
  uncrossed e u v t =
      let (o, ((a, l, (x, y)), (b, l', (x', y')))) = (crossed_iff k P Q u v).0 t in
      (second a).0 (f.before a (omega arith)) (λ q. omega arith) b l' (x' ∙ sym y, y' ∙ sym x)

  -- where one does, some two are exchanged
  pub some_crossed : ((a : ℕ) → a < k → P a < n) → r ≢ k → (u v : ℕ) × (u < n) × (v < n) × T (crossed k P Q u v)
  some_crossed inside d =
      let l : r < k = (let w = f.within in omega arith) in
      let no = f.here l in
      let moves : P r ≢ Q r = λ e. no ((second r).1 (λ h. absurd (h e))) in
      let (b, g) = fault_of k (λ b. not (goes P Q (Q r) (P r) b)) in
      let lb : b < k =
      by_cases (dec_lt b k) (λ h. h) (λ h. absurd (no ((second r).1 (λ m i o e.
      (not_iff (goes P Q (Q r) (P r) i)).0 (g.before i (omega arith)) ((going k P Q (Q r) (P r) i).1 e))))) in
      let (e, e') = first_goes k P Q (Q r) (P r) b g lb in
      let i = inside r l in
      let j = inside b lb in
      by_cases (dec_lt (P r) (Q r))
      (λ h. (P r, Q r, i, omega arith, (crossed_iff k P Q (P r) (Q r)).1 (h, ((r, l, (refl, refl)), (b, lb, (e, e'))))))
      (λ h. (Q r, P r, omega arith, i, (crossed_iff k P Q (Q r) (P r)).1 (omega arith, ((b, lb, (e, e')), (r, l, (refl, refl))))))

-- agents that keep their vertices or cross edges exchange vertices across an edge
pub crossed_upward : (k : ℕ) (near : ℕ → ℕ → Bool) (P Q : Row) → ((a : ℕ) → a < k → T (condition1 near P Q a))
    → (u v : ℕ) → T (crossed k P Q u v) → T (upward near u v)
unfolding condition1
crossed_upward k near P Q h u v t =
    let (o, ((a, l, (x, y)), back)) = (crossed_iff k P Q u v).0 t in
    let c : T (near (P a) (Q a)) = (or_imp (eqb (P a) (Q a)) _).0 (h a l) (λ e. let q = (eqb_iff (P a) (Q a)).0 e in let z : ⊥ = omega arith in z) in
    (and_iff (ltb u v) _).1 ((ltb_iff u v).1 o, rw (x, y) at c)

-- ---- the clauses at time t
module _ (s : Sizes) (es : List ℤ) (P : ℕ → ℕ → ℕ) (c : Places s (true? es) P) (near : ℕ → ℕ → Bool) (t : ℕ) (x : t < s.m) where
  open s use {n, k, e, m}

  abbrev sat : Clause → Bool
  sat = satisfied? es

  abbrev cross : ℕ → ℕ → Bool
  cross = crossed k (P t) (P (suc t))

  -- without a true literal where a goes from u to v and b from v to u
  exchange_iff : (u v a b : ℕ) → u < n → v < n → a < k → b < k
      → T (sat (exchange s t u v a b)) ↔ ((P t a ≡ u) × (P (suc t) a ≡ v) → (P t b ≡ v) × (P (suc t) b ≡ u) → ⊥)
  exchange_iff u v a b lu lv la lb =
      let one = c.elsewhere t a u (omega arith) la lu in
      let two = c.elsewhere (suc t) a v (omega arith) la lv in
      let three = c.elsewhere t b v (omega arith) lb lv in
      let four = c.elsewhere (suc t) b u (omega arith) lb lu in
      simp any_four (
        (λ h (e₁, e₂) (e₃, e₄). four.0 (h (λ f. one.0 f (sym e₁)) (λ f. two.0 f (sym e₂)) (λ f. three.0 f (sym e₃))) (sym e₄)),
        (λ h f₁ f₂ f₃.
            four.1 (λ e₄. f₁ (one.1 (λ e₁. f₂ (two.1 (λ e₂. f₃ (three.1 (λ e₃. h (sym e₁, sym e₂) (sym e₃, sym e₄))))))))),
      )

  abbrev with : ℕ → ℕ → ℕ → List Clause
  with u v a = for k λ b. when (not (eqb a b)) (exchange s t u v a b ∷ [])

  abbrev up : ℕ → ℕ → List Clause
  up u v = when (upward near u v) (no_exchange s t u v)

  -- no two agents exchange u and v, for the v below i
  pass_up : (u i : ℕ) → u < n → i ≤ n → ((v : ℕ) → v < i → T (cross u v) → ⊥) → T (all sat (for i (up u)))
  pass_up u i lu l h =
      simp (for_all, when_all, one_all) (λ v r o a la b lb d.
      (exchange_iff u v a b lu (omega arith) la lb).1 (λ p q.
      h v r ((crossed_iff k (P t) (P (suc t)) u v).1 ((ltb_iff u v).0 ((and_iff (ltb u v) _).0 o).0, ((a, la, p), (b, lb, q))))))

  pub none_exchange : ((u v : ℕ) → u < n → v < n → T (cross u v) → ⊥) → Failing es (for n (no_exchange_from s near t)) None
  none_exchange none =
      failing_none es (for n (no_exchange_from s near t)) ((for_all sat n (no_exchange_from s near t)).1 (λ u l. pass_up u n l (le_refl n) (λ v r. none u v l r)))

  -- u and v are exchanged: a is the first agent that goes from u to v, b the first that goes back, and o its place among the others
  module _ (u v : ℕ) (lu : u < n) (lv : v < n) (across : T (cross u v)) (a b o : ℕ)
      (f : FirstFault k (λ i. not (goes (P t) (P (suc t)) u v i)) a) (g : FirstFault k (λ i. not (goes (P t) (P (suc t)) v u i)) b)
      (low : b < a → o ≡ b) (high : a < b → o ≡ b - 1) where
    here_agents : Fault es (no_exchange s t u v) (a * (k - 1) + o) × (a * (k - 1) + o < k * (k - 1))
    here_agents =
        let (r, (to, back)) = (crossed_iff k (P t) (P (suc t)) u v).0 across in
        let la : a < k = first_inside k (P t) (P (suc t)) u v a f to in
        let lb : b < k = first_inside k (P t) (P (suc t)) v u b g back in
        let p = first_goes k (P t) (P (suc t)) u v a f la in
        let q = first_goes k (P t) (P (suc t)) v u b g lb in
        let d : a ≢ b = λ w. (let z : P t a ≡ P t b = ap (P t) w in let p₀ = p.0 in let q₀ = q.0 in let y : ⊥ = omega arith in y) in
        let is : when (not (eqb a b)) (exchange s t u v a b ∷ []) ≡ exchange s t u v a b ∷ [] = rw (ne_eqb a b d) in
        let clause : Fault es (exchange s t u v a b ∷ []) 0 =
        singles es 1 (λ i. exchange s t u v a b) 0 (fault_at (omega arith) (λ i l. absurd (not-suc-le-zero l)) (λ y. (exchange_iff u v a b lu lv la lb).0 y p q)) in
        let before : length (for b λ i. when (not (eqb a i)) (exchange s t u v a i ∷ [])) ≡ o * 1 =
        others_before 1 a b o (λ i. exchange s t u v a i ∷ []) (λ i l. refl) (λ w. d (sym w)) low high in
        let passed : T (all sat (for b λ i. when (not (eqb a i)) (exchange s t u v a i ∷ []))) =
        simp (for_all, when_all, one_all) (λ i l y.
        (exchange_iff u v a i lu lv la (omega arith)).1 (λ p' q'. (not_iff (goes (P t) (P (suc t)) v u i)).0 (g.before i l) ((going k (P t) (P (suc t)) v u i).1 q'))) in
        let inner : Fault es (with u v a) o = (
        let z : length (for b λ i. when (not (eqb a i)) (exchange s t u v a i ∷ [])) + 0 ≡ o = omega arith in
        subst (Fault es (with u v a)) z
        (for_stop es (λ i. when (not (eqb a i)) (exchange s t u v a i ∷ [])) k b 0 lb passed
        (subst (λ (L : List Clause). Fault es L 0) (sym is) clause) (omega (arith, ap length is)))
        ) in
        let lo : o < k - 1 = by_cases (dec_lt a b) (λ l. omega (arith, high l)) (λ l. omega (arith, low (omega arith))) in (
          subst (λ (y : ℕ). Fault es (no_exchange s t u v) (y + o)) (for_length a (k - 1) (with u v) (λ i l. exchange_agents s t u v i (omega arith)))
              (for_stop es (with u v) k a o la
              (simp (for_all, when_all, one_all) (λ i l j r y.
              (exchange_iff u v i j lu lv (omega arith) r).1 (λ p' q'. (not_iff (goes (P t) (P (suc t)) u v i)).0 (f.before i l) ((going k (P t) (P (suc t)) u v i).1 p'))))
              inner (omega (arith, exchange_agents s t u v a la))),
          place_lt k (k - 1) a o la lo,
        )

    pub here_exchange : T (upward near u v) → ((i j : ℕ) → i < u → j < n → T (cross i j) → ⊥) → ((j : ℕ) → j < v → T (cross u j) → ⊥)
        → Failing es (for n (no_exchange_from s near t)) (Some (edges_before near n u v * (k * (k - 1)) + (a * (k - 1) + o)))
    unfolding edges_before
    here_exchange edge lower before =
        let (h, l) = here_agents in
        let is : up u v ≡ no_exchange s t u v = when_yes (upward near u v) (no_exchange s t u v) edge in
        let inner = for_stop es (up u) n v (a * (k - 1) + o) lv (pass_up u v lu (omega arith) before)
        (subst (λ (L : List Clause). Fault es L (a * (k - 1) + o)) (sym is) h) (omega (arith, ap length is, count_exchange s t u v)) in
        let place : length (for u (no_exchange_from s near t)) + (length (for v (up u)) + (a * (k - 1) + o))
        ≡ (sum u (λ y. length (higher near y n)) + length (higher near u v)) * (k * (k - 1)) + (a * (k - 1) + o) =
        omega (arith, exchanges_before s near t u, exchanges_below s near t u v, add-mul (sum u (λ y. length (higher near y n))) (length (higher near u v)) (k * (k - 1))) in
        subst (λ (y : ℕ). Failing es (for n (no_exchange_from s near t)) (Some y)) place
        (for_failing es (no_exchange_from s near t) n u (length (for v (up u)) + (a * (k - 1) + o)) lu
        ((for_all sat u (no_exchange_from s near t)).1 (λ i r. pass_up i n (omega arith) (le_refl n) (λ j q. lower i j r q)))
        inner (omega (arith, for_room (up u) lv, ap length is, count_exchange s t u v)))
