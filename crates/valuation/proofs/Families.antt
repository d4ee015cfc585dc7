-- What each family says of the places P t a, where X(t,a,v) is true for v = P t a and for no other v: the formula holds exactly
-- where the places lead from the starts to the goals by valid steps.
use mathlib.Core.Path.{◌≡◌, refl, sym, ◌∙◌, ap, subst}
use mathlib.Core.Logic.{◌↔◌, ◌≢◌, ⊎_elim, by_cases}
use mathlib.Core.List.{List}
use mathlib.Core.Bool.{Bool, true, false, cond}
use Prim.Native.Nat.{ℕ, suc, ◌<◌}
use native.Mathlib.Nat.{zero-lt-suc, le_refl}
use native.Mathlib.Decide.{ℕ_discrete}
use native.Mathlib.Omega.{arith}
use lib.Dec.{T}
use Rattle.lists.specs.Loop.{for, any, all}
use Rattle.lists.proofs.Tests.{ltb_iff, not_iff, or_imp, eqb_iff}
use Rattle.lists.proofs.Loops.{for_all, when_all, one_all, for_any, when_any, all_append, any_one, any_two, any_four}
use Rattle.instance.specs.declared.Sizes.{Sizes}
use Rattle.instance.specs.Instance.{Instance, following, HasGoal, adjacent, Edges, Endpoints}
use Rattle.instance.proofs.Graph.{adjacent_iff}
use Rattle.formula.specs.Variables.{Literal}
use Rattle.formula.specs.Formula.{Clause, A, B, C, D, E, F, G, no_following, no_exchange, clauses}
use Rattle.valuation.specs.Places.{Places}
use Rattle.plan.specs.Passing.{Second, Leads}
use Rattle.plan.proofs.Steps.{apart_any, rows_apart, crosses_iff}
use Rattle.formula.specs.Variables as variables

-- a truth of literals h satisfies the clauses
abbrev pub Sat : (Literal → Bool) → List Clause → Type 0
Sat h cs = T (all (any h) cs)

module _ (s : Sizes) where
  open s use {n, k, m}

  module _ (h : Literal → Bool) (P Q : ℕ → ℕ → ℕ) (c : Places s h P) where
    pub places_cong : ((t a : ℕ) → t < suc m → a < k → P t a ≡ Q t a) → Places s h Q
    places_cong e =
        record {
          inside = λ t a p q. rw (e t a p q) at (c.inside t a p q);
          here = λ t a v p q r. rw (e t a p q) at (c.here t a v p q r);
          elsewhere = λ t a v p q r. rw (e t a p q) at (c.elsewhere t a v p q r);
        }

    pub places_unique : Places s h Q → (t a : ℕ) → t < suc m → a < k → P t a ≡ Q t a
    places_unique d t a p q = (d.here t a (P t a) p q (c.inside t a p q)).0 ((c.here t a (P t a) p q (c.inside t a p q)).1 refl)

module _ (I : Instance) where
  open I use {sizes, low, high, start, goal}
  open sizes use {n, k, e, m}

  abbrev X : ℕ → ℕ → ℕ → Literal
  X = variables.X sizes

  abbrev ¬X : ℕ → ℕ → ℕ → Literal
  ¬X = variables.¬X sizes

  module _ (h : Literal → Bool) (P : ℕ → ℕ → ℕ) (c : Places sizes h P) where
    pub read_A : ((a : ℕ) → a < k → start a < n) → Sat h (A I.sizes I.start) ↔ ((a : ℕ) → a < k → start a ≡ P 0 a)
    unfolding A
    read_A s =
        simp (for_all, one_all, any_one) (
          (λ q a l. (c.here 0 a (start a) (zero-lt-suc m) l (s a l)).0 (q a l)),
          (λ q a l. (c.here 0 a (start a) (zero-lt-suc m) l (s a l)).1 (q a l)),
        )

    pub read_B : ((a : ℕ) → a < k → HasGoal (goal a) → goal a < n) → Sat h (B I.sizes I.goal) ↔ ((a : ℕ) → a < k → HasGoal (goal a) → goal a ≡ P m a)
    unfolding B
    read_B s =
        simp (for_all, when_all, one_all, not_iff, eqb_iff, any_one) (
          (λ q a l g. (c.here m a (goal a) (le_refl (suc m)) l (s a l g)).0 (q a l g)),
          (λ q a l g. (c.here m a (goal a) (le_refl (suc m)) l (s a l g)).1 (q a l g)),
        )

    pub read_C : Sat h (C I.sizes)
    unfolding C
    read_C = simp (for_all, one_all, for_any, any_one) (λ t l a r. (P t a, c.inside t a l r, (c.here t a (P t a) l r (c.inside t a l r)).1 refl))

    pub read_D : Sat h (D I.sizes)
    unfolding D
    read_D =
        simp (for_all, when_all, one_all, ltb_iff, any_two)
        (λ t l a r v p w q o f. (c.elsewhere t a w l r q).1 (λ e. f ((c.elsewhere t a v l r p).1 (λ e'. omega arith))))

    pub read_E : Sat h (E I.sizes) ↔ ((t : ℕ) → t < suc m → (a b : ℕ) → a < b → b < k → P t a ≢ P t b)
    unfolding E
    read_E =
        simp (for_all, when_all, one_all, ltb_iff, any_two) (
          (λ q t l a b o s e.
              let r : a < k = omega arith in
              let i = c.inside t a l r in
              (c.elsewhere t b (P t a) l s i).0 (q t l (P t a) i a r b s o (λ f. (c.elsewhere t a (P t a) l r i).0 f refl)) e),
          (λ q t l v p a r b s o f.
              (c.elsewhere t b v l s p).1 (λ e. f ((c.elsewhere t a v l r p).1 (λ e'. q t l a b o s (sym e' ∙ e))))),
        )

    pub read_F : Sat h (F I.sizes (adjacent I)) ↔ ((t : ℕ) → t < m → (a : ℕ) → a < k → P t a ≢ P (suc t) a → T (adjacent I (P t a) (P (suc t) a)))
    unfolding F
    read_F =
        simp (for_all, one_all, any_one, or_imp, for_any, when_any) (
          (λ q t l a r ne.
              let l' : suc t < suc m = omega arith in
              let i = c.inside t a (omega arith) r in
              let w = q t l a r (P t a) i (λ f. (c.elsewhere t a (P t a) (omega arith) r i).0 f refl) (λ f. ne ((c.here (suc t) a (P t a) l' r i).0 f)) in
              subst (λ (x : ℕ). T (adjacent I (P t a) x)) ((c.here (suc t) a w.0 l' r w.1).0 w.2.1) w.2.0),
          (λ q t l a r v p f g.
              let e : v ≡ P t a = by_cases (ℕ_discrete v (P t a)) (λ e. e) (λ d. absurd (f ((c.elsewhere t a v (omega arith) r p).1 d))) in
              let l' : suc t < suc m = omega arith in
              let w = P (suc t) a in
              let i = c.inside (suc t) a l' r in (
                w,
                i,
                (
                  rw e (q t l a r (λ e'. g ((c.here (suc t) a v l' r p).1 (e ∙ e')))),
                  (c.here (suc t) a w l' r i).1 refl,
                ),
              )),
        )

    -- G under rule 1
    pub read_following : Sat h (for m λ t. for k λ a. no_following sizes t a)
        ↔ ((t : ℕ) → t < m → (a b : ℕ) → a < k → b < k → a ≢ b → P t b ≢ P (suc t) a)
    read_following =
        simp (for_all, when_all, one_all, not_iff, eqb_iff, any_two) (
          (λ q t l a b r s d e.
              let i = c.inside t b (omega arith) s in
              (c.elsewhere (suc t) a (P t b) (omega arith) r i).0 (q t l a r b s d (P t b) i (λ f. (c.elsewhere t b (P t b) (omega arith) s i).0 f refl)) e),
          (λ q t l a r b s d v p f.
              (c.elsewhere (suc t) a v (omega arith) r p).1 (λ e. f ((c.elsewhere t b v (omega arith) s p).1 (λ e'. q t l a b r s d (sym e' ∙ e))))),
        )

    -- G under rule 2: a goes from the low end of an edge to the high end, b from the high end to the low end
    pub read_exchanges : Edges I → Sat h (for m λ t. for e λ j. no_exchange sizes t (low j) (high j))
        ↔ ((t : ℕ) → t < m → (j : ℕ) → j < e → (a b : ℕ) → a < k → b < k → a ≢ b
        → P t a ≡ low j → P (suc t) a ≡ high j → P t b ≡ high j → P (suc t) b ≢ low j)
    read_exchanges g =
        simp (for_all, when_all, one_all, not_iff, eqb_iff, any_four) (
          (λ q t l j r a b x y d e₁ e₂ e₃ e₄.
              let (i, i') = g.ends j r in
              let u : low j < n = omega arith in
              (c.elsewhere (suc t) b (low j) (omega arith) y u).0
              (q t l j r a x b y d
              (λ f. (c.elsewhere t a (low j) (omega arith) x u).0 f (sym e₁))
              (λ f. (c.elsewhere (suc t) a (high j) (omega arith) x i').0 f (sym e₂))
              (λ f. (c.elsewhere t b (high j) (omega arith) y i').0 f (sym e₃)))
              (sym e₄)),
          (λ q t l j r a x b y d f₁ f₂ f₃.
              let (i, i') = g.ends j r in
              let u : low j < n = omega arith in
              (c.elsewhere (suc t) b (low j) (omega arith) y u).1 (λ e₄.
              f₁ ((c.elsewhere t a (low j) (omega arith) x u).1 (λ e₁.
              f₂ ((c.elsewhere (suc t) a (high j) (omega arith) x i').1 (λ e₂.
              f₃ ((c.elsewhere t b (high j) (omega arith) y i').1 (λ e₃. q t l j r a b x y d (sym e₁) (sym e₂) (sym e₃) (sym e₄))))))))),
        )

  module _ (s : Endpoints I) (w : Edges I) (P : ℕ → ℕ → ℕ) where
    -- no two agents share a vertex in any row
    abbrev Apart : Type 0
    Apart = (t : ℕ) → t < suc m → (a b : ℕ) → a < b → b < k → P t a ≢ P t b

    leads_apart : Leads I P → Apart
    leads_apart o t l a b q r = rows_apart I s P o.starts t (λ u h. o.steps u (omega arith)) a b (omega arith) r (omega arith)

    -- each agent keeps its vertex or crosses an edge
    abbrev Crossing : Type 0
    Crossing = (t : ℕ) → t < m → (a : ℕ) → a < k → P t a ≢ P (suc t) a → T (adjacent I (P t a) (P (suc t) a))

    abbrev by_rule : Bool → List Clause
    by_rule f = cond f (for m λ t. for e λ j. no_exchange sizes t (low j) (high j)) (for m λ t. for k λ a. no_following sizes t a)

    -- Family G and condition 2. Under rule 1 they agree where no two agents share a vertex: of an agent that stays G says more than
    -- condition 2, and that part is E, since another agent on the same vertex would share it in row t. Under rule 2 they agree where each
    -- agent keeps its vertex or crosses an edge, which is F: so an exchange is across an edge.
    second : (h : Literal → Bool) → Places sizes h P → Apart → Crossing
        → (f : Bool) → Sat h (by_rule f) ↔ ((t : ℕ) → t < m → Second I (P t) (P (suc t)) f)
    second h c o x true =
        simp (read_exchanges h P c w) (
          (λ q t l a b r u (d, e₁, e₂).
              let (j, v, ends) = (adjacent_iff I (P t a) (P (suc t) a)).0 (x t l a r (λ y. d (y ∙ e₁))) in
              let d' : a ≢ b = λ y. d (ap (P t) y) in
              ⊎_elim
              (λ (lo, hi). q t l j v a b r u d' (sym lo) (sym hi) (sym e₁ ∙ sym hi) (e₂ ∙ sym lo))
              (λ (lo, hi). q t l j v b a u r (λ y. d' (sym y)) (sym (lo ∙ e₁)) (e₂ ∙ sym hi) (sym hi) (sym lo))
              ends),
          (λ q t l j r a b y z d e₁ e₂ e₃ e₄.
              let i = (w.ends j r).0 in
              q t l a b y z ((λ p. omega (arith, e₁, e₃, p)), e₂ ∙ sym e₃, e₄ ∙ sym e₁)),
        )
    second h c o x false =
        simp (read_following h P c) (
          (λ q t l a r d b u e. by_cases (ℕ_discrete a b) (λ e'. d (ap (λ x. P t x) e' ∙ e)) (λ d'. q t l a b r u d' e)),
          (λ q t l a b r u d e.
              by_cases (ℕ_discrete (P t a) (P (suc t) a))
              (λ stays. apart_any k (P t) (o t (omega arith)) a b r u d (stays ∙ sym e))
              (λ moves. q t l a r moves b u e)),
        )

    second_G : (h : Literal → Bool) → Places sizes h P → Apart → Crossing
        → Sat h (G I.sizes I.low I.high) ↔ ((t : ℕ) → t < m → Second I (P t) (P (suc t)) (following sizes))
    unfolding G
    second_G h c o x = second h c o x (following sizes)

    pub satisfies_iff : (h : Literal → Bool) → Places sizes h P → Sat h (clauses I) ↔ Leads I P
    unfolding clauses
    satisfies_iff h c =
        simp (all_append, read_A h P c s.starts_inside, read_B h P c s.goals_inside, read_E h P c, read_F h P c) (
          (λ q. record {
            starts = λ a l. sym (q.0.0.0.0.0.0 a l);
            steps = λ t l. record {
              crosses = λ a r. (crosses_iff I (P t a) (P (suc t) a)).0 (q.0.1 t l a r);
              second = (second_G h c q.0.0.1 q.0.1).0 q.1 t l;
              apart = λ a b r u d. apart_any k (P (suc t)) (q.0.0.1 (suc t) (omega arith)) a b r u d;
            };
            goals = λ a l g. sym (q.0.0.0.0.0.1 a l g);
          }),
          (λ o.
              let crossing : Crossing = λ t l a r. (crosses_iff I (P t a) (P (suc t) a)).1 ((o.steps t l).crosses a r) in (
                (
                  (((((λ a l. sym (o.starts a l)), (λ a l g. sym (o.goals a l g))), read_C h P c), read_D h P c), leads_apart o),
                  crossing,
                ),
                (second_G h c (leads_apart o) crossing).1 (λ t l. (o.steps t l).second),
              )),
        )

  pub sat_CD : (h : Literal → Bool) → Sat h (clauses I) → Sat h (C I.sizes) × Sat h (D I.sizes)
  unfolding clauses
  sat_CD h q = let r = simp all_append at q in (r.0.0.0.0.1, r.0.0.0.1)
