-- The base formula speaks of the first N variables alone: of a longer valuation its first N entries decide.
use mathlib.Core.Path.{◌≡◌, refl, sym, ◌∙◌, ap, ap₂, subst}
use mathlib.Core.Logic.Iff
use mathlib.Core.Logic.{◌↔◌}
use mathlib.Core.List.{List, [], ◌∷◌}
use mathlib.Core.Bool.{Bool, true, false, ◌&&◌, ◌||◌, cond}
use Prim.Native.Nat.{ℕ, zero, suc, ◌≤◌, ◌<◌, min}
use native.Mathlib.Nat.{le_refl, zero-lt-suc}
use native.Mathlib.Omega.{arith}
use lib.ListN.{length, get_or, take, length-take}
use lib.Seq.{get_or-take}
use lib.Dec.{T, leb}
use lib.IntN.{ℤ, pos, nat_abs}
use Rattle.lists.specs.Loop.{for, all, some, first}
use Rattle.lists.proofs.Tests.{T_ext, and_iff, leb_iff, eqb_iff, not_iff}
use Rattle.lists.proofs.Loops.{for_ext, for_all, when_all, one_all, all_append, all_get_d}
use Rattle.answers.specs.Fault.{FirstFault}
use Rattle.answers.proofs.Faults.{fault_ext}
use Rattle.instance.specs.declared.Sizes.{Sizes}
use Rattle.instance.specs.Instance.{Instance, following, free, no_goal, adjacent, Edges, Endpoints}
use Rattle.formula.specs.Variables.{Literal, X, ¬X, index, variable_count}
use Rattle.formula.specs.Formula.{Clause, A, B, C, D, E, F, G, no_following, no_exchange, clauses}
use Rattle.formula.proofs.Variables.{index_lt}
use Rattle.plan.specs.Plan.{plan_row}
use Rattle.valuation.specs.Valuation.{true?, satisfied?, named, named_plan}
use Rattle.valuation.specs.Satisfying.{Valuation}
use Rattle.valuation.specs.Places.{Places}
use Rattle.valuation.proofs.Families.{Sat, sat_CD, places_cong}
use Rattle.valuation.proofs.Entries.{named_places, named_at}
use Rattle.ceiling.proofs.Entries.{true_at, true_here}

-- a literal of one of the first N variables
abbrev pub within : ℕ → Literal → Bool
within N l = leb 1 (nat_abs l) && leb (nat_abs l) N

-- X(t,a,v) is one, and so is its negation
module _ (s : Sizes) where
  open s use {n, k, m}

  pub in_X : (t a v : ℕ) → t < suc m → a < k → v < n → T (within (variable_count s) (X s t a v))
  in_X t a v p q r =
      (and_iff (leb 1 (suc (index s t a v))) (leb (suc (index s t a v)) (variable_count s))).1
      ((leb_iff 1 (suc (index s t a v))).1 (omega arith), (leb_iff (suc (index s t a v)) (variable_count s)).1 (index_lt s t a v p q r))

  pub in_¬X : (t a v : ℕ) → t < suc m → a < k → v < n → T (within (variable_count s) (¬X s t a v))
  in_¬X t a v p q r = in_X t a v p q r

all_two : {A : Type 0} (p : A → Bool) (x y : A) → T (all p (x ∷ y ∷ [])) ↔ (T (p x) × T (p y))
all_two p x y = Iff.trans (and_iff (p x) _) ((λ h. (h.0, (one_all p y).0 h.1)), (λ h. (h.0, (one_all p y).1 h.1)))

all_more : {A : Type 0} (p : A → Bool) (x y : A) (l : List A) → T (all p (x ∷ y ∷ l)) ↔ (T (p x) × T (p y) × T (all p l))
all_more p x y l =
    Iff.trans (and_iff (p x) _)
    ((λ h. let g = (and_iff (p y) _).0 h.1 in (h.0, g.0, g.1)), (λ h. (h.0, (and_iff (p y) _).1 (h.1, h.2))))

-- so is every literal of the base formula
module _ (I : Instance) (s : Endpoints I) (g : Edges I) where
  open I use {sizes, low, high, start, goal}
  open sizes use {n, k, e, m}

  abbrev N : ℕ
  N = variable_count sizes

  abbrev Within : List Clause → Type 0
  Within cs = T (all (all (within N)) cs)

  in_A : Within (A sizes start)
  unfolding A
  in_A = simp (for_all, one_all) (λ a l. in_X sizes 0 a (start a) (zero-lt-suc m) l (s.starts_inside a l))

  in_B : Within (B sizes goal)
  unfolding B
  in_B = simp (for_all, when_all, one_all) (λ a l f. in_X sizes m a (goal a) (le_refl (suc m)) l (s.goals_inside a l (λ e. (not_iff (free (goal a))).0 f ((eqb_iff (goal a) no_goal).1 e))))

  in_C : Within (C sizes)
  unfolding C
  in_C = simp (for_all, one_all) (λ t p a q v r. in_X sizes t a v p q r)

  in_D : Within (D sizes)
  unfolding D
  in_D = simp (for_all, when_all, one_all, all_two) (λ t p a q v r w u o. (in_¬X sizes t a v p q r, in_¬X sizes t a w p q u))

  in_E : Within (E sizes)
  unfolding E
  in_E = simp (for_all, when_all, one_all, all_two) (λ t p v r a q b u o. (in_¬X sizes t a v p q r, in_¬X sizes t b v p u r))

  in_F : Within (F sizes (adjacent I))
  unfolding F
  in_F =
      simp (for_all, when_all, one_all, all_more) (λ t p a q v r.
      (in_¬X sizes t a v (omega arith) q r, in_X sizes (suc t) a v (omega arith) q r, (λ w u o. in_X sizes (suc t) a w (omega arith) q u)))

  -- under either rule
  in_second : (f : Bool) → Within (cond f (for m λ t. for e λ j. no_exchange sizes t (low j) (high j)) (for m λ t. for k λ a. no_following sizes t a))
  in_second true =
      simp (for_all, when_all, one_all, all_more) (λ t p j l a q b u o.
      let (x, y) = g.ends j l in (
        in_¬X sizes t a (low j) (omega arith) q (omega arith),
        in_¬X sizes (suc t) a (high j) (omega arith) q y,
        (in_¬X sizes t b (high j) (omega arith) u y, in_¬X sizes (suc t) b (low j) (omega arith) u (omega arith), tt),
      ))
  in_second false =
      simp (for_all, when_all, one_all, all_two) (λ t p a q b u o v r. (in_¬X sizes t b v (omega arith) u r, in_¬X sizes (suc t) a v (omega arith) q r))

  in_G : Within (G sizes low high)
  unfolding G
  in_G = in_second (following sizes)

  pub clauses_within : Within (clauses I)
  unfolding clauses
  clauses_within = simp all_append ((((((in_A, in_B), in_C), in_D), in_E), in_F), in_G)

-- ---- of a longer valuation the first N entries decide
module _ (N M : ℕ) (l : N ≤ M) (es : List ℤ) (w : Valuation M es) where
  pub first_entries : Valuation N (take N es)
  first_entries =
      let e = w.size in
      record {
        size = length-take N es ∙ (let q : min N (length es) ≡ N = omega arith in q);
        each = λ i h. rw (get_or-take N es i (pos 0) h) (w.each i (omega arith));
      }

  pub same_truth : (z : Literal) → T (within N z) → true? (take N es) z ≡ true? es z
  same_truth z h = T_ext _ _ (
    (λ t.
        let (i, r, a, e) = true_at N (take N es) first_entries z t in
        subst (λ (x : ℤ). T (true? es x)) (sym (get_or-take N es i (pos 0) r) ∙ e) (true_here M es w i (omega arith))),
    (λ t.
        let (i, r, a, e) = true_at M es w z t in
        let b = (leb_iff (nat_abs z) N).0 ((and_iff (leb 1 (nat_abs z)) (leb (nat_abs z) N)).0 h).1 in
        let r' : i < N = omega (arith, a) in
        subst (λ (x : ℤ). T (true? (take N es) x)) (get_or-take N es i (pos 0) r' ∙ e) (true_here N (take N es) first_entries i r')),
  )

  -- of a clause, of a list of clauses
  pub same_clause : (clause : Clause) → T (all (within N) clause) → satisfied? (take N es) clause ≡ satisfied? es clause
  same_clause [] h = refl
  same_clause (z ∷ clause) h = let (a, b) = (and_iff (within N z) _).0 h in ap₂ ◌||◌ (same_truth z a) (same_clause clause b)

  pub same_sat : (cs : List Clause) → T (all (all (within N)) cs) → all (satisfied? (take N es)) cs ≡ all (satisfied? es) cs
  same_sat [] h = refl
  same_sat (x ∷ cs) h = let (a, b) = (and_iff (all (within N) x) _).0 h in ap₂ ◌&&◌ (same_clause x a) (same_sat cs b)

first_ext : (n : ℕ) (p q : ℕ → Bool) → ((i : ℕ) → i < n → p i ≡ q i) → (some n p ≡ some n q) × (first n p ≡ first n q)
first_ext zero p q h = (refl, refl)
first_ext (suc n) p q h =
    let (a, b) = first_ext n p q (λ i l. h i (omega arith)) in
    (ap₂ ◌||◌ a (h n (le_refl (suc n))), ap₂ (λ (x : Bool) (y : ℕ). cond x y n) a b)

-- they name the same plan
pub base_plan : (s : Sizes) (M : ℕ) → variable_count s ≤ M → (es : List ℤ) → Valuation M es → named_plan s (take (variable_count s) es) ≡ named_plan s es
unfolding named_plan named
base_plan s M l es w =
    for_ext (suc s.m) _ _ (λ t p. for_ext s.k _ _ (λ a q.
    ap (λ (v : ℕ). v ∷ [])
    (first_ext s.n (λ v. true? (take (variable_count s) es) (X s t a v)) (λ v. true? es (X s t a v))
    (λ v r. same_truth (variable_count s) M l es w (X s t a v) (in_X s t a v p q r))).1))

-- and put the agents at the same places
pub base_places : (s : Sizes) (M : ℕ) → variable_count s ≤ M → (es : List ℤ) → Valuation M es → (P : ℕ → ℕ → ℕ)
    → Places s (true? (take (variable_count s) es)) P → Places s (true? es) P
base_places s M l es w P c =
    record {
      inside = c.inside;
      here = λ t a v x y z. subst (λ (b : Bool). T b ↔ (v ≡ P t a)) (same_truth (variable_count s) M l es w (X s t a v) (in_X s t a v x y z)) (c.here t a v x y z);
      elsewhere = λ t a v x y z. subst (λ (b : Bool). T b ↔ (v ≡ P t a → ⊥)) (same_truth (variable_count s) M l es w (¬X s t a v) (in_¬X s t a v x y z)) (c.elsewhere t a v x y z);
    }

module _ (I : Instance) (s : Endpoints I) (g : Edges I) (M : ℕ) (l : variable_count I.sizes ≤ M) (es : List ℤ) (w : Valuation M es) where
  open I use {sizes}

  -- they satisfy the base formula's clauses exactly where all the entries do
  pub base_sat : Sat (true? (take (variable_count sizes) es)) (clauses I) ≡ Sat (true? es) (clauses I)
  base_sat = ap T (same_sat (variable_count sizes) M l es w (clauses I) (clauses_within I s g))

  -- the first clause without a true literal is the same
  pub base_fault : (r : ℕ) → FirstFault (length (clauses I)) (λ i. satisfied? (take (variable_count sizes) es) (get_or (clauses I) i [])) r
      → FirstFault (length (clauses I)) (λ i. satisfied? es (get_or (clauses I) i [])) r
  base_fault r f =
      fault_ext (λ i h. same_clause (variable_count sizes) M l es w (get_or (clauses I) i []) ((all_get_d [] (all (within (variable_count sizes))) (clauses I)).0 (clauses_within I s g) i h)) f

  -- the plan named is where the agents are
  pub named_base : Sat (true? es) (clauses I) → Places sizes (true? es) (plan_row sizes (named_plan sizes es))
  named_base h =
      let first = take (variable_count sizes) es in
      let (c, d) = sat_CD I (true? first) (subst (λ (S : Type 0). S) (sym base_sat) h) in
      base_places sizes M l es w (plan_row sizes (named_plan sizes es))
      (subst (λ (p : List ℕ). Places sizes (true? first) (plan_row sizes p)) (base_plan sizes M l es w)
      (places_cong sizes (true? first) (named sizes first) (plan_row sizes (named_plan sizes first))
      (named_places I first (first_entries (variable_count sizes) M l es w) c d) (λ t a x y. sym (named_at sizes first t a x y))))
