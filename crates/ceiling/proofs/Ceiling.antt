-- The formula with a ceiling is satisfied exactly by the plans that pass at a cost of at most c: what the added clauses say of B and of
-- the outputs, and what the valuation of a plan says.
use mathlib.Core.Path.{◌≡◌, refl, sym, ◌∙◌, ap, subst}
use mathlib.Core.Logic.Iff
use mathlib.Core.Logic.{◌↔◌, by_cases}
use mathlib.Core.List.{List, [], ◌∷◌, ◌++◌}
use mathlib.Core.Bool.{Bool, true, false, cond}
use Prim.Native.Nat.{ℕ, zero, suc, ◌+◌, ◌*◌, ◌-◌, ◌/◌, ◌≤◌, ◌<◌}
use native.Mathlib.Nat.{le_refl, add-zero, add-suc, zero-mul, suc-mul, div-add-mod'}
use native.Mathlib.Decide.{ℕ_discrete, dec_lt}
use native.Mathlib.Numerals.{sub-one}
use native.Mathlib.Omega.{arith}
use borrow.Author.Tests.{le-ltb}
use lib.ListN.{length, length-append}
use lib.Dec.{T, eqb}
use lib.IntN.{ℤ}
use Rattle.lists.specs.Loop.{for, any, sum}
use Rattle.lists.proofs.Tests.{ltb_iff, leb_iff, eqb_iff, not_iff, or_imp}
use Rattle.lists.proofs.Loops.{for_ext, for_all, when_all, one_all, all_append, any_one, any_two}
use Rattle.lists.proofs.Blocks.{place_lt, place_split, for1_length, quotient, remainder, for_flat}
use Rattle.lists.proofs.Sums.{ind, sum_ext}
use Rattle.instance.specs.declared.Sizes.{Sizes}
use Rattle.instance.specs.Instance.{Instance, Edges, Endpoints}
use Rattle.formula.specs.Variables.{Literal, X, ¬X, index, variable_count}
use Rattle.formula.specs.Formula.{clauses}
use Rattle.formula.proofs.Variables.{index_lt}
use Rattle.plan.specs.Plan.{Row, plan_row, rests, cost}
use Rattle.plan.specs.Passing.{Passes}
use Rattle.plan.proofs.Rest.{rests_iff, rests_last, rests_later, cost_pairs}
use Rattle.valuation.specs.Valuation.{true?, named_plan, plan_valuation}
use Rattle.valuation.specs.Satisfying.{Valuation}
use Rattle.valuation.specs.Places.{Places}
use Rattle.valuation.proofs.Families.{Sat, satisfies_iff}
use Rattle.valuation.proofs.Entries.{named_size, written_at, written_size, written_valuation}
use Rattle.ceiling.specs.Tree.{inputs, outputs, variables, before, tree_clauses, tree_entries, count, entry_of, on, off}
use Rattle.ceiling.specs.Ceiling.{busy_number, root, moves, chain, counters, limit, added_clauses, added_variables, over_number, ceiling_variables, under_ceiling}
use Rattle.ceiling.specs.Encoded.{busy, busy_at, busy_entries, counter_entries, ceiling_valuation}
use Rattle.ceiling.proofs.Base.{named_base}
use Rattle.ceiling.proofs.Tree.{tree_one, tree_two, tree_inputs, Says, Means, at_most, means_outputs, means_sat, count_le}
use Rattle.ceiling.proofs.Entries.{clash, Part, part_whole, part_append, says_entry, says_for, tree_entries_length, entries_mean, Numbered, numbered_append, numbered_for, numbered_tree}

-- ---- sums in blocks
sum_split : (n m : ℕ) (f : ℕ → ℕ) → sum (n + m) f ≡ sum n f + sum m (λ i. f (n + i))
sum_split n zero f = rw add-zero (omega arith)
sum_split n (suc m) f = rw add-suc (omega (arith, sum_split n m f))

sum_blocks : (n c : ℕ) (f : ℕ → ℕ) → sum (n * c) f ≡ sum n (λ i. sum c (λ j. f (i * c + j)))
sum_blocks zero c f = rw zero-mul refl
sum_blocks (suc n) c f = rw (suc-mul, sum_split (n * c) c f, sum_blocks n c f)

sum_mono : (n : ℕ) (f g : ℕ → ℕ) → ((i : ℕ) → i < n → f i ≤ g i) → sum n f ≤ sum n g
sum_mono zero f g h = omega arith
sum_mono (suc n) f g h = omega (arith, sum_mono n f g (λ i l. h i (omega arith)), h n (le_refl (suc n)))

one_mono : (a b : Bool) → (T a → T b) → ind a ≤ cond b 1 0
one_mono true true f = omega arith
one_mono true false f = absurd (f tt)
one_mono false b f = omega arith

one_ind : (b : Bool) → ◌≡◌ {A = ℕ} (cond b 1 0) (ind b)
one_ind true = refl
one_ind false = refl

-- an agent rests from t on exactly where it keeps its vertex in step t and rests from then on
pub rests_step : (m : ℕ) (P : ℕ → Row) (a t : ℕ) → t < m → T (rests m P a t) ↔ ((P t a ≡ P (suc t) a) × T (rests m P a (suc t)))
rests_step m P a t l = (
  (λ h.
      let (v, r) = (rests_iff m P a t).0 h in
      (r t (omega arith) (omega arith) ∙ sym (r (suc t) (omega arith) (omega arith)), (rests_iff m P a (suc t)).1 (rests_later m P a t (suc t) (omega arith) (v, r)))),
  (λ (e, h).
      let (v, r) = (rests_iff m P a (suc t)).0 h in
      (rests_iff m P a t).1 (
        v,
        λ u q f.
            by_cases (dec_lt t u) (λ o. r u o f) (λ o. let z : u ≡ t = omega arith in ap (λ (w : ℕ). P w a) z ∙ e ∙ r (suc t) (omega arith) (omega arith)),
      )),
)

last_rests : (m : ℕ) (P : ℕ → Row) (a : ℕ) → T (rests m P a m)
last_rests m P a = (rests_iff m P a m).1 (rests_last m P a)

any_three : (p : Literal → Bool) (x y z : Literal) → T (any p (x ∷ y ∷ z ∷ [])) ↔ ((T (p x) → ⊥) → (T (p y) → ⊥) → T (p z))
any_three p x y z = (
  (λ h f. (any_two p y z).0 ((or_imp (p x) _).0 h f)),
  (λ h. (or_imp (p x) _).1 (λ f. (any_two p y z).1 (h f))),
)

-- ---- what the added clauses say of B, at the places of a plan
module _ (s : Sizes) (h : Literal → Bool) (p : List ℕ) (w : Places s h (plan_row s p)) where
  open s use {n, k, m}

  abbrev P : ℕ → Row
  P = plan_row s p

  module _ (clash : (z : ℕ) → T (h (on z)) → T (h (off z)) → ⊥) (mv : Sat h (moves s)) (wt : Sat h (chain s)) where
    -- an agent that is not yet at rest has its B true: by the last steps first
    busy_true : (d t a : ℕ) → t + d ≡ m → a < k → T (busy s p t a) → T (h (on (busy_number s t a)))
    unfolding moves chain
    busy_true zero t a e l b =
        let q : t ≡ m = omega arith in
        absurd ((not_iff (rests m P a m)).0 (subst (λ (u : ℕ). T (busy s p u a)) q b) (last_rests m P a))
    busy_true (suc d) t a e l b =
        let lt : t < m = omega arith in
        let i = w.inside t a (omega arith) l in
        by_cases (ℕ_discrete (P t a) (P (suc t) a))
        (λ keep.
        let later : T (busy s p (suc t) a) = (not_iff (rests m P a (suc t))).1 (λ r. (not_iff (rests m P a t)).0 b ((rests_step m P a t lt).1 (keep, r))) in
        let next = busy_true d (suc t) a (omega arith) l later in
        let last : suc t < m =
        by_cases (dec_lt (suc t) m) (λ o. o)
        (λ o. let q : suc t ≡ m = omega arith in absurd ((not_iff (rests m P a m)).0 (subst (λ (u : ℕ). T (busy s p u a)) q later) (last_rests m P a))) in
        (simp (for_all, one_all, any_two) at wt) t (omega arith) a l (λ f. clash _ next f))
        (λ moves.
        (simp (for_all, one_all, any_three) at mv) t lt a l (P t a) i
        (λ f. (w.elsewhere t a (P t a) (omega arith) l i).0 f refl)
        (λ f. moves ((w.here (suc t) a (P t a) (omega arith) l i).0 f)))

    pub cost_counted : cost s p ≤ count (λ z. h (on z)) (variable_count s) (m * k)
    cost_counted =
        rw (cost_pairs s p, sum_blocks m k (λ j. cond (h (on (variable_count s + suc j))) 1 0))
        (sum_mono m _ _ (λ t l. sum_mono k _ _ (λ a r. one_mono (busy s p t a) (h (on (busy_number s t a))) (busy_true (m - t) t a (omega arith) r))))

  -- where B says that the agent is not yet at rest, these clauses hold
  module _ (says : (t a : ℕ) → t < m → a < k → Says h (busy_number s t a) (busy s p t a)) where
    pub moves_hold : Sat h (moves s)
    unfolding moves
    moves_hold =
        simp (for_all, one_all, any_three) (λ t l a r v q f g.
        (says t a l r).0 ((not_iff (rests m P a t)).1 (λ z.
        f ((w.elsewhere t a v (omega arith) r q).1 (λ e. g ((w.here (suc t) a v (omega arith) r q).1 (e ∙ ((rests_step m P a t l).0 z).0)))))))

    pub chain_hold : Sat h (chain s)
    unfolding chain
    chain_hold =
        simp (for_all, one_all, any_two) (λ t l a r f.
        (says t a (omega arith) r).0 ((not_iff (rests m P a t)).1 (λ z.
        f ((says (suc t) a (omega arith) r).1 (λ y. (not_iff (rests m P a (suc t))).0 y ((rests_step m P a t (omega arith)).0 z).1)))))

module _ (s : Sizes) (c : ℕ) (h : Literal → Bool) where
  open s use {k, m}

  pub added_iff : Sat h (added_clauses s c) ↔ (((Sat h (moves s) × Sat h (chain s)) × Sat h (counters s c)) × Sat h (limit s c))
  unfolding added_clauses
  added_iff = simp all_append ((λ t. t), (λ t. t))

  limit_iff : Sat h (limit s c) ↔ (c < m * k → T (h (off (before c (root s) (variable_count s) (variable_count s + m * k) + suc c))))
  unfolding limit
  limit_iff = simp (when_all, one_all, any_one, ltb_iff) ((λ t. t), (λ t. t))

-- under a truth where no variable is true with its negative, a variable that says b is true exactly where b is
pub says_iff : (h : Literal → Bool) → ((z : ℕ) → T (h (on z)) → T (h (off z)) → ⊥) → (z : ℕ) (b : Bool) → Says h z b
    → (T (h (on z)) ↔ T b) × (T (h (off z)) ↔ (T b → ⊥))
says_iff h clash z true w = (((λ t. tt), (λ t. w.0 tt)), ((λ t f. clash z (w.0 tt) t), (λ f. absurd (f tt))))
says_iff h clash z false w = (((λ t. clash z t (w.1 (λ x. x))), (λ t. absurd t)), ((λ t f. f), (λ f. w.1 (λ x. x))))

-- ---- from a satisfying valuation of all variables to a plan
module _ (I : Instance) (ends : Endpoints I) (edges : Edges I) (c : ℕ) where
  open I use {sizes}
  open sizes use {n, k, m}

  module _ (es : List ℤ) (w : Valuation (under_ceiling c I).variables es) (h : Sat (true? es) (under_ceiling c I).clauses) where
    base : Sat (true? es) (clauses I) × Sat (true? es) (added_clauses sizes c)
    base = (all_append (any (true? es)) (clauses I) (added_clauses sizes c)).0 h

    pub ceiling_places : Places sizes (true? es) (plan_row sizes (named_plan sizes es))
    unfolding ceiling_variables
    ceiling_places = named_base I ends edges (ceiling_variables sizes c) (omega arith) es w base.0

    pub ceiling_passes : Passes I (named_plan sizes es)
    ceiling_passes =
        record {
          size = named_size sizes es;
          inside = λ i l.
              let (t, a, x, y, e) = place_split (suc m) k i l in
              rw e (ceiling_places.inside t a x y);
          leads = (satisfies_iff I ends edges (plan_row sizes (named_plan sizes es)) (true? es) ceiling_places).0 base.0;
        }

    pub ceiling_cost : cost sizes (named_plan sizes es) ≤ c
    unfolding counters
    ceiling_cost =
        let (((mv, wt), ct), lm) = (added_iff sizes c (true? es)).0 base.1 in
        let counted = cost_counted sizes (true? es) (named_plan sizes es) ceiling_places (clash _ es w) mv wt in
        let most = count_le (λ z. true? es (on z)) (variable_count sizes) (m * k) in
        by_cases (dec_lt c (m * k))
        (λ l.
        let e : inputs (root sizes) ≡ m * k = tree_inputs (m * k) (omega arith) in
        let g = rw e at (at_most c (true? es) (clash _ es w) (root sizes) (variable_count sizes) (variable_count sizes + m * k) (rw e l) ct ((limit_iff sizes c (true? es)).0 lm l)) in
        omega arith)
        (λ l. omega arith)

-- ---- from a passing plan to a satisfying valuation of all variables
module _ (s : Sizes) (p : List ℕ) where
  open s use {n, k, m}

  abbrev N : ℕ
  N = variable_count s

  pub busy_at_lem : (t a : ℕ) → a < k → busy_at s p (busy_number s t a) ≡ busy s p t a
  unfolding busy_at
  busy_at_lem t a l =
      let e : variable_count s + suc (t * k + a) - suc (variable_count s) ≡ t * k + a = omega arith in
      rw (e, quotient t k a l, remainder t k a l)

  -- the B one after another
  pub busy_flat : busy_entries s p ≡ (for (m * k) λ i. entry_of (busy_at s p (N + suc i)) (N + suc i) ∷ [])
  unfolding busy_entries
  busy_flat =
      for_ext m _ _ (λ t l. for_ext k _ _ (λ a r. ap (λ (b : Bool). entry_of b (busy_number s t a) ∷ []) (sym (busy_at_lem t a r))))
      ∙ for_flat m k (λ t a. entry_of (busy_at s p (busy_number s t a)) (busy_number s t a) ∷ [])
      ∙ for_ext (m * k) _ _ (λ i l. ap (λ (j : ℕ). entry_of (busy_at s p (N + suc j)) (N + suc j) ∷ []) (div-add-mod' i k))

  pub busy_length : length (busy_entries s p) ≡ m * k
  busy_length = rw busy_flat (for1_length (m * k) _)

  -- the count of the B is the cost
  pub count_cost : count (busy_at s p) N (m * k) ≡ cost s p
  count_cost =
      sum_blocks m k (λ j. cond (busy_at s p (N + suc j)) 1 0)
      ∙ sum_ext m _ _ (λ t l. sum_ext k _ _ (λ a r. ap (λ (b : Bool). cond b 1 0) (busy_at_lem t a r) ∙ one_ind (busy s p t a)))
      ∙ sym (cost_pairs s p)

  module _ (c : ℕ) where
    abbrev es : List ℤ
    es = ceiling_valuation s p c

    abbrev tree : List ℤ
    tree = tree_entries (busy_at s p) c (root s) N (N + m * k)

    pub ceiling_valuation_lem : Valuation (ceiling_variables s c) es
    unfolding ceiling_valuation counter_entries ceiling_variables added_variables
    ceiling_valuation_lem =
        let a = written_size s p in
        let b = busy_length in
        let d = tree_entries_length c (busy_at s p) (root s) N (N + m * k) in
        let v = written_valuation s p in
        let first : Numbered 0 (plan_valuation s p) = λ j l. let e : 0 + j ≡ j = omega arith in rw e (v.each j (omega arith)) in
        let second : Numbered N (busy_entries s p) = rw busy_flat (numbered_for N (m * k) (λ j. busy_at s p (N + suc j))) in
        let e : 0 + length (plan_valuation s p) ≡ N = omega arith in
        let e' : 0 + length (plan_valuation s p ++ busy_entries s p) ≡ N + m * k = omega (arith, length-append (plan_valuation s p) (busy_entries s p)) in
        let whole : Numbered 0 (plan_valuation s p ++ busy_entries s p ++ tree) =
        numbered_append 0 (plan_valuation s p ++ busy_entries s p) _
        (numbered_append 0 (plan_valuation s p) (busy_entries s p) first (rw e second))
        (rw e' (numbered_tree c (busy_at s p) (root s) N (N + m * k))) in
        let l₁ = length-append (plan_valuation s p) (busy_entries s p) in
        let l₂ = length-append (plan_valuation s p ++ busy_entries s p) tree in
        let z : length (plan_valuation s p ++ busy_entries s p ++ tree) ≡ N + (m * k + variables c (root s)) = omega arith in
        record {
          size = z;
          each = λ i l. let q : 0 + i ≡ i = omega arith in rw q at (whole i (omega arith));
        }

    -- where its three parts stand
    part_base : Part es 0 (plan_valuation s p)
    unfolding ceiling_valuation
    part_base = (part_append es 0 _ _ (part_append es 0 _ _ (part_whole es)).0).0

    part_busy : Part es N (for (m * k) λ i. entry_of (busy_at s p (N + suc i)) (N + suc i) ∷ [])
    unfolding ceiling_valuation
    part_busy =
        let e : 0 + length (plan_valuation s p) ≡ N = omega (arith, written_size s p) in
        subst (λ (ws : List ℤ). Part es N ws) busy_flat
        (rw e at (part_append es 0 (plan_valuation s p) (busy_entries s p) (part_append es 0 _ _ (part_whole es)).0).1)

    part_tree : Part es (N + m * k) tree
    unfolding ceiling_valuation counter_entries
    part_tree =
        let e : 0 + length (plan_valuation s p ++ busy_entries s p) ≡ N + m * k = omega (arith, written_size s p, busy_length, length-append (plan_valuation s p) (busy_entries s p)) in
        rw e at (part_append es 0 (plan_valuation s p ++ busy_entries s p) _ (part_whole es)).1

    pub says_busy : (i : ℕ) → i < m * k → Says (true? es) (N + suc i) (busy_at s p (N + suc i))
    says_busy i l = rw sub-one at (says_for es N (m * k) (λ j. busy_at s p (N + suc j)) part_busy (suc i) (omega arith) (omega arith))

    -- what they say
    pub says_B : (t a : ℕ) → t < m → a < k → Says (true? es) (busy_number s t a) (busy s p t a)
    says_B t a l r = rw (busy_at_lem t a r) at (says_busy (t * k + a) (place_lt m k t a l r))

    pub ceiling_written : ((t a : ℕ) → t < suc m → a < k → plan_row s p t a < n) → Places s (true? es) (plan_row s p)
    ceiling_written inside' =
        record {
          inside = inside';
          here = λ t a v x y z. Iff.trans (says t a v x y z).0 (Iff.trans (eqb_iff (plan_row s p t a) v) (sym, sym));
          elsewhere = λ t a v x y z. Iff.trans (says t a v x y z).1 ((λ f e. f ((eqb_iff (plan_row s p t a) v).1 (sym e))), (λ f e. f (sym ((eqb_iff (plan_row s p t a) v).0 e))));
        }
      where
        says : (t a v : ℕ) → t < suc m → a < k → v < n
            → (T (true? es (X s t a v)) ↔ T (eqb (plan_row s p t a) v)) × (T (true? es (¬X s t a v)) ↔ (T (eqb (plan_row s p t a) v) → ⊥))
        says t a v x y z =
            let l = index_lt s t a v x y z in
            let r = part_base.room in
            let e : 0 + index s t a v ≡ index s t a v = omega arith in
            says_iff (true? es) (clash _ es ceiling_valuation_lem) (suc (index s t a v)) (eqb (plan_row s p t a) v)
            (says_entry es (index s t a v) (eqb (plan_row s p t a) v) (omega (arith, written_size s p))
            ((rw e at (part_base.same (index s t a v) (omega (arith, written_size s p)))) ∙ written_at s p t a v x y z))

    -- each node's output i says that at least i of its inputs are true
    pub ceiling_means : 0 < m * k → Means c (true? es) (busy_at s p) (root s) N (N + m * k)
    ceiling_means o =
        let e = tree_inputs (m * k) o in
        entries_mean c (busy_at s p) es (root s) N (N + m * k) (λ j h. says_busy j (omega arith)) part_tree

    -- the added clauses hold where the cost is at most c
    pub added_hold : ((t a : ℕ) → t < suc m → a < k → plan_row s p t a < n) → cost s p ≤ c → Sat (true? es) (added_clauses s c)
    unfolding counters outputs tree_clauses
    added_hold inside' l =
        let w = ceiling_written inside' in
        (added_iff s c (true? es)).1 (
          (
            (moves_hold s (true? es) p w says_B, chain_hold s (true? es) p w says_B),
            by_cases (dec_lt 0 (m * k))
                (λ o. means_sat c (true? es) (busy_at s p) (root s) N (N + m * k) (ceiling_means o))
                (λ o. rw (tree_one (m * k) (omega arith)) tt),
          ),
          (limit_iff s c (true? es)).1 (λ o.
              let e : inputs (root s) ≡ m * k = tree_inputs (m * k) (omega arith) in
              (means_outputs c (true? es) (busy_at s p) (root s) N (N + m * k) (ceiling_means (omega arith)) (suc c) (omega arith) (omega arith)
              ).1 (λ t. let z = rw e at ((leb_iff (suc c) (count (busy_at s p) N (inputs (root s)))).0 t) in omega (arith, count_cost))),
        )

-- ---- root output c + 1 is the last variable, where it is forbidden
pub over_last : (s : Sizes) (c : ℕ) → c < s.m * s.k → over_number s c ≡ ceiling_variables s c
unfolding ceiling_variables added_variables before variables outputs inputs
over_last s c l =
    let x : ℕ = s.m * s.k in
    by_cases (dec_lt x 2)
    (λ h. rw (tree_one x h) (omega arith))
    (λ h. rw (tree_two x (omega arith), tree_inputs (x / 2) (omega arith), tree_inputs (x - x / 2) (omega arith)) (omega arith))

-- where no input is too many, nothing is forbidden
pub no_limit : (s : Sizes) (c : ℕ) → s.m * s.k ≤ c → limit s c ≡ []
unfolding limit
no_limit s c l = rw (le-ltb c (s.m * s.k) l)
