-- A plan held and a plan reversed: what rows they have, that these lead where they should, and the cost of a held plan.
use mathlib.Core.Path.{◌≡◌, refl, sym, ◌∙◌, ap, subst}
use mathlib.Core.Logic.{inl, inr, ⊎_elim, by_cases}
use mathlib.Core.List.{List, ◌++◌}
use mathlib.Core.Bool.{Bool, true, false}
use Prim.Native.Nat.{ℕ, suc, ◌+◌, ◌*◌, ◌-◌, ◌≤◌, ◌<◌}
use native.Mathlib.Nat.{suc-mul, mul-le-mul_right, le_refl}
use native.Mathlib.Decide.{ℕ_discrete}
use native.Mathlib.Omega.{arith}
use lib.ListN.{length, get_or, length-append, get_or-append}
use lib.Seq.{get_or-append-add}
use Rattle.lists.specs.Loop.{for, sum}
use Rattle.lists.proofs.Loops.{for_length, for_get_or}
use Rattle.lists.proofs.Blocks.{place_lt, place_split}
use Rattle.lists.proofs.Sums.{sum_ext}
use Rattle.lists.proofs.Slices.{part_length, part_get_or}
use Rattle.instance.specs.declared.Sizes.{Sizes}
use Rattle.instance.specs.Instance.{Instance, following, Edge, Endpoints, AllBound}
use Rattle.instance.specs.Exchanged.{Exchanged}
use Rattle.plan.specs.Plan.{Row, plan_bytes, plan_row, rest_time}
use Rattle.plan.specs.Passing.{Second, ValidStep, Leads, Passes}
use Rattle.plan.specs.Reversing.{row_bytes, held_plan, reversed_plan}
use Rattle.plan.proofs.Rows.{plan_ext}
use Rattle.plan.proofs.Rest.{rest_same, rest_keeps}
use Rattle.plan.proofs.Steps.{Apart, rows_apart}

-- ---- the bytes of a plan of k agents and makespan m
module _ (k m : ℕ) (p : List ℕ) (size : length p ≡ suc m * k) where
  row_length : (t : ℕ) → t ≤ m → length (row_bytes k p t) ≡ k
  row_length t l =
      let h : suc t * k ≤ suc m * k = mul-le-mul_right k (omega arith) in
      part_length p (t * k) k (omega (arith, suc-mul t k, size))

  row_at : (t a : ℕ) → a < k → get_or (row_bytes k p t) a 0 ≡ get_or p (t * k + a) 0
  row_at t a l = part_get_or p (t * k) k a 0 l

  -- the plan, and behind it its row u
  behind_size : (u : ℕ) → u ≤ m → length (p ++ row_bytes k p u) ≡ suc (suc m) * k
  behind_size u l = length-append p (row_bytes k p u) ∙ omega (arith, size, row_length u l, suc-mul (suc m) k)

  before_at : (q : List ℕ) (t a : ℕ) → t ≤ m → a < k → get_or (p ++ q) (t * k + a) 0 ≡ get_or p (t * k + a) 0
  before_at q t a l r = get_or-append p q 0 (t * k + a) (omega (arith, size, place_lt (suc m) k t a (omega arith) r))

  behind_at : (u a : ℕ) → a < k → get_or (p ++ row_bytes k p u) (suc m * k + a) 0 ≡ get_or p (u * k + a) 0
  behind_at u a l =
      ap (λ (x : ℕ). get_or (p ++ row_bytes k p u) (x + a) 0) (sym size) ∙ get_or-append-add p (row_bytes k p u) a 0 ∙ row_at u a l

  pub held_size : length (held_plan k m p) ≡ suc (suc m) * k
  unfolding held_plan
  held_size = behind_size _ (omega arith)

  pub held_at : (t a : ℕ) → t ≤ m → a < k → get_or (held_plan k m p) (t * k + a) 0 ≡ get_or p (t * k + a) 0
  unfolding held_plan
  held_at t a l r = before_at _ t a l r

  pub held_last_lem : (a : ℕ) → a < k → get_or (held_plan k m p) (suc m * k + a) 0 ≡ get_or p (m * k + a) 0
  unfolding held_plan
  held_last_lem a l = behind_at _ a l

  -- a bound on the bytes of the plan is one on those of the held plan
  pub held_inside : (n : ℕ) → ((i : ℕ) → i < suc m * k → get_or p i 0 < n) → (i : ℕ) → i < suc (suc m) * k → get_or (held_plan k m p) i 0 < n
  held_inside n h i l =
      let (t, a, x, r, e) = place_split (suc (suc m)) k i l in
      by_cases (ℕ_discrete t (suc m))
      (λ q. rw (e, q, held_last_lem a r) (h (m * k + a) (place_lt (suc m) k m a (le_refl (suc m)) r)))
      (λ d. rw (e, held_at t a (omega arith) r) (h (t * k + a) (place_lt (suc m) k t a (omega arith) r)))

  -- m + 1 rows of the plan in any order, row f t as row t
  rows_size : (f : ℕ → ℕ) → ((t : ℕ) → t < suc m → f t ≤ m) → length (for (suc m) λ t. row_bytes k p (f t)) ≡ suc m * k
  rows_size f h = for_length (suc m) k (λ t. row_bytes k p (f t)) (λ t l. row_length (f t) (h t l))

  rows_at : (f : ℕ → ℕ) → ((t : ℕ) → t < suc m → f t ≤ m)
      → (t a : ℕ) → t ≤ m → a < k → get_or (for (suc m) λ t. row_bytes k p (f t)) (t * k + a) 0 ≡ get_or p (f t * k + a) 0
  rows_at f h t a l r =
      for_get_or (suc m) k (λ t. row_bytes k p (f t)) 0 (λ u o. row_length (f u) (h u o)) t a (omega arith) r ∙ row_at (f t) a r

  pub reversed_size : length (reversed_plan k m p) ≡ suc m * k
  unfolding reversed_plan
  reversed_size = rows_size _ (λ t l. omega arith)

  pub reversed_at : (t a : ℕ) → t ≤ m → a < k → get_or (reversed_plan k m p) (t * k + a) 0 ≡ get_or p ((m - t) * k + a) 0
  unfolding reversed_plan
  reversed_at = rows_at _ (λ t l. omega arith)

  pub reversed_inside : (n : ℕ) → ((i : ℕ) → i < suc m * k → get_or p i 0 < n) → (i : ℕ) → i < suc m * k → get_or (reversed_plan k m p) i 0 < n
  reversed_inside n h i l =
      let (t, a, x, r, e) = place_split (suc m) k i l in
      rw (e, reversed_at t a (omega arith) r) (h ((m - t) * k + a) (place_lt (suc m) k (m - t) a (omega arith) r))

-- reversing again restores the plan
pub reversed_twice : (k m : ℕ) (p : List ℕ) → length p ≡ suc m * k → reversed_plan k m (reversed_plan k m p) ≡ p
reversed_twice k m p size =
    let q = reversed_plan k m p in
    let sized : length q ≡ suc m * k = reversed_size k m p size in
    plan_ext k m (reversed_plan k m q) p (reversed_size k m q sized) size
    (λ t a l r.
    let back : m - (m - t) ≡ t = omega arith in
    reversed_at k m q sized t a (omega arith) r
    ∙ reversed_at k m p size (m - t) a (omega arith) r
    ∙ ap (λ (u : ℕ). get_or p (u * k + a) 0) back)

-- ---- steps. The rule enters by condition 2 alone.
module _ (I : Instance) where
  open I use {sizes}
  open sizes use {k}

  -- standing still is a valid step
  second_held : (row : Row) (f : Bool) → Second I row row f
  second_held row false = λ a l d. absurd (d refl)
  second_held row true = λ a b l r (d, e, e'). d e

  step_held : (row : Row) → Apart k row → ValidStep I row row
  step_held row o = record { crosses = λ a l. inl refl; second = second_held row (following sizes); apart = o }

  -- A step taken back. Under rule 1 nobody stays on the vertex that an agent goes back to, since agents stood apart, and nobody came to
  -- it, since that agent stood there.
  second_back : (here next : Row) → Apart k here → (f : Bool) → Second I here next f → Second I next here f
  second_back here next o false h = λ a l d b r e.
      by_cases (ℕ_discrete (here b) (next b))
      (λ stays. by_cases (ℕ_discrete b a) (λ same. d (sym (ap next same) ∙ e)) (λ other. o b a r l other (stays ∙ e)))
      (λ moves. h b r moves a l (sym e))
  second_back here next o true h = λ a b l r (d, e, e'). h a b l r ((λ z. d (sym e' ∙ sym z ∙ e)), sym e', sym e)

  edge_back : (v w : ℕ) → Edge I v w → Edge I w v
  edge_back v w (j, l, ends) = (j, l, ⊎_elim inr inl ends)

  step_back : (here next : Row) → Apart k here → ValidStep I here next → ValidStep I next here
  step_back here next o w =
      record {
        crosses = λ a l. ⊎_elim (λ e. inl (sym e)) (λ e. inr (edge_back (here a) (next a) e)) (w.crosses a l);
        second = second_back here next o (following sizes) w.second;
        apart = o;
      }

-- J has the edges, the agents and the rule of I
pub record SameMap (I J : Instance) : Type 0 where
  pub agents : J.sizes.k ≡ I.sizes.k
  pub rule : J.sizes.rule ≡ I.sizes.rule
  pub edge : (v w : ℕ) → Edge I v w → Edge J v w

-- so has the instance with starts and goals exchanged
pub exchanged_map : (I J : Instance) → Exchanged I J → SameMap I J
exchanged_map I J x =
    record {
      agents = ap (λ (s : Sizes). s.k) x.sizes;
      rule = ap (λ (s : Sizes). s.rule) x.sizes;
      edge = λ v w (j, l, ends). (
        j,
        rw x.sizes l,
        ⊎_elim (λ (lo, hi). inl (x.lows j l ∙ lo, x.highs j l ∙ hi)) (λ (lo, hi). inr (x.lows j l ∙ lo, x.highs j l ∙ hi)) ends,
      );
    }

module _ (I J : Instance) (same : SameMap I J) where
  open I use {sizes}
  open sizes use {k, m}

  in_I : (a : ℕ) → a < J.sizes.k → a < k
  in_I a l = omega (arith, same.agents)

  second_same : (here next row after : Row) → ((a : ℕ) → a < k → row a ≡ here a) → ((a : ℕ) → a < k → after a ≡ next a)
      → (f : Bool) → Second I here next f → Second J row after f
  second_same here next row after e e' false h = λ a l d b r z.
      h a (in_I a l) (λ y. d (e a (in_I a l) ∙ y ∙ sym (e' a (in_I a l)))) b (in_I b r) (sym (e b (in_I b r)) ∙ z ∙ e' a (in_I a l))
  second_same here next row after e e' true h = λ a b l r (d, x, y).
      h a b (in_I a l) (in_I b r) (
        (λ z. d (e a (in_I a l) ∙ z ∙ sym (e b (in_I b r)))),
        sym (e' a (in_I a l)) ∙ x ∙ e b (in_I b r),
        sym (e' b (in_I b r)) ∙ y ∙ e a (in_I a l),
      )

  -- a step that is valid in I is valid in J, for rows that have the same vertices
  step_same : (here next row after : Row) → ((a : ℕ) → a < k → row a ≡ here a) → ((a : ℕ) → a < k → after a ≡ next a)
      → ValidStep I here next → ValidStep J row after
  step_same here next row after e e' w =
      record {
        crosses = λ a l.
            let x = e a (in_I a l) in
            let y = e' a (in_I a l) in
            ⊎_elim (λ z. inl (x ∙ z ∙ sym y)) (λ z. inr (rw (x, y) (same.edge (here a) (next a) z))) (w.crosses a (in_I a l));
        second = rw same.rule (second_same here next row after e e' (following sizes) w.second);
        apart = λ a b l r d z. w.apart a b (in_I a l) (in_I b r) d (sym (e' a (in_I a l)) ∙ z ∙ e' b (in_I b r));
      }

  module _ (ends : Endpoints I) (P Q : ℕ → Row) (w : Leads I P) where
    apart : (t : ℕ) → t ≤ m → Apart k (P t)
    apart t l = rows_apart I ends P w.starts t (λ u h. w.steps u (omega arith))

    -- held: J has the starts and the goals of I and one time more, in which Q repeats row m of P
    pub held_leads : J.sizes.m ≡ suc m → ((a : ℕ) → a < k → J.start a ≡ I.start a) → ((a : ℕ) → a < k → J.goal a ≡ I.goal a)
        → ((t a : ℕ) → t ≤ m → a < k → Q t a ≡ P t a) → ((a : ℕ) → a < k → Q (suc m) a ≡ P m a) → Leads J Q
    held_leads em es eg e last =
        record {
          starts = λ a l. e 0 a (omega arith) (in_I a l) ∙ w.starts a (in_I a l) ∙ sym (es a (in_I a l));
          steps = λ t l.
              by_cases (ℕ_discrete t m)
              (λ q. subst (λ (u : ℕ). ValidStep J (Q u) (Q (suc u))) (sym q) (step_same (P m) (P m) (Q m) (Q (suc m)) (λ a r. e m a (le_refl m) r) last (step_held I (P m) (apart m (le_refl m)))))
              (λ d.
              let o : t < m = omega (arith, em) in
              step_same (P t) (P (suc t)) (Q t) (Q (suc t)) (λ a r. e t a (omega arith) r) (λ a r. e (suc t) a o r) (w.steps t o));
          goals = λ a l h.
              let r = in_I a l in
              ap (λ (t : ℕ). Q t a) em ∙ last a r ∙ w.goals a r (λ z. h (eg a r ∙ z)) ∙ sym (eg a r);
        }

    -- reversed: J has the starts and the goals of I exchanged, and row t of Q is row m - t of P
    pub back_leads : J.sizes.m ≡ m → ((a : ℕ) → a < k → J.start a ≡ I.goal a) → ((a : ℕ) → a < k → J.goal a ≡ I.start a)
        → AllBound I → ((t a : ℕ) → t ≤ m → a < k → Q t a ≡ P (m - t) a) → Leads J Q
    back_leads em es eg bound e =
        record {
          starts = λ a l.
              let r = in_I a l in
              let last : m - 0 ≡ m = omega arith in
              e 0 a (omega arith) r ∙ ap (λ (t : ℕ). P t a) last ∙ w.goals a r (bound a r) ∙ sym (es a r);
          steps = λ t l.
              let o : t < m = omega (arith, em) in
              let u : ℕ = m - suc t in
              let next : m - t ≡ suc u = omega arith in
              step_same (P (suc u)) (P u) (Q t) (Q (suc t)) (λ a r. e t a (omega arith) r ∙ ap (λ (x : ℕ). P x a) next) (λ a r. e (suc t) a o r)
              (step_back I (P u) (P (suc u)) (apart u (omega arith)) (w.steps u (omega arith)));
          goals = λ a l h.
              let r = in_I a l in
              let first : m - m ≡ 0 = omega arith in
              ap (λ (t : ℕ). Q t a) em ∙ e m a (le_refl m) r ∙ ap (λ (t : ℕ). P t a) first ∙ w.starts a r ∙ sym (eg a r);
        }

-- the reversed plan passes for the exchanged instance
pub reversed_passes : (I J : Instance) → Exchanged I J → Endpoints I → AllBound I → (p : List ℕ) → Passes I p
    → Passes J (reversed_plan I.sizes.k I.sizes.m p)
reversed_passes I J x ends bound p w =
    let k = I.sizes.k in
    let m = I.sizes.m in
    let q = reversed_plan k m p in
    let e = sym x.sizes in
    record {
      size = reversed_size k m p w.size ∙ ap plan_bytes e;
      inside = subst (λ (s : Sizes). (i : ℕ) → i < plan_bytes s → get_or q i 0 < s.n) e (reversed_inside k m p w.size I.sizes.n w.inside);
      leads =
          back_leads I J (exchanged_map I J x) ends (plan_row I.sizes p) (plan_row J.sizes q) w.leads
          (ap (λ (s : Sizes). s.m) x.sizes) x.starts x.goals bound
          (subst (λ (s : Sizes). (t a : ℕ) → t ≤ m → a < k → plan_row s q t a ≡ plan_row I.sizes p (m - t) a) e (reversed_at k m p w.size));
    }

-- ---- holding adds nothing to the cost
pub held_cost_lem : (k m : ℕ) (P Q : ℕ → Row) → ((t a : ℕ) → t ≤ m → a < k → Q t a ≡ P t a) → ((a : ℕ) → a < k → Q (suc m) a ≡ P m a)
    → sum k (rest_time (suc m) Q) ≡ sum k (rest_time m P)
held_cost_lem k m P Q e last =
    sum_ext k (rest_time (suc m) Q) (rest_time m P)
    (λ a l. sym (rest_keeps m Q a (e m a (le_refl m) l ∙ sym (last a l))) ∙ rest_same m Q P a (λ t h. e t a h l))
