-- The rows of a plan alone: the lowest vertex that two agents share, one agent more at a time; and an agent that fails condition 2 under rule 1.
use mathlib.Core.Path.{◌≡◌, refl, sym, ◌∙◌, ap, subst}
use mathlib.Core.List.{List}
use mathlib.Core.Logic.{◌↔◌, ◌≢◌, by_cases}
use mathlib.Core.Bool.{Bool, true, false, not, ◌||◌}
use Prim.Native.Nat.{ℕ, ◌+◌, ◌-◌, ◌≤◌, ◌<◌}
use native.Mathlib.Decide.{dec_lt, ℕ_discrete}
use native.Mathlib.Omega.{arith}
use borrow.Author.Tests.{ne_eqb}
use lib.ListN.{length, get_or, take, drop}
use lib.Seq.{get_or-take, length-take-le}
use Rattle.std.specs.Prelude.{Option, None, Some, IsSome}
use Rattle.std.specs.Option.{is_some, unwrap_or}
use lib.Dec.{T, eqb}
use Rattle.lists.specs.Loop.{every}
use Rattle.instance.specs.declared.Sizes.{Sizes}
use Rattle.plan.specs.Plan.{Row, condition, condition2}
use Rattle.lists.proofs.Slices.{part_length, part_get_or}
use Rattle.lists.proofs.Tests.{or_imp, not_iff, eqb_iff, every_iff}
use Rattle.answers.specs.Fault.{FirstFault, FirstFailing}
use Rattle.answers.proofs.Faults.{fault_ext, failing_map}
use Rattle.satisfaction.specs.Rows.{Lowest, LowestShared}

-- a first that fails is one, where an item is known to fail
pub found : (n : ℕ) (test : ℕ → Bool) (r : Option ℕ) → FirstFailing n test r → (i : ℕ) → i < n → (T (test i) → ⊥) → IsSome r
found n test None f i l h = absurd (h (f.before i l))
found n test (Some x) f i l h = refl

-- whether one of the first n numbers is x
module _ (n : ℕ) (P : ℕ → ℕ) (x : ℕ) where
  one_shares : (r : Option ℕ) → FirstFailing n (λ i. not (eqb (P i) x)) r → true ≡ is_some r → (i : ℕ) × (i < n) × (P i ≡ x)
  one_shares None f e = absurd (subst T e tt)
  one_shares (Some i) (l, f) e = (i, l, by_cases (ℕ_discrete (P i) x) (λ q. q) (λ q. absurd (f.here l (simp (not_iff, eqb_iff) q))))

  none_shares : (r : Option ℕ) → FirstFailing n (λ i. not (eqb (P i) x)) r → false ≡ is_some r → (i : ℕ) → i < n → P i ≡ x → ⊥
  none_shares None f e i l = simp (not_iff, eqb_iff) at (f.before i l)
  none_shares (Some j) f e i l = absurd (subst T (sym e) tt)

-- a row of bytes that are those of P
module _ (k : ℕ) (here : List ℕ) (P : ℕ → ℕ) (h : (length here ≡ k) × ((a : ℕ) → a < k → get_or here a 0 ≡ P a)) where
  pub on_row : (x : ℕ) (r : Option ℕ) → FirstFailing (length here) (λ a. not (eqb (get_or here a 0) x)) r → FirstFailing k (λ a. not (eqb (P a) x)) r
  on_row x r f =
      failing_map r (λ i g. fault_ext (λ a l. ap (λ (y : ℕ). not (eqb y x)) (h.1 a l)) g)
      (subst (λ (n : ℕ). FirstFailing n (λ a. not (eqb (get_or here a 0) x)) r) h.0 f)

  -- the agents behind agent a
  pub on_rest : (a : ℕ) → a < k → (x : ℕ) (r : Option ℕ)
      → FirstFailing (length (take (length here - (a + 1)) (drop (a + 1) here))) (λ i. not (eqb (get_or (take (length here - (a + 1)) (drop (a + 1) here)) i 0) x)) r
      → FirstFailing (k - a - 1) (λ i. not (eqb (P (a + 1 + i)) x)) r
  on_rest a l x r f =
      let rest : List ℕ = take (length here - (a + 1)) (drop (a + 1) here) in
      let e : length rest ≡ k - a - 1 = omega (arith, part_length here (a + 1) (length here - (a + 1)) (omega (arith, h.0)), h.0) in
      failing_map r (λ i g. fault_ext (λ b o. ap (λ (y : ℕ). not (eqb y x)) (part_get_or here (a + 1) (length here - (a + 1)) b 0 (omega (arith, h.0)) ∙ h.1 (a + 1 + b) (omega arith))) g)
      (subst (λ (n : ℕ). FirstFailing n (λ i. not (eqb (get_or rest i 0) x)) r) e f)

  same : (n r : ℕ) → Lowest k (λ a. get_or here a 0) n r → Lowest k P n r
  same n r f =
      record {
        within = f.within;
        before = λ a b o l e.
            let ea = h.1 a (omega arith) in
            let eb = h.1 b l in
            let q : get_or here a 0 ≡ get_or here b 0 = ea ∙ e ∙ sym eb in
            omega (arith, f.before a b o l q);
        here = λ l. let (a, b, o, lb, e, e') = f.here l in (a, b, o, lb, sym (h.1 a (omega arith)) ∙ e, sym (h.1 b lb) ∙ e');
      }

  pub lowest_row : (n : ℕ) (r : Option ℕ) → LowestShared (length here) (λ a. get_or here a 0) n r → LowestShared k P n r
  lowest_row n None f = same n n (subst (λ (j : ℕ). Lowest j (λ a. get_or here a 0) n n) h.0 f)
  lowest_row n (Some r) f = (f.0, same n r (subst (λ (j : ℕ). Lowest j (λ a. get_or here a 0) n r) h.0 f.1))

pub lowest_none : (P : ℕ → ℕ) (n : ℕ) → Lowest 0 P n n
lowest_none P n =
    record {
      within = omega arith;
      before = λ a b o l. absurd (let f : ⊥ = omega arith in f);
      here = λ l. absurd (let f : ⊥ = omega arith in f);
    }

module _ (a : ℕ) (P : ℕ → ℕ) (n : ℕ) where
  -- the lowest before, as a number
  lowest_of : (low : Option ℕ) → LowestShared a P n low → Lowest a P n (unwrap_or low n)
  lowest_of None f = f
  lowest_of (Some r) f = f.1

  more : (low : ℕ) → Lowest a P n low → ((i : ℕ) → i < a → P i ≡ P a → low ≤ P a) → Lowest (a + 1) P n low
  more low f h =
      record {
        within = f.within;
        before = λ i j o l e.
            by_cases (dec_lt j a)
            (λ r. f.before i j o r e)
            (λ r. let q : j ≡ a = omega arith in let e' : P i ≡ P a = rw q at e in omega (arith, h i (omega arith) e'));
        here = λ l. let (i, j, o, r, e, e') = f.here l in (i, j, o, omega arith, e, e');
      }

  -- agent a's vertex is no lower, or no lower agent is there
  pub lowest_keep : (low : Option ℕ) → LowestShared a P n low → ((i : ℕ) → i < a → P i ≡ P a → unwrap_or low n ≤ P a) → LowestShared (a + 1) P n low
  lowest_keep None f h = more n f h
  lowest_keep (Some r) f h = (f.0, more r f.1 h)

  pub lowest_new : (low : Option ℕ) → LowestShared a P n low → (i v : ℕ) → i < a → P i ≡ P a → v ≡ P a → v < unwrap_or low n → LowestShared (a + 1) P n (Some v)
  lowest_new low g i v l q₀ e h =
      let f = lowest_of low g in (
        omega (arith, f.within),
        record {
          within = omega (arith, f.within);
          before = λ u j o r q.
              by_cases (dec_lt j a)
              (λ b. omega (arith, f.before u j o b q))
              (λ b. let q' : j ≡ a = omega arith in let e' : P u ≡ P a = rw q' at q in omega arith);
          here = λ b. (i, a, l, omega arith, q₀ ∙ sym e, sym e);
        },
      )

-- the agents before a in a row: one stands on its vertex too, or none
module _ (here : List ℕ) (a n : ℕ) (l : a < length here) (low : Option ℕ) (g : LowestShared a (λ i. get_or here i 0) n low)
    (r : Option ℕ) (f : FirstFailing (length (take a here)) (λ i. not (eqb (get_or (take a here) i 0) (get_or here a 0))) r) where
  among : FirstFailing a (λ i. not (eqb (get_or here i 0) (get_or here a 0))) r
  among = on_row a (take a here) (λ i. get_or here i 0) (length-take-le a here (omega arith), λ i o. get_or-take a here i 0 o) (get_or here a 0) r f

  pub earlier_shares : true ≡ is_some r → (v : ℕ) → v ≡ get_or here a 0 → v < unwrap_or low n → LowestShared (a + 1) (λ i. get_or here i 0) n (Some v)
  earlier_shares e v q o =
      let (i, b, h) = one_shares a (λ i. get_or here i 0) (get_or here a 0) r among e in
      lowest_new a (λ i. get_or here i 0) n low g i v b h q o

  pub earlier_alone : false ≡ is_some r → LowestShared (a + 1) (λ i. get_or here i 0) n low
  earlier_alone e =
      lowest_keep a (λ i. get_or here i 0) n low g (λ i b h. absurd (none_shares a (λ i. get_or here i 0) (get_or here a 0) r among e i b h))

-- v is the lowest vertex that two of the agents of P share
module _ (k : ℕ) (P : ℕ → ℕ) (n v : ℕ) (f : LowestShared k P n (Some v)) where
  pub shared_some : (r : Option ℕ) → FirstFailing k (λ i. not (eqb (P i) v)) r → IsSome r
  shared_some r g = let (i, j, o, l, q, q') = f.1.here f.0 in found k (λ i. not (eqb (P i) v)) r g i (omega arith) (λ t. simp (not_iff, eqb_iff) at t q)

  -- and another stands behind the first
  pub shared_next : (a : ℕ) → FirstFault k (λ i. not (eqb (P i) v)) a → (r : Option ℕ) → FirstFailing (k - a - 1) (λ i. not (eqb (P (a + 1 + i)) v)) r → IsSome r
  shared_next a g r h =
      let (i, j, o, l, q, q') = f.1.here f.0 in
      let la : a ≤ i = by_cases (dec_lt i a) (λ lt. absurd (simp (not_iff, eqb_iff) at (g.before i lt) q)) (λ lt. omega arith) in
      let e : a + 1 + (j - a - 1) ≡ j = omega arith in
      found (k - a - 1) (λ i. not (eqb (P (a + 1 + i)) v)) r h (j - a - 1) (omega arith) (λ t. simp (not_iff, eqb_iff) at t (ap P e ∙ q'))

-- ---- condition 2 under rule 1, of agents that go from P to Q
module _ (k : ℕ) (P Q : ℕ → ℕ) where
  pub keeps_or : (a : ℕ) → T (eqb (P a) (Q a) || (every k λ b. not (eqb (P b) (Q a)))) ↔ (P a ≢ Q a → (b : ℕ) → b < k → P b ≢ Q a)
  keeps_or a = simp (or_imp, every_iff, not_iff, eqb_iff) ((λ h. h), (λ h. h))

  -- agent r goes to z, on which b is the first that stood
  pub record Enters (r b : ℕ) : Type 0 where
    pub agent : r < k
    pub stander : b < k
    pub another : b ≢ r
    pub stood : P b ≡ Q r
    pub before : (i : ℕ) → i < b → P i ≢ Q r

  -- r is the first agent that changes its vertex and goes to one on which an agent stood
  module _ (r : ℕ) (l : r < k) (f : FirstFault k (λ a. eqb (P a) (Q a) || (every k λ b. not (eqb (P b) (Q a)))) r) where
    stood_there : ((b : ℕ) → b < k → P b ≢ Q r) → ⊥
    stood_there h = f.here l ((keeps_or r).1 (λ d. h))

    pub entered : (b : Option ℕ) → FirstFailing k (λ i. not (eqb (P i) (Q r))) b → IsSome b
    entered None g = absurd (stood_there (λ b o. simp (not_iff, eqb_iff) at (g.before b o)))
    entered (Some b) g = refl

    pub enters : (b : ℕ) → FirstFailing k (λ i. not (eqb (P i) (Q r))) (Some b) → Enters r b
    enters b (lb, g) =
        let moves : P r ≢ Q r = λ q. f.here l ((keeps_or r).1 (λ h. absurd (h q))) in
        let stood : P b ≡ Q r = by_cases (ℕ_discrete (P b) (Q r)) (λ q. q) (λ q. absurd (g.here lb (simp (not_iff, eqb_iff) q))) in
        record { agent = l; stander = lb; another = λ q. moves (rw q at stood); stood = stood; before = λ i lt. simp (not_iff, eqb_iff) at (g.before i lt) }

-- condition 2 of rule 1 as the rows alone say it
pub plain_2 : (s : Sizes) → s.rule ≢ 2 → (near : ℕ → ℕ → Bool) (P Q : Row) (r : ℕ) → FirstFault s.k (condition s near 1 P Q) r
    → FirstFault s.k (λ a. eqb (P a) (Q a) || (every s.k λ b. not (eqb (P b) (Q a)))) r
unfolding condition2
plain_2 s one near P Q r f = fault_ext (λ a l. rw (ne_eqb s.rule 2 one)) f
