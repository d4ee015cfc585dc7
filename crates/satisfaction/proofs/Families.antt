-- The families row by row: their numbers and lengths; the formula is they; and what the families before a row say.
use mathlib.Core.Path.{◌≡◌, refl, sym, ◌∙◌, ap, subst}
use mathlib.Core.Logic.{◌≢◌, by_cases}
use mathlib.Core.List.{List, [], ◌∷◌}
use mathlib.Core.Bool.{Bool, cond}
use Prim.Native.Nat.{ℕ, zero, suc, ◌+◌, ◌*◌, ◌-◌, ◌/◌, ◌≤◌, ◌<◌}
use native.Mathlib.Decide.{dec_lt, ℕ_discrete}
use native.Mathlib.Numerals.{add-one}
use native.Mathlib.Omega.{arith}
use borrow.Author.Tests.{eq-eqb, ne_eqb}
use lib.ListN.{length, get_or, length-append}
use lib.Dec.{T}
use lib.IntN.{ℤ}
use Rattle.std.specs.Prelude.{Option, Some}
use Rattle.lists.specs.Loop.{for, all}
use Rattle.lists.proofs.Loops.{for_length, for_all, all_append}
use Rattle.lists.proofs.Slices.{for_room}
use Rattle.lists.proofs.Blocks.{for1_length, place_split}
use Rattle.instance.specs.declared.Sizes.{Sizes}
use Rattle.counts.specs.declared.Family.{Family}
use Rattle.counts.specs.declared.Family.TheVariants.{A, B, C, D, E, F, G}
use Rattle.counts.specs.Families.{place_of}
use Rattle.instance.specs.Instance.{Instance, Edges, following, goal_count}
use Rattle.instance.proofs.Goals.{goals_once}
use Rattle.formula.specs.Variables.{X}
use Rattle.formula.specs.Formula.{Clause, no_following, clauses}
use Rattle.formula.specs.Formula as formula
use Rattle.formula.specs.Blocks.{Given, times, blocks_at, block, block_g, no_exchange_from, family, held_in}
use Rattle.formula.proofs.Blocks.{family_blocks}
use Rattle.formula.proofs.Held.{families_shown}
use Rattle.plan.specs.Plan.{plan_row}
use Rattle.valuation.specs.Valuation.{true?, satisfied?, named}
use Rattle.valuation.specs.Places.{Places}
use Rattle.valuation.proofs.Families.{places_cong, read_E}
use Rattle.valuation.proofs.Entries.{named_places}
use Rattle.instance.specs.Shows.{Shows}
use Rattle.conditions.specs.Inside.{Inside}
use Rattle.satisfaction.specs.Rows.{Fault, Failing, Read, Sound, row, Before}
use Rattle.satisfaction.proofs.Laws.{for_stop, for_failing}
use Rattle.satisfaction.proofs.Truth.{length_D, length_E, length_F, read_row_f}

-- all of them, in their order
abbrev pub families : List Family
families = A ∷ B ∷ C ∷ D ∷ E ∷ F ∷ G ∷ []

pub place_at : (i : ℕ) → i < 7 → place_of (get_or families i A) ≡ i
place_at zero l = refl
place_at (suc zero) l = refl
place_at (suc (suc zero)) l = refl
place_at (suc (suc (suc zero))) l = refl
place_at (suc (suc (suc (suc zero)))) l = refl
place_at (suc (suc (suc (suc (suc zero))))) l = refl
place_at (suc (suc (suc (suc (suc (suc zero)))))) l = refl
place_at (suc (suc (suc (suc (suc (suc (suc i))))))) l = absurd (let f : ⊥ = omega arith in f)

-- the lengths of the rows
module _ (g : Given) (t : ℕ) where
  open g use {sizes}
  open sizes use {n, k, m}

  pub size_A : length (row g 0 t) ≡ k
  unfolding row block blocks_at
  size_A = for1_length k _

  pub size_B : length (row g 1 t) ≡ goal_count k g.goal
  unfolding row block blocks_at
  size_B = goals_once g.goal k (λ a. X sizes m a (g.goal a) ∷ [])

  pub size_C : length (row g 2 t) ≡ k
  unfolding row block blocks_at
  size_C = for1_length k _

  pub size_D : length (row g 3 t) ≡ k * (n * (n - 1) / 2)
  unfolding row block blocks_at
  size_D = for_length k _ _ (λ a l. length_D sizes t a)

  pub size_E : length (row g 4 t) ≡ n * (k * (k - 1) / 2)
  unfolding row block blocks_at
  size_E = for_length n _ _ (λ v l. length_E sizes t v)

  pub size_F : length (row g 5 t) ≡ k * n
  unfolding row block blocks_at
  size_F = for_length k _ _ (λ a l. length_F sizes g.near t a)

-- G's, by the rule
module _ (s : Sizes) (near : ℕ → ℕ → Bool) (t : ℕ) where
  open s use {n, k}

  abbrev by_rule_lem : Bool → List Clause
  by_rule_lem f = for (cond f n k) λ x. cond f (no_exchange_from s near t x) (no_following s t x)

  pub one_G : s.rule ≢ 2 → for (cond (following s) n k) (block_g s near t) ≡ for k (no_following s t)
  one_G d = ap by_rule_lem (ne_eqb s.rule 2 d)

  pub two_G : s.rule ≡ 2 → for (cond (following s) n k) (block_g s near t) ≡ for n (no_exchange_from s near t)
  two_G e = ap by_rule_lem (eq-eqb s.rule 2 e)

module _ (g : Given) where
  family_rows : (j : ℕ) → family g j ≡ for (times g.sizes j) (row g j)
  unfolding row
  family_rows j = family_blocks g j

  -- where the families before the one with this number are satisfied, and its rows before row t
  module _ (es : List ℤ) (which at t : ℕ) (h : T (all (satisfied? es) (for which (family g))))
      (q : at ≡ length (for which (family g)) + length (for t (row g which))) (h' : T (all (satisfied? es) (for t (row g which)))) where
    -- the first clause without a true literal is in row t
    pub in_families : (r : ℕ) → which < 7 → t < times g.sizes which → Failing es (row g which t) (Some r) → Failing es (for 7 (family g)) (Some (at + r))
    unfolding Failing Fault
    in_families r l x (o, f) =
        let f' = for_stop es (row g which) (times g.sizes which) t r x h' f o in
        let o' = for_room (row g which) x in
        let a : length (for which (family g)) + (length (for t (row g which)) + r) ≡ at + r = omega arith in
        subst (λ (y : ℕ). Failing es (for 7 (family g)) (Some y)) a
        (for_failing es (family g) 7 which (length (for t (row g which)) + r) l h
        (subst (λ (L : List Clause). Fault es L (length (for t (row g which)) + r)) (sym (family_rows which)) f')
        (omega (arith, ap length (family_rows which))))

    -- there was none
    pub next_family : t ≡ times g.sizes which → (at ≡ length (for (which + 1) (family g))) × T (all (satisfied? es) (for (which + 1) (family g)))
    next_family x =
        let e : for t (row g which) ≡ family g which = ap (λ (y : ℕ). for y (row g which)) x ∙ sym (family_rows which) in
        rw add-one (
          q ∙ ap (λ (L : List Clause). length (for which (family g)) + length L) e ∙ sym (length-append (for which (family g)) _),
          (all_append (satisfied? es) (for which (family g)) _).1 (h, subst (λ (L : List Clause). T (all (satisfied? es) L)) e h'),
        )

-- the formula's families are those of the parts that show the instance
pub whole : (I : Instance) (s : Sizes) (starts goals near : List ℕ) → Shows I s starts goals near → Edges I → (es : List ℤ) (r : Option ℕ)
    → Failing es (for 7 (family (held_in s starts goals near))) r → Failing es (clauses I) r
whole I s starts goals near w h es r f = subst (λ (L : List Clause). Failing es L r) (sym (families_shown I s starts goals near w h)) f

-- ---- of entries that have been read
-- where one vertex is left to each agent at each time, the pass has found it
module _ (s : Sizes) (es : List ℤ) (p : List ℕ) (rd : Read s es p) where
  pub place_named : Places s (true? es) (named s es) → (t a : ℕ) → t < suc s.m → a < s.k → named s es t a ≡ plan_row s p t a
  place_named o t a x y =
      let i = o.inside t a x y in
      let q = (o.here t a (named s es t a) x y i).1 refl in
      let v = rd.seen t a x y in
      by_cases (dec_lt (plan_row s p t a) s.n)
      (λ l. (v.one l (named s es t a) i).0 q)
      (λ g.
      by_cases (ℕ_discrete (plan_row s p t a) s.n)
      (λ e. absurd (v.none e (named s es t a) i q))
      (λ d.
      let m = v.most in
      let (u, u', l, l', h, h') = v.several (omega arith) in
      let e = (o.here t a u x y (omega arith)).0 h in
      let e' = (o.here t a u' x y l').0 h' in
      absurd (let f : ⊥ = omega arith in f)))

module _ (g : Given) (es : List ℤ) (p : List ℕ) (rd : Read g.sizes es p) where
  abbrev s : Sizes
  s = g.sizes

  -- an instance of these sizes: families C, D and E go by them alone
  sized : Instance
  sized = record { sizes = s; low = λ i. 0; high = λ i. 0; start = λ i. 0; goal = λ i. 0 }

  -- C and D leave one
  pub places : (which : ℕ) → 4 ≤ which → Before g es which → Places s (true? es) (plan_row s p)
  unfolding Before family sized
  places which l h =
      let o = named_places sized es rd.valid (h 2 (omega arith)) (h 3 (omega arith)) in
      places_cong s (true? es) (named s es) (plan_row s p) o (place_named s es p rd o)

  -- every byte then has a word, and a bit in each
  pub inside : s.n ≤ 64 → (which : ℕ) → 4 ≤ which → Before g es which → Inside p
  inside h which l o i q =
      let (t, a, x, y, e) = place_split (suc s.m) s.k i (rw rd.size at q) in
      omega (arith, (places which l o).inside t a x y, ap (λ (j : ℕ). get_or p j 0) e)

  -- E leaves no vertex to two agents
  apart : (which : ℕ) → 5 ≤ which → Before g es which → (t : ℕ) → t < suc s.m → (i j : ℕ) → i < j → j < s.k → plan_row s p t i ≢ plan_row s p t j
  unfolding Before family sized
  apart which l h = (read_E sized (true? es) (plan_row s p) (places which (omega arith) h)).0 (h 4 (omega arith))

  -- and F takes each agent across an edge, or leaves it
  pub sound : s.n ≤ 64 → (which : ℕ) → 6 ≤ which → Before g es which → (t : ℕ) → t < s.m → Sound s g.near p t
  unfolding Before family formula.F
  sound h which l o t x =
      let c = places which (omega arith) o in
      record {
        size = rd.size;
        time = x;
        bytes = inside h which (omega arith) o;
        inside = λ a y. c.inside t a (omega arith) y;
        apart = apart which (omega arith) o t (omega arith);
        crosses = read_row_f s es rd.valid (plan_row s p) c g.near t x ((for_all (satisfied? es) s.m _).0 (o 5 (omega arith)) t x);
      }
