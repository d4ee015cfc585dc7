-- From a clause's number to its family, to the block in it and to the place in the block.
use mathlib.Core.Path.{◌≡◌, refl, sym, ◌∙◌, ap, ap₂, subst}
use mathlib.Core.Logic.{◌≢◌, ◌↔◌, by_cases}
use mathlib.Core.Bool.{Bool, true, false, ◌&&◌}
use lib.Dec.{eqb}
use Rattle.lists.proofs.Tests.{and_iff, eqb_iff}
use Rattle.answers.proofs.Faults.{T_true, holds}
use Rattle.instance.specs.declared.problem.Problem.{Problem}
use Rattle.instance.specs.Problem.{checked_of}
use mathlib.Core.List.{List, [], ◌∷◌}
use Prim.Native.Nat.{ℕ, zero, suc, ◌+◌, ◌*◌, ◌-◌, ◌/◌, ◌%◌, ◌≤◌, ◌<◌}
use native.Mathlib.Nat.{mul-one, mul_assoc, div-add-mod'}
use native.Mathlib.Decide.{ℕ_discrete}
use native.Mathlib.Omega.{arith}
use borrow.Author.Tests.{eq-eqb, ne_eqb}
use lib.ListN.{length, get_or}
use native.Mathlib.Numerals.{add-one}
use Rattle.lists.specs.Loop.{for, sum, pairs}
use Rattle.lists.proofs.Blocks.{place_inj, cell_at}
use Rattle.lists.proofs.Sums.{sum_ext, for_at}
use Rattle.instance.specs.declared.Sizes.{Sizes}
use Rattle.instance.specs.Instance.{HasGoal, goal_count, edges_before}
use Rattle.formula.specs.Formula.{Clause, B, block_b}
use Rattle.formula.specs.Blocks.{Given, held, times, blocks_at, block, family}
use Rattle.formula.proofs.Places.{goals_before, goal_block_lem, goal_get_or, exchange_total, family_length, family_get_or}
use Rattle.formula.specs.Counts.{clauses_by, total}
use Rattle.counts.specs.declared.Family.{Family}
use Rattle.counts.specs.declared.Family.TheVariants.{A, B as second, C, D, E, F, G}
use Rattle.counts.specs.contracts.Family.{the_type}
use denote.Enum.Bare.{sameb}
use Rattle.counts.specs.Families.{place_of}
use Rattle.one_clause.specs.Spot.{count, count_each, Stands, Slot}
use Rattle.one_clause.proofs.Clauses.{block_length}

-- entry i of the families before G: family number i, how many clauses it has, and how many slots each of its blocks
pub record Entry (s : Sizes) (i : ℕ) (x : Family × ℕ × ℕ) : Type 0 where
  pub number : place_of x.0 ≡ i
  pub clauses : x.1 ≡ count s i
  pub slots : x.2 ≡ count_each s i

pub record Listed (s : Sizes) (items : List (Family × ℕ × ℕ)) : Type 0 where
  pub six : length items ≡ 6
  pub each : (i : ℕ) (d : Family × ℕ × ℕ) → i < 6 → Entry s i (get_or items i d)

pub listed : (s : Sizes) {a b c d e f x y : ℕ} → a ≡ s.k → b ≡ s.g → c ≡ (clauses_by s).C → d ≡ (clauses_by s).D → e ≡ (clauses_by s).E → f ≡ (clauses_by s).F
    → x ≡ pairs s.n → y ≡ pairs s.k → Listed s ((A, a, 1) ∷ (second, b, 1) ∷ (C, c, 1) ∷ (D, d, x) ∷ (E, e, y) ∷ (F, f, s.n) ∷ [])
listed s {a} {b} {c} {d} {e} {f} {x} {y} p q r u v w g h = record { six = refl; each = go }
  where
    go : (i : ℕ) (o : Family × ℕ × ℕ) → i < 6 → Entry s i (get_or ((A, a, 1) ∷ (second, b, 1) ∷ (C, c, 1) ∷ (D, d, x) ∷ (E, e, y) ∷ (F, f, s.n) ∷ []) i o)
    go zero o l = record { number = refl; clauses = p; slots = refl }
    go (suc zero) o l = record { number = refl; clauses = q; slots = refl }
    go (suc (suc zero)) o l = record { number = refl; clauses = r; slots = refl }
    go (suc (suc (suc zero))) o l = record { number = refl; clauses = u; slots = g }
    go (suc (suc (suc (suc zero)))) o l = record { number = refl; clauses = v; slots = h }
    go (suc (suc (suc (suc (suc zero))))) o l = record { number = refl; clauses = w; slots = refl }
    go (suc (suc (suc (suc (suc (suc i)))))) o l = absurd (let z : ⊥ = omega arith in z)

module _ {s : Sizes} {items : List (Family × ℕ × ℕ)} (w : Listed s items) {number i place : ℕ} (q : number ≡ sum i (count s) + place) (l : i < 6) (d : Family × ℕ × ℕ) where
  -- the family at which the number's place is found, and what is left where it is not
  pub stands_here : place < (get_or items i d).1 → Stands s number (place_of (get_or items i d).0) (get_or items i d).2 place
  stands_here h =
      let x = w.each i d l in
      rw x.number (record { seven = omega arith; blocks = x.slots; inside = rw x.clauses at h; at = q })

  pub stands_later : (get_or items i d).1 ≤ place → number ≡ sum (i + 1) (count s) + (place - (get_or items i d).1)
  stands_later h = let x = w.each i d l in rw add-one (omega (arith, x.clauses))

-- past them it stands in G
pub stands_last : (s : Sizes) {number place each : ℕ} → number ≡ sum 6 (count s) + place → number < total (clauses_by s) → each ≡ (s.k - 1) * s.n → Stands s number 6 each place
stands_last s q l e = record { seven = omega arith; blocks = e; inside = omega arith; at = q }

-- the test whether it is G
pub is_g : (f : Family) → (sameb the_type f G ≡ true) ↔ (place_of f ≡ 6)
is_g A = ((λ e. cc), (λ e. cc))
is_g second = ((λ e. cc), (λ e. cc))
is_g C = ((λ e. cc), (λ e. cc))
is_g D = ((λ e. cc), (λ e. cc))
is_g E = ((λ e. cc), (λ e. cc))
is_g F = ((λ e. cc), (λ e. cc))
is_g G = ((λ e. refl), (λ e. refl))

-- all slots of a family; in B not all are full
abbrev slots : Sizes → ℕ → ℕ
slots s j = times s j * blocks_at s j * count_each s j

count_blocks : (s : Sizes) (j : ℕ) → j ≢ 1 → (j ≡ 6 → s.rule ≢ 2) → count s j ≡ slots s j
unfolding times blocks_at
count_blocks s zero d o = omega arith
count_blocks s (suc zero) d o = absurd (d refl)
count_blocks s (suc (suc zero)) d o = sym (mul-one _)
count_blocks s (suc (suc (suc zero))) d o = refl
count_blocks s (suc (suc (suc (suc zero)))) d o = refl
count_blocks s (suc (suc (suc (suc (suc zero))))) d o = refl
count_blocks s (suc (suc (suc (suc (suc (suc zero)))))) d o =
    rw (ne_eqb s.rule 2 (o refl)) (mul_assoc (s.m * s.k) (s.k - 1) s.n)
count_blocks s (suc (suc (suc (suc (suc (suc (suc j))))))) d o = refl

-- Slot number `slot` of family j, which is not G under rule 2, where a block has `each` slots and a time has `width` blocks, holds clause number `number`.
pub record Found (g : Given) (number j each width slot : ℕ) : Type 0 where
  pub some : 0 < each
  pub wide : 0 < width
  pub step : slot / each / width < times g.sizes j
  pub cell : slot / each % width < blocks_at g.sizes j
  pub inside : slot % each < count_each g.sizes j
  pub has : j ≡ 1 → HasGoal (g.goal (slot / each % width))
  pub same : get_or (for 7 (family g)) number [] ≡ get_or (block g j (slot / each / width) (slot / each % width)) (slot % each) []

module _ (g : Given) (w : g.sizes.g ≡ goal_count g.sizes.k g.goal) (h : g.sizes.e ≡ edges_before g.near g.sizes.n g.sizes.n 0) where
  abbrev s : Sizes
  s = g.sizes

  count_B : length (family g 1) ≡ count s 1
  unfolding family B
  count_B = goals_before s g.goal s.k ∙ sym w

  -- G under rule 2
  count_exchanges : s.rule ≡ 2 → count s 6 ≡ s.m * s.e * (s.k * (s.k - 1))
  count_exchanges two = rw (eq-eqb s.rule 2 two)

  family_count : (j : ℕ) → length (family g j) ≡ count s j
  family_count j =
      by_cases (ℕ_discrete j 1)
      (λ e. rw e count_B)
      (λ d.
      by_cases (ℕ_discrete s.rule 2)
      (λ two. by_cases (ℕ_discrete j 6) (λ e. rw e (exchange_total g two h ∙ sym (count_exchanges two))) (λ o. by_block d (λ e. absurd (o e))))
      (λ o. by_block d (λ e. o)))
    where
      by_block : j ≢ 1 → (j ≡ 6 → s.rule ≢ 2) → length (family g j) ≡ count s j
      by_block d o = family_length g j (count_each s j) (λ t x l. block_length g j t x d o l) ∙ sym (count_blocks s j d o)

  -- an agent's slot in B is its own number
  module _ (r : ℕ) (l : r < s.k) where
    slot_B : (r / 1 / s.k ≡ 0) × (r / 1 % s.k ≡ r) × (r % 1 ≡ 0)
    slot_B =
        let (some, (t, x)) = cell_at 1 s.k r (omega arith) in
        let q : r / 1 ≡ r = omega arith in
        let (y, z) = place_inj s.k 0 r (r / s.k) (r % s.k) l x (omega (arith, div-add-mod' r s.k)) in
        (rw q (sym y), rw q (sym z), omega arith)

  in_family : {number j each place : ℕ} → Stands s number j each place → get_or (for 7 (family g)) number [] ≡ get_or (family g j) place []
  in_family {number} {j} {each} {place} q =
      ap (λ (x : ℕ). get_or (for 7 (family g)) x []) (q.at ∙ ap (λ (x : ℕ). x + place) (sum_ext j _ _ (λ u l. sym (family_count u))))
      ∙ for_at 7 (family g) [] j place q.seven (rw (family_count j) q.inside)

  -- in G under rule 2
  pub found_exchange : {number j each place : ℕ} → j ≡ 6 → s.rule ≡ 2 → Stands s number j each place
      → (place < s.m * s.e * (s.k * (s.k - 1))) × (get_or (for 7 (family g)) number [] ≡ get_or (family g 6) place [])
  found_exchange {number} {j} {each} {place} e two q = (
    subst (λ (x : ℕ). place < x) (ap (count s) e ∙ count_exchanges two) q.inside,
    in_family q ∙ ap (λ (i : ℕ). get_or (family g i) place []) e,
  )

  module _ {number each place width slot : ℕ} where
    -- in B
    found_B : Stands s number 1 each place → width ≡ blocks_at s 1 → Slot s g.goal 1 place slot → Found g number 1 each width slot
    unfolding times blocks_at block family
    found_B q e z =
        let (l, h, c) = z.goals refl in
        let (y, x, p) = slot_B slot l in
        rw (q.blocks, e)
        (record {
          some = omega arith;
          wide = omega arith;
          step = omega arith;
          cell = omega arith;
          inside = omega arith;
          has = λ o. rw x h;
          same =
              in_family q
              ∙ ap (λ (i : ℕ). get_or (family g 1) i []) (sym c)
              ∙ goal_get_or s g.goal slot l h
              ∙ sym (ap₂ (λ (a i : ℕ). get_or (block_b s g.goal a) i []) x p ∙ ap (λ (c : List Clause). get_or c 0 []) (goal_block_lem s g.goal slot h));
        })

    -- in the other families, whose slots are all full
    found_full : {j : ℕ} → j ≢ 1 → (j ≡ 6 → s.rule ≢ 2) → Stands s number j each place → width ≡ blocks_at s j → slot ≡ place → Found g number j each width slot
    found_full {j} o x q e z =
        let d = count_each s j in
        let (some, (i, p)) = cell_at (times s j * blocks_at s j) d slot (rw z (subst (λ (x : ℕ). place < x) (count_blocks s j o x) q.inside)) in
        let (wide, (t, c)) = cell_at (times s j) (blocks_at s j) (slot / d) i in
        rw (q.blocks, e)
        (record {
          some = some;
          wide = wide;
          step = t;
          cell = c;
          inside = p;
          has = λ r. absurd (o r);
          same =
              in_family q
              ∙ ap (λ (y : ℕ). get_or (family g j) y []) (sym z ∙ sym (div-add-mod' slot d))
              ∙ family_get_or g j d (λ t y l. block_length g j t y o x l) (slot / d) (slot % d) i p;
        })

    pub found : {j : ℕ} → (j ≡ 6 → s.rule ≢ 2) → Stands s number j each place → width ≡ blocks_at s j → Slot s g.goal j place slot → Found g number j each width slot
    found {j} x q e z =
        by_cases (ℕ_discrete j 1)
        (λ o. subst (λ (i : ℕ). Stands s number i each place → width ≡ blocks_at s i → Slot s g.goal i place slot → Found g number i each width slot) (sym o) found_B q e z)
        (λ o. found_full o x q e (z.full o))

module _ (p : Problem) where
  open p.shape.sizes use {m, e, k, rule}

  abbrev pub J : Given
  J = held (checked_of p)

  -- where `g` is the test whether the family is G
  module _ {number each place : ℕ} (f : Family) (w : Stands p.shape.sizes number (place_of f) each place) {g : Bool} (t : g ≡ sameb the_type f G) where
    pub by_exchange : g && eqb rule 2 ≡ true → (rule ≡ 2) × (place < m * e * (k * (k - 1))) × (get_or (for 7 (family J)) number [] ≡ get_or (family J 6) place [])
    by_exchange h =
        let (x, y) = (and_iff g (eqb rule 2)).0 (holds refl h) in
        let two = (eqb_iff rule 2).0 y in
        let (l, same) = found_exchange J p.ready.counted p.ready.edged ((is_g f).0 (sym t ∙ T_true g x)) two w in (two, l, same)

    apart : g && eqb rule 2 ≡ false → place_of f ≡ 6 → rule ≢ 2
    apart h x y = let z : true ≡ false = sym (rw (t ∙ (is_g f).1 x, eq-eqb rule 2 y)) ∙ h in cc

    pub by_slot : g && eqb rule 2 ≡ false → (width : ℕ) → width ≡ blocks_at p.shape.sizes (place_of f) → {slot : ℕ} → Slot p.shape.sizes J.goal (place_of f) place slot
        → (place_of f ≡ 6 → rule ≢ 2) × Found J number (place_of f) each width slot
    by_slot h width b z = (apart h, found J p.ready.counted p.ready.edged (apart h) w b z)
