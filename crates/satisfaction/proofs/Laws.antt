-- How the first clause without a true literal is found: in joined lists, in blocks, among pairs; and how a search comes to its end.
use mathlib.Core.Path.{◌≡◌, refl, sym, ◌∙◌, ap, ap₂, subst}
use mathlib.Core.Logic.{◌↔◌, ◌≢◌, by_cases}
use mathlib.Core.List.{List, [], ◌∷◌, ◌++◌}
use mathlib.Core.Bool.{Bool, not}
use Prim.Native.Nat.{ℕ, suc, ◌+◌, ◌*◌, ◌-◌, ◌≤◌, ◌<◌}
use native.Mathlib.Nat.{le_refl}
use native.Mathlib.Decide.{dec_lt}
use native.Mathlib.Numerals.{add-one}
use native.Mathlib.Omega.{arith}
use borrow.Author.Count.{below_more, below_none}
use borrow.Author.Tests.{ne_eqb}
use lib.ListN.{length, get_or, length-append, get_or-append}
use lib.Seq.{get_or-append-add}
use lib.Dec.{T, ltb, eqb}
use lib.IntN.{ℤ}
use Rattle.std.specs.Prelude.{Option, None, Some, IsSome}
use Rattle.lists.specs.Loop.{for, when, all}
use Rattle.lists.proofs.Tests.{ltb_iff}
use Rattle.lists.proofs.Loops.{for_all, when_all, one_all, all_append, all_get_d, for_split, for_length, for_ext, for_above}
use Rattle.lists.proofs.Blocks.{for1_length, for1_get_or, place_lt}
use Rattle.lists.proofs.Slices.{for_room}
use Rattle.lists.proofs.Sums.{others_length}
use Rattle.lists.specs.Pairs.{pairs_below}
use Rattle.lists.proofs.Pairs.{beginning, beginning_length, lower_below}
use Rattle.answers.specs.Fault.{FirstFault, FirstFailing}
use Rattle.formula.specs.Formula.{Clause}
use Rattle.valuation.specs.Valuation.{satisfied?}
use Rattle.satisfaction.specs.Rows.{Fault, Failing, Stop, Stopping, Tallied}

-- a search from `low` on: the numbers below i pass
module _ (test : ℕ → Bool) (low n i : ℕ) (b : (j : ℕ) → low ≤ j → j < i → T (test j)) where
  pub stop_more : T (test i) → (j : ℕ) → low ≤ j → j < i + 1 → T (test j)
  stop_more t j h l = by_cases (dec_lt j i) (λ r. b j h r) (λ g. let e : i ≡ j = omega arith in subst (λ (x : ℕ). T (test x)) e t)

  pub stop_at : low ≤ i → i < n → (T (test i) → ⊥) → Stop test low n i
  stop_at h l f = record { least = h; within = omega arith; before = b; here = λ r. f }

  pub stop_none : low ≤ i → i ≡ n → Stop test low n n
  stop_none h e =
      record { least = omega arith; within = le_refl n; before = λ j r l. b j r (omega arith); here = λ r. absurd (let f : ⊥ = omega arith in f) }

-- it comes to one, where it would not come to n
pub stop_some : {test : ℕ → Bool} {low n : ℕ} (r : Option ℕ) → Stopping test low n r → (Stop test low n n → n < n) → IsSome r
stop_some None f h = absurd (let l = h f in let z : ⊥ = omega arith in z)
stop_some (Some x) f h = refl

-- the blocks of the numbers below b other than a, where o is b's place among the numbers other than a
pub others_before : {A : Type 0} (c a b o : ℕ) (f : ℕ → List A) → ((i : ℕ) → i < b → length (f i) ≡ c) → b ≢ a → (b < a → o ≡ b) → (a < b → o ≡ b - 1)
    → length (for b λ i. when (not (eqb a i)) (f i)) ≡ o * c
others_before c a b o f len d low high =
    by_cases (dec_lt b a)
    (λ l. ap length (for_ext b _ f (λ i h. rw (ne_eqb a i (omega arith)))) ∙ for_length b c f len ∙ ap (λ (x : ℕ). x * c) (sym (low l)))
    (λ l. let r : a < b = omega arith in others_length b c a r f len ∙ ap (λ (x : ℕ). x * c) (sym (high r)))

-- a tally, one number more at a time
module _ (test : ℕ → Bool) where
  pub tallied_none : Tallied test 0 0 0
  tallied_none =
      record {
        none = λ e. (refl, below_none _);
        one = λ e. absurd (let f : ⊥ = omega arith in f);
        more = λ h. absurd (let f : ⊥ = omega arith in f);
      }

  module _ (i count sum : ℕ) (o : Tallied test i count sum) where
    pub tallied_pass : T (test i) → Tallied test (i + 1) count sum
    tallied_pass t =
        record {
          none = λ e. let (z, h) = o.none e in (z, below_more _ _ h t);
          one = λ e. let (b, f, h) = o.one e in (omega arith, f, below_more (λ j. j ≢ sum → T (test j)) _ h (λ d. t));
          more = λ e. let (v, w, b, c, f, g) = o.more e in (v, w, b, omega arith, f, g);
        }

    pub tallied_fail : (T (test i) → ⊥) → Tallied test (i + 1) (count + 1) (sum + i)
    tallied_fail f =
        record {
          none = λ e. absurd (let f : ⊥ = omega arith in f);
          one = λ e.
              let (z, h) = o.none (omega arith) in
              let q : sum + i ≡ i = omega arith in
              rw q (omega arith, f, below_more (λ j. j ≢ i → T (test j)) _ (λ j b d. h j b) (λ d. absurd (d refl)));
          more = λ e.
              by_cases (dec_lt count 2)
              (λ b. let (c, g, h) = o.one (omega arith) in (sum, i, c, omega arith, g, f))
              (λ b. let (v, w, c, d, g, h) = o.more (omega arith) in (v, w, c, omega arith, g, h));
        }

module _ (es : List ℤ) where
  abbrev sat : Clause → Bool
  sat = satisfied? es

  pub fault_passed : (L : List Clause) (r : ℕ) → Fault es L r → length L ≤ r → T (all sat L)
  unfolding Fault
  fault_passed L r f h = (all_get_d [] sat L).1 (λ i l. f.before i (omega arith))

  -- it stands at r
  pub failing_at : (L : List Clause) (r : ℕ) → r < length L → Fault es L r → Failing es L (Some r)
  unfolding Failing Fault
  failing_at L r l f = (l, f)

  pub fault_all : (L : List Clause) → T (all sat L) → Fault es L (length L)
  unfolding Fault
  fault_all L t =
      record { within = le_refl _; before = λ i l. (all_get_d [] sat L).0 t i l; here = λ l. absurd (let f : ⊥ = omega arith in f) }

  -- there is none
  pub failing_none : (L : List Clause) → T (all sat L) → Failing es L None
  unfolding Failing Fault
  failing_none L t = fault_all L t

  pub failing_below : (L : List Clause) (r : ℕ) → Failing es L (Some r) → r < length L
  unfolding Failing
  failing_below L r f = f.0

  -- in the first of two lists, or in the second
  pub fault_left : (L M : List Clause) (r : ℕ) → Fault es L r → r < length L → Fault es (L ++ M) r
  unfolding Fault
  fault_left L M r f l =
      record {
        within = omega (arith, length-append L M);
        before = λ i h. subst (λ (c : Clause). T (sat c)) (sym (get_or-append L M [] i (omega arith))) (f.before i h);
        here = λ h t. f.here l (subst (λ (c : Clause). T (sat c)) (get_or-append L M [] r l) t);
      }

  pub fault_right : (L M : List Clause) (r : ℕ) → T (all sat L) → Fault es M r → Fault es (L ++ M) (length L + r)
  unfolding Fault
  fault_right L M r t f =
      record {
        within = omega (arith, length-append L M, f.within);
        before = λ i h.
            by_cases (dec_lt i (length L))
            (λ l. subst (λ (c : Clause). T (sat c)) (sym (get_or-append L M [] i l)) ((all_get_d [] sat L).0 t i l))
            (λ g.
            let e : i ≡ length L + (i - length L) = omega arith in
            subst (λ (c : Clause). T (sat c)) (sym (ap (λ (j : ℕ). get_or (L ++ M) j []) e ∙ get_or-append-add L M (i - length L) [])) (f.before (i - length L) (omega arith)));
        here = λ h u. f.here (omega (arith, length-append L M)) (subst (λ (c : Clause). T (sat c)) (get_or-append-add L M r []) u);
      }

  -- in block i of a loop
  pub for_stop : (f : ℕ → List Clause) (n i r : ℕ) → i < n → T (all sat (for i f)) → Fault es (f i) r → r < length (f i)
      → Fault es (for n f) (length (for i f) + r)
  for_stop f n i r l t h o =
      let d : ℕ = n - suc i in
      let e : n ≡ suc i + d = omega arith in
      subst (λ (L : List Clause). Fault es L (length (for i f) + r)) (sym (ap (λ (x : ℕ). for x f) e ∙ for_split (suc i) d f))
      (fault_left (for i f ++ f i) (for d (λ j. f (suc i + j))) (length (for i f) + r)
      (fault_right (for i f) (f i) r t h)
      (omega (arith, length-append (for i f) (f i))))

  pub blocks_stop : (f : ℕ → List Clause) (c n i r : ℕ) → ((j : ℕ) → length (f j) ≡ c) → i < n → T (all sat (for i f)) → Fault es (f i) r → r < c
      → Fault es (for n f) (i * c + r)
  blocks_stop f c n i r len l t h o =
      subst (λ (x : ℕ). Fault es (for n f) (x + r)) (for_length i c f (λ j q. len j)) (for_stop f n i r l t h (omega (arith, len i)))

  pub for_failing : (f : ℕ → List Clause) (n i r : ℕ) → i < n → T (all sat (for i f)) → Fault es (f i) r → r < length (f i)
      → Failing es (for n f) (Some (length (for i f) + r))
  for_failing f n i r l t h o =
      failing_at (for n f) (length (for i f) + r) (omega (arith, for_room f l)) (for_stop f n i r l t h o)

  pub blocks_failing : (f : ℕ → List Clause) (c n i r : ℕ) → ((j : ℕ) → length (f j) ≡ c) → i < n → T (all sat (for i f)) → Fault es (f i) r → r < c
      → Failing es (for n f) (Some (i * c + r))
  blocks_failing f c n i r len l t h o =
      failing_at (for n f) (i * c + r) (omega (arith, for_length n c f (λ j q. len j), place_lt n c i r l o)) (blocks_stop f c n i r len l t h o)

  pub blocks_pass : (f : ℕ → List Clause) (c n : ℕ) → ((j : ℕ) → length (f j) ≡ c) → T (all sat (for n f)) → Fault es (for n f) (n * c)
  blocks_pass f c n len t =
      subst (λ (x : ℕ). Fault es (for n f) x) (for_length n c f (λ j q. len j)) (fault_all (for n f) t)

  pub block_passed : (f : ℕ → List Clause) (i r : ℕ) → T (all sat (for i f)) → Fault es (f i) r → length (f i) ≤ r → T (all sat (for (i + 1) f))
  block_passed f i r t h o =
      subst (λ (j : ℕ). T (all sat (for j f))) (sym (add-one i)) ((all_append sat (for i f) (f i)).1 (t, fault_passed (f i) r h o))

  pub row_passed : (f : ℕ → List Clause) (i : ℕ) → T (all sat (for i f)) → Failing es (f i) None → T (all sat (for (i + 1) f))
  unfolding Failing Fault
  row_passed f i t h = block_passed f i (length (f i)) t h (le_refl _)

  -- one clause a turn
  pub singles : (c : ℕ) (h : ℕ → Clause) (r : ℕ) → FirstFault c (λ i. sat (h i)) r → Fault es (for c λ i. h i ∷ []) r
  unfolding Fault
  singles c h r f =
      record {
        within = omega (arith, for1_length c h, f.within);
        before = λ i l. subst (λ (x : Clause). T (sat x)) (sym (for1_get_or c h [] i (omega (arith, f.within)))) (f.before i l);
        here = λ l t.
            let l' : r < c = omega (arith, for1_length c h) in
            f.here l' (subst (λ (x : Clause). T (sat x)) (for1_get_or c h [] r l') t);
      }

  pub singles_failing : (c : ℕ) (h : ℕ → Clause) (r : Option ℕ) → FirstFailing c (λ i. sat (h i)) r → Failing es (for c λ i. h i ∷ []) r
  unfolding Failing Fault
  singles_failing c h None f =
      subst (FirstFault (length (for c λ i. h i ∷ [])) (λ i. sat (get_or (for c λ i. h i ∷ []) i []))) (sym (for1_length c h)) (singles c h c f)
  singles_failing c h (Some r) f = (omega (arith, for1_length c h, f.0), singles c h r f.1)

  -- pairs v < w of numbers that pass a test q: a clause for each pair, without a true literal where both pass
  module _ (n : ℕ) (g : ℕ → ℕ → Clause) (q : ℕ → Bool)
      (iff : (v w : ℕ) → v < n → w < n → T (sat (g v w)) ↔ (T (q v) → T (q w) → ⊥)) where
    abbrev row : ℕ → List Clause
    row = beginning n g

    row_pass : (v : ℕ) → v < n → ((w : ℕ) → v < w → w < n → T (q v) → T (q w) → ⊥) → T (all sat (row v))
    row_pass v l h =
        (for_all sat n _).1 (λ w r. (when_all sat (ltb v w) _).1 (λ t. (one_all sat (g v w)).1 ((iff v w l r).1 (h w ((ltb_iff v w).0 t) r))))

    -- no two pass
    pub pairs_pass : ((v w : ℕ) → v < w → w < n → T (q v) → T (q w) → ⊥) → T (all sat (for n row))
    pairs_pass h = (for_all sat n row).1 (λ v l. row_pass v l (λ w o r. h v w o r))

    -- v and w are the first two that pass
    pub pairs_two : (v w : ℕ) → v < w → w < n → T (q v) → T (q w) → ((u : ℕ) → u < w → T (q u) → u ≡ v)
        → Fault es (for n row) (pairs_below n v + (w - v - 1)) × (pairs_below n v + (w - v - 1) < length (for n row))
    pairs_two v w o l qv qw only =
        let lv : v < n = omega arith in
        let at : ℕ = w - suc v in
        let e : length (for v row) ≡ pairs_below n v = lower_below n g v (omega arith) in
        let e' : w - suc v ≡ w - v - 1 = omega arith in
        let here : Fault es (row v) at =
        subst (λ (L : List Clause). Fault es L at) (sym (for_above v n (λ w. g v w ∷ [])))
        (singles (n - suc v) (λ i. g v (suc v + i)) at
        record {
          within = omega arith;
          before = λ i h. (iff v (suc v + i) lv (omega arith)).1 (λ x y. let z = only (suc v + i) (omega arith) y in omega arith);
          here = λ h t.
              let e'' : suc v + at ≡ w = omega arith in
              (iff v w lv l).0 (subst (λ (x : ℕ). T (sat (g v x))) e'' t) qv qw;
        }) in
        subst (λ (x : ℕ). Fault es (for n row) x × (x < length (for n row))) (ap₂ ◌+◌ e e') (
          for_stop row n v at lv
              ((for_all sat v row).1 (λ u h. row_pass u (omega arith) (λ w' o' r x y. let z = only u (omega arith) x in omega arith)))
              here
              (omega (arith, beginning_length n g v)),
          omega (arith, for_room row lv, beginning_length n g v),
        )
