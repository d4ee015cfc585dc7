-- The counting tree counts: where its clauses hold, output i is true if at least i inputs are; and where each output says that at
-- least i inputs are true, its clauses hold.
use mathlib.Core.Path.{◌≡◌, refl, sym, ◌∙◌, ap, ap₂, subst}
use mathlib.Core.Logic.{◌↔◌, ◌⊎◌, inl, inr, ⊎_elim, by_cases}
use mathlib.Core.List.{[], ◌∷◌, ◌++◌}
use mathlib.Core.Bool.{Bool, true, false, cond}
use Prim.Native.Nat.{ℕ, zero, suc, ◌+◌, ◌-◌, ◌*◌, ◌/◌, ◌^◌, ◌≤◌, ◌<◌, min}
use native.Mathlib.Nat.{le_refl, add-zero, add-suc, mul-add, suc-mul, pow-suc}
use native.Mathlib.Decide.{dec_lt, dec_le}
use native.Mathlib.Omega.{arith}
use lib.Dec.{T, ltb, leb}
use Rattle.lists.specs.Loop.{when, any}
use Rattle.lists.proofs.Tests.{ltb_iff, leb_iff}
use Rattle.lists.proofs.Loops.{for_all, when_all, one_all, any_append, any_one, when_any, all_append}
use Rattle.lists.proofs.Sums.{sum_ext}
use Rattle.formula.specs.Variables.{Literal}
use Rattle.valuation.proofs.Families.{Sat}
use Rattle.ceiling.specs.Tree.{Tree, input, node, halved, tree_over, inputs, outputs, variables, before, join, joins, tree_clauses, count, on, off}

-- ---- the shape: any number that is at least the length will do
halved_enough : (d e l : ℕ) → l ≤ d → l ≤ e → halved d l ≡ halved e l
unfolding halved
halved_enough zero zero l p q = refl
halved_enough zero (suc e) zero p q = refl
halved_enough zero (suc e) (suc l) p q = absurd (let f : ⊥ = omega arith in f)
halved_enough (suc d) zero zero p q = refl
halved_enough (suc d) zero (suc l) p q = absurd (let f : ⊥ = omega arith in f)
halved_enough (suc d) (suc e) zero p q = refl
halved_enough (suc d) (suc e) (suc zero) p q = refl
halved_enough (suc d) (suc e) (suc (suc l)) p q =
    ap₂ node (halved_enough d e (suc (suc l) / 2) (omega arith) (omega arith)) (halved_enough d e (suc (suc l) - suc (suc l) / 2) (omega arith) (omega arith))

pub tree_one : (l : ℕ) → l < 2 → tree_over l ≡ input
unfolding tree_over halved
tree_one zero h = refl
tree_one (suc zero) h = refl
tree_one (suc (suc l)) h = absurd (let f : ⊥ = omega arith in f)

pub tree_two : (l : ℕ) → 2 ≤ l → tree_over l ≡ node (tree_over (l / 2)) (tree_over (l - l / 2))
unfolding tree_over halved
tree_two zero h = absurd (let f : ⊥ = omega arith in f)
tree_two (suc zero) h = absurd (let f : ⊥ = omega arith in f)
tree_two (suc (suc l)) h =
    ap₂ node
    (halved_enough (suc l) (suc (suc l) / 2) (suc (suc l) / 2) (omega arith) (le_refl _))
    (halved_enough (suc l) (suc (suc l) - suc (suc l) / 2) (suc (suc l) - suc (suc l) / 2) (omega arith) (le_refl _))

halved_inputs : (d l : ℕ) → l ≤ d → 1 ≤ l → inputs (halved d l) ≡ l
unfolding halved inputs
halved_inputs zero l p q = absurd (let f : ⊥ = omega arith in f)
halved_inputs (suc d) zero p q = absurd (let f : ⊥ = omega arith in f)
halved_inputs (suc d) (suc zero) p q = refl
halved_inputs (suc d) (suc (suc l)) p q =
    rw (halved_inputs d (suc (suc l) / 2) (omega arith) (omega arith), halved_inputs d (suc (suc l) - suc (suc l) / 2) (omega arith) (omega arith)) (omega arith)

pub tree_inputs : (l : ℕ) → 1 ≤ l → inputs (tree_over l) ≡ l
unfolding tree_over
tree_inputs l h = halved_inputs l l (le_refl l) h

-- ---- a level of the tree has at most as many outputs as the list is long, and there are d levels where it is at most 2 ^ d long
pub variables_most : (c d l : ℕ) → l ≤ 2 ^ d → variables c (tree_over l) ≤ d * l
unfolding variables outputs inputs
variables_most c zero l h = let q : l < 2 = omega arith in rw (tree_one l q) (omega arith)
variables_most c (suc d) l h =
    by_cases (dec_lt l 2)
    (λ q. rw (tree_one l q) (omega arith))
    (λ q.
    let p = pow-suc 2 d in
    let e : l / 2 + (l - l / 2) ≡ l = omega arith in
    let s : d * (l / 2) + d * (l - l / 2) ≡ d * l = sym (mul-add d (l / 2) (l - l / 2)) ∙ ap (λ (z : ℕ). d * z) e in
    let a = variables_most c d (l / 2) (omega arith) in
    let b = variables_most c d (l - l / 2) (omega arith) in
    rw (tree_two l (omega arith), tree_inputs (l / 2) (omega arith), tree_inputs (l - l / 2) (omega arith)) (omega (arith, suc-mul d l)))

-- ---- counting
pub one_of : (b : Bool) → (T b ⊎ (T b → ⊥)) × (cond b 1 0 ≤ 1)
one_of true = (inl tt, le_refl 1)
one_of false = (inr (λ t. t), omega arith)

pub one_no : (b : Bool) → (T b → ⊥) → ◌≡◌ {A = ℕ} (cond b 1 0) 0
one_no true f = absurd (f tt)
one_no false f = refl

pub count_le : (b : ℕ → Bool) (x n : ℕ) → count b x n ≤ n
count_le b x zero = omega arith
count_le b x (suc n) = omega (arith, count_le b x n, (one_of (b (x + suc n))).1)

-- it goes by the truth of the inputs alone, wherever they stand
pub count_same : (b d : ℕ → Bool) (n x w : ℕ) → ((j : ℕ) → j < n → b (x + suc j) ≡ d (w + suc j)) → count b x n ≡ count d w n
count_same b d n x w h = sum_ext n _ _ (λ j l. ap (λ (t : Bool). cond t 1 0) (h j l))

pub count_split : (b : ℕ → Bool) (x n m : ℕ) → count b x (n + m) ≡ count b x n + count b (x + n) m
count_split b x n zero = rw add-zero (omega arith)
count_split b x n (suc m) =
    let e : x + suc (n + m) ≡ x + n + suc m = omega arith in
    rw (add-suc, e) (omega (arith, count_split b x n m))

-- under the truth h variable z says b
abbrev pub Says : (Literal → Bool) → ℕ → Bool → Type 0
Says h z b = (T b → T (h (on z))) × ((T b → ⊥) → T (h (off z)))

one_leb : (b : Bool) → T (leb 1 (0 + cond b 1 0)) ↔ T b
one_leb true = ((λ t. tt), (λ t. tt))
one_leb false = ((λ t. t), (λ t. t))

module _ (c : ℕ) (h : Literal → Bool) where
  -- ---- a join as a choice of three
  pub join_iff : (p q o i j : ℕ) → T (any h (join c p q o i j))
      ↔ ((((0 < i) × T (h (off (p + i)))) ⊎ ((0 < j) × T (h (off (q + j))))) ⊎ T (h (on (o + min (i + j) (suc c)))))
  unfolding join
  join_iff p q o i j =
      let l = when (ltb 0 i) (off (p + i) ∷ []) in
      let r = when (ltb 0 j) (off (q + j) ∷ []) in
      let z = on (o + min (i + j) (suc c)) in (
        (λ t. ⊎_elim
            (λ u. ⊎_elim (λ v. inl (inl ((one i (p + i)).0 v))) (λ v. inl (inr ((one j (q + j)).0 v))) ((any_append h l r).0 u))
            (λ u. inr ((any_one h z).0 u))
            ((any_append h (l ++ r) (z ∷ [])).0 t)),
        (λ t. (any_append h (l ++ r) (z ∷ [])).1 (⊎_elim
            (λ u. inl ((any_append h l r).1 (⊎_elim (λ v. inl ((one i (p + i)).1 v)) (λ v. inr ((one j (q + j)).1 v)) u)))
            (λ u. inr ((any_one h z).1 u))
            t)),
      )
    where
      one : (i z : ℕ) → T (any h (when (ltb 0 i) (off z ∷ []))) ↔ ((0 < i) × T (h (off z)))
      one i z = simp (when_any, ltb_iff, any_one) ((λ t. t), (λ t. t))

  pub joins_iff : (a b p q o : ℕ) → Sat h (joins c a b p q o)
      ↔ ((i : ℕ) → i < suc a → (j : ℕ) → j < suc b → 0 < i + j → T (any h (join c p q o i j)))
  unfolding joins
  joins_iff a b p q o = simp (for_all, when_all, one_all, ltb_iff) ((λ t. t), (λ t. t))

  -- ---- where the clauses hold, output i is true if at least i inputs are
  module _ (clash : (z : ℕ) → T (h (on z)) → T (h (off z)) → ⊥) where
    pub reach : (t : Tree) (x y : ℕ) → Sat h (tree_clauses c t x y)
        → (i : ℕ) → 0 < i → i ≤ outputs c t → i ≤ count (λ z. h (on z)) x (inputs t) → T (h (on (before c t x y + i)))
    unfolding tree_clauses outputs before inputs
    reach input x y s i p q r =
        let e : i ≡ 1 = omega arith in
        rw e (⊎_elim (λ t. t) (λ f. absurd (let z = one_no (h (on (x + 1))) f in let g : ⊥ = omega arith in g)) (one_of (h (on (x + 1)))).0)
    reach (node l r) x y s i p q w =
        let parts = simp all_append at s in
        let truth : ℕ → Bool = λ z. h (on z) in
        let u : ℕ = min (count truth x (inputs l)) i in
        let v : ℕ = i - min (count truth x (inputs l)) i in
        let e : min (u + v) (suc c) ≡ i = omega arith in
        let split = count_split truth x (inputs l) (inputs r) in
        let cl = count_le truth x (inputs l) in
        let cr = count_le truth (x + inputs l) (inputs r) in
        let lu : u ≤ min (inputs l) (suc c) = omega arith in
        let lv : v ≤ min (inputs r) (suc c) = omega arith in
        ⊎_elim
        (⊎_elim
        (λ (z, t). absurd (clash _ (reach l x y parts.0.0 u z lu (omega arith)) t))
        (λ (z, t). absurd (clash _ (reach r (x + inputs l) (y + variables c l) parts.0.1 v z lv (omega arith)) t)))
        (λ t. subst (λ (j : ℕ). T (h (on (y + (variables c l + variables c r) + j)))) e t)
        ((join_iff _ _ _ u v).0 ((joins_iff _ _ _ _ _).0 parts.1 u (omega arith) v (omega arith) (omega arith)))

    -- so where output c + 1 is false too, at most c inputs are true
    pub at_most : (t : Tree) (x y : ℕ) → c < inputs t → Sat h (tree_clauses c t x y) → T (h (off (before c t x y + suc c)))
        → count (λ z. h (on z)) x (inputs t) ≤ c
    unfolding outputs
    at_most t x y l s f =
        by_cases (dec_le (suc c) (count (λ z. h (on z)) x (inputs t)))
        (λ g. absurd (clash _ (reach t x y s (suc c) (omega arith) (omega arith) g) f))
        (λ g. omega arith)

  -- ---- where each variable says what it means, the clauses hold
  module _ (b : ℕ → Bool) where
    -- the inputs say b, and output i that at least i inputs are true
    unfoldable pub Means : Tree → ℕ → ℕ → Type 0
    Means input x y = Says h (x + 1) (b (x + 1))
    Means (node l r) x y =
        Means l x y
        × Means r (x + inputs l) (y + variables c l)
        × ((i : ℕ) → 0 < i → i ≤ outputs c (node l r) → Says h (before c (node l r) x y + i) (leb i (count b x (inputs (node l r)))))

    pub means_outputs : (t : Tree) (x y : ℕ) → Means t x y
        → (i : ℕ) → 0 < i → i ≤ outputs c t → Says h (before c t x y + i) (leb i (count b x (inputs t)))
    unfolding Means before inputs outputs
    means_outputs input x y w i p q =
        let e : i ≡ 1 = omega arith in
        rw e ((λ t. w.0 ((one_leb (b (x + 1))).0 t)), (λ f. w.1 (λ t. f ((one_leb (b (x + 1))).1 t))))
    means_outputs (node l r) x y w i p q = w.2 i p q

    pub means_sat : (t : Tree) (x y : ℕ) → Means t x y → Sat h (tree_clauses c t x y)
    unfolding Means tree_clauses inputs outputs
    means_sat input x y w = tt
    means_sat (node l r) x y w =
        let cl : ℕ = count b x (inputs l) in
        let cr : ℕ = count b (x + inputs l) (inputs r) in
        let split : count b x (inputs (node l r)) ≡ cl + cr = count_split b x (inputs l) (inputs r) in
        simp all_append (
          (means_sat l x y w.0, means_sat r (x + inputs l) (y + variables c l) w.1),
          (joins_iff _ _ _ _ _).1 (λ i li j lj p. (join_iff _ _ _ i j).1
              (by_cases (dec_le i cl)
              (λ u.
              by_cases (dec_le j cr)
              (λ v. inr ((w.2 (min (i + j) (suc c)) (omega arith) (omega arith)).0 ((leb_iff (min (i + j) (suc c)) (count b x (inputs (node l r)))).1 (omega (arith, split)))))
              (λ v. inl (inr (omega arith, (means_outputs r (x + inputs l) (y + variables c l) w.1 j (omega arith) (omega arith)).1 (λ t. let g = (leb_iff j cr).0 t in omega arith)))))
              (λ u. inl (inl (omega arith, (means_outputs l x y w.0 i (omega arith) (omega arith)).1 (λ t. let g = (leb_iff i cl).0 t in omega arith)))))),
        )
