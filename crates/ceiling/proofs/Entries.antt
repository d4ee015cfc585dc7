-- Entries: a valuation of any number of variables, and lists that are put together.
use mathlib.Core.Path.{◌≡◌, refl, sym, ◌∙◌, ap, subst}
use mathlib.Core.Logic.{◌↔◌, ◌⊎◌, inl, inr, ⊎_elim, by_cases}
use mathlib.Core.List.{List, [], ◌∷◌, ◌++◌}
use mathlib.Core.Bool.{Bool, true, false}
use Prim.Native.Nat.{ℕ, zero, suc, ◌+◌, ◌-◌, ◌≤◌, ◌<◌}
use native.Mathlib.Nat.{add-suc}
use native.Mathlib.Numerals.{sub-one}
use native.Mathlib.Decide.{dec_lt}
use native.Mathlib.Omega.{arith}
use lib.ListN.{length, get_or, length-append, get_or-append}
use lib.Seq.{get_or-append-add}
use lib.Dec.{T, leb}
use lib.IntN.{ℤ, pos, negsuc, neg_ℤ, nat_abs}
use Rattle.lists.specs.Loop.{for}
use Rattle.lists.proofs.Loops.{any_get_or}
use Rattle.lists.proofs.Blocks.{for1_length, for1_get_or}
use Rattle.valuation.specs.Valuation.{true?, same_number}
use Rattle.valuation.proofs.Entries.{same_number_iff}
use Rattle.ceiling.specs.Tree.{Tree, input, node, inputs, outputs, variables, before, tree_entries, count, entry_of, on, off}
use Rattle.valuation.specs.Satisfying.{Valuation}
use Rattle.ceiling.proofs.Tree.{Says, Means}

-- ---- truth under a valuation of N variables
module _ (N : ℕ) (es : List ℤ) (w : Valuation N es) where
  -- a true literal is the entry at its variable's place
  pub true_at : (l : ℤ) → T (true? es l) → (i : ℕ) × (i < N) × (nat_abs l ≡ suc i) × (get_or es i (pos 0) ≡ l)
  unfolding true?
  true_at l t =
      let (i, r, q) = (any_get_or (pos 0) (same_number l) es).0 t in
      let e : l ≡ get_or es i (pos 0) = (same_number_iff l (get_or es i (pos 0))).0 q in
      let o : i < N = omega (arith, r, w.size) in
      (i, o, ⊎_elim (λ z. ap nat_abs (e ∙ z)) (λ z. ap nat_abs (e ∙ z)) (w.each i o), sym e)

  pub true_here : (i : ℕ) → i < N → T (true? es (get_or es i (pos 0)))
  unfolding true?
  true_here i l = (any_get_or (pos 0) _ es).1 (i, omega (arith, w.size), (same_number_iff (get_or es i (pos 0)) (get_or es i (pos 0))).1 refl)

  nat_abs_off : (z : ℕ) → nat_abs (neg_ℤ (pos z)) ≡ z
  nat_abs_off zero = refl
  nat_abs_off (suc z) = refl

  -- no literal is true with its negative
  pub clash : (z : ℕ) → T (true? es (on z)) → T (true? es (off z)) → ⊥
  clash zero t f = let (i, l, a, e) = true_at (pos 0) t in let g : 0 ≡ suc i = a in omega arith
  clash (suc z) t f =
      let (i, l, a, e) = true_at (pos (suc z)) t in
      let (j, r, b, d) = true_at (negsuc z) f in
      let a' : suc z ≡ suc i = a in
      let b' : suc z ≡ suc j = b in
      let q : i ≡ j = omega arith in
      let e' : get_or es j (pos 0) ≡ pos (suc z) = subst (λ (u : ℕ). get_or es u (pos 0) ≡ pos (suc z)) q e in
      let o : ◌≡◌ {A = ℕ} 0 1 = cc in
      omega arith

  -- one of the two is
  pub either : (i : ℕ) → i < N → T (true? es (off (suc i))) ↔ (T (true? es (on (suc i))) → ⊥)
  either i l = (
    (λ f t. clash (suc i) t f),
    (λ f. ⊎_elim
        (λ e. absurd (f (subst (λ (z : ℤ). T (true? es z)) e (true_here i l))))
        (λ e. subst (λ (z : ℤ). T (true? es z)) e (true_here i l))
        (w.each i l)),
  )

-- ---- ws stands in es from place y on
pub record Part (es : List ℤ) (y : ℕ) (ws : List ℤ) : Type 0 where
  pub room : y + length ws ≤ length es
  pub same : (j : ℕ) → j < length ws → get_or es (y + j) (pos 0) ≡ get_or ws j (pos 0)

pub part_whole : (es : List ℤ) → Part es 0 es
part_whole es = record { room = omega arith; same = λ j l. let e : 0 + j ≡ j = omega arith in rw e refl }

pub part_append : (es : List ℤ) (y : ℕ) (us vs : List ℤ) → Part es y (us ++ vs) → Part es y us × Part es (y + length us) vs
part_append es y us vs p =
    let r = p.room in
    let a = length-append us vs in (
      record { room = omega arith; same = λ j l. p.same j (omega arith) ∙ get_or-append us vs (pos 0) j l },
      record {
        room = omega arith;
        same = λ j l.
            let e : y + length us + j ≡ y + (length us + j) = omega arith in
            rw e (p.same (length us + j) (omega arith) ∙ get_or-append-add us vs j (pos 0));
      },
    )

pub says_entry : (es : List ℤ) (i : ℕ) (b : Bool) → i < length es → get_or es i (pos 0) ≡ entry_of b (suc i) → Says (true? es) (suc i) b
unfolding true?
says_entry es i true l e = ((λ t. (any_get_or (pos 0) _ es).1 (i, l, (same_number_iff (pos (suc i)) (get_or es i (pos 0))).1 (sym e))), (λ f. absurd (f tt)))
says_entry es i false l e = ((λ t. absurd t), (λ f. (any_get_or (pos 0) _ es).1 (i, l, (same_number_iff (negsuc i) (get_or es i (pos 0))).1 (sym e))))

-- entries made one after another, where entry j says g j of the variable y + j + 1
pub says_for : (es : List ℤ) (y n : ℕ) (g : ℕ → Bool) → Part es y (for n λ j. entry_of (g j) (y + suc j) ∷ [])
    → (i : ℕ) → 0 < i → i ≤ n → Says (true? es) (y + i) (g (i - 1))
says_for es y n g p zero l h = absurd (let f : ⊥ = omega arith in f)
says_for es y n g p (suc j) l h =
    let len = for1_length n (λ j. entry_of (g j) (y + suc j)) in
    let r = p.room in
    let e : get_or es (y + j) (pos 0) ≡ entry_of (g j) (y + suc j) = p.same j (omega arith) ∙ for1_get_or n (λ j. entry_of (g j) (y + suc j)) (pos 0) j (omega arith) in
    rw (sub-one, add-suc) (says_entry es (y + j) (g j) (omega arith) (rw add-suc at e))

module _ (c : ℕ) (b : ℕ → Bool) where
  pub tree_entries_length : (t : Tree) (x y : ℕ) → length (tree_entries b c t x y) ≡ variables c t
  unfolding tree_entries variables
  tree_entries_length input x y = refl
  tree_entries_length (node l r) x y =
      rw (length-append, length-append, tree_entries_length l x y, tree_entries_length r (x + inputs l) (y + variables c l))
      (ap (λ (n : ℕ). variables c l + variables c r + n) (for1_length (outputs c (node l r)) _))

  -- ---- the entries of a tree mean what they should
  pub entries_mean : (es : List ℤ) (t : Tree) (x y : ℕ) → ((j : ℕ) → j < inputs t → Says (true? es) (x + suc j) (b (x + suc j)))
      → Part es y (tree_entries b c t x y) → Means c (true? es) b t x y
  unfolding tree_entries Means inputs before
  entries_mean es input x y s p = s 0 (omega arith)
  entries_mean es (node l r) x y s p =
      let left = tree_entries_length l x y in
      let right = tree_entries_length r (x + inputs l) (y + variables c l) in
      let (q, own) = part_append es y _ _ p in
      let (u, v) = part_append es y _ _ q in (
        entries_mean es l x y (λ j h. s j (omega arith)) u,
        entries_mean es r (x + inputs l) (y + variables c l)
            (λ j h. let e : x + inputs l + suc j ≡ x + suc (inputs l + j) = omega arith in rw e (s (inputs l + j) (omega arith)))
            (rw left at v),
        (λ i h k.
            let e : suc (i - 1) ≡ i = omega arith in
            subst (λ (u : ℕ). Says (true? es) (y + (variables c l + variables c r) + i) (leb u (count b x (inputs l + inputs r)))) e
            (says_for es (y + (variables c l + variables c r)) (outputs c (node l r)) (λ j. leb (suc j) (count b x (inputs l + inputs r))) (rw (length-append, left, right) at own) i h k)),
      )

-- ---- entry j of the list is the variable y + j + 1 or its negative
abbrev pub Entry : ℕ → ℤ → Type 0
Entry i z = (z ≡ pos (suc i)) ⊎ (z ≡ neg_ℤ (pos (suc i)))

abbrev pub Numbered : ℕ → List ℤ → Type 0
Numbered y ws = (j : ℕ) → j < length ws → Entry (y + j) (get_or ws j (pos 0))

pub numbered_append : (y : ℕ) (us vs : List ℤ) → Numbered y us → Numbered (y + length us) vs → Numbered y (us ++ vs)
numbered_append y us vs a b j l =
    by_cases (dec_lt j (length us))
    (λ h. subst (λ (z : ℤ). Entry (y + j) z) (sym (get_or-append us vs (pos 0) j h)) (a j h))
    (λ h.
    let i : ℕ = j - length us in
    let e : length us + i ≡ j = omega arith in
    let e' : y + length us + i ≡ y + j = omega arith in
    subst (λ (x : ℕ). Entry x (get_or (us ++ vs) j (pos 0))) e'
    (subst (λ (z : ℤ). Entry (y + length us + i) z) (sym (get_or-append-add us vs i (pos 0)) ∙ ap (λ (x : ℕ). get_or (us ++ vs) x (pos 0)) e)
    (b i (omega (arith, length-append us vs)))))

entry_cases : (b : Bool) (i : ℕ) → Entry i (entry_of b (suc i))
entry_cases true i = inl refl
entry_cases false i = inr refl

pub numbered_for : (y n : ℕ) (g : ℕ → Bool) → Numbered y (for n λ j. entry_of (g j) (y + suc j) ∷ [])
numbered_for y n g j l =
    let len = for1_length n (λ j. entry_of (g j) (y + suc j)) in
    subst (λ (z : ℤ). Entry (y + j) z) (sym (for1_get_or n (λ j. entry_of (g j) (y + suc j)) (pos 0) j (omega arith)))
    (rw add-suc (entry_cases (g j) (y + j)))

pub numbered_tree : (c : ℕ) (b : ℕ → Bool) (t : Tree) (x y : ℕ) → Numbered y (tree_entries b c t x y)
unfolding tree_entries before
numbered_tree c b input x y = λ j l. absurd (let f : ⊥ = omega arith in f)
numbered_tree c b (node l r) x y =
    let left = tree_entries_length c b l x y in
    let right = tree_entries_length c b r (x + inputs l) (y + variables c l) in
    let us : List ℤ = tree_entries b c l x y in
    let vs : List ℤ = tree_entries b c r (x + inputs l) (y + variables c l) in
    let ws : List ℤ = for (outputs c (node l r)) λ j. entry_of (leb (suc j) (count b x (inputs (node l r)))) (y + (variables c l + variables c r) + suc j) ∷ [] in
    numbered_append y (us ++ vs) ws
    (numbered_append y us vs (numbered_tree c b l x y) (rw left (numbered_tree c b r (x + inputs l) (y + variables c l))))
    (rw (length-append, left, right) (numbered_for (y + (variables c l + variables c r)) (outputs c (node l r)) (λ j. leb (suc j) (count b x (inputs (node l r))))))
