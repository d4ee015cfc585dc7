-- A join by its cases; clauses in parts that are written one behind another, as those of a tree are.
use mathlib.Core.Path.{◌≡◌, refl, sym, subst}
use mathlib.Core.List.{List, [], ◌∷◌}
use Prim.Native.Nat.{ℕ, ◌+◌, ◌-◌, ◌/◌, ◌≤◌, ◌<◌, min}
use native.Mathlib.Nat.{zero-add, le_refl}
use native.Mathlib.Numerals.{add-one}
use native.Mathlib.Omega.{arith}
use borrow.Author.Tests.{lt-ltb}
use lib.IntN.{ℤ, pos, neg_ℤ}
use borrow.Rule.Slice.PartMut.{put_mid}
use lib.ListN.{length, get_or, take, drop}
use Rattle.lists.specs.Loop.{for, each}
use Rattle.lists.specs.Slice.{filled, Wrote}
use Rattle.lists.proofs.Slices.{Filling, each_filling, each_filled, filling_on, filling_next}
use Rattle.formula.specs.Formula.{Clause, line}
use Rattle.counting.specs.Over.{variables_over, clauses_over, node_clauses, own_clauses}
use Rattle.counting.proofs.Laws.{two_clauses}
use Rattle.tree_writer.specs.Rows.{joining, cell, row}
use Rattle.ceiling.specs.Tree.{join, joins}
use Rattle.counting.specs.declared.Node.{Node}

-- ---- the cases of a join
module _ (x y z : ℤ) where
  pub join_none : (i j : ℕ) → i ≡ 0 → j ≡ 0 → each line (joining x y z i j) ≡ []
  unfolding joining
  join_none i j a b = rw (a, b)

  pub join_right : (i j : ℕ) → i ≡ 0 → 0 < j → each line (joining x y z i j) ≡ line (y ∷ z ∷ [])
  unfolding joining
  join_right i j a b = rw (a, zero-add j, lt-ltb 0 j b)

  pub join_left : (i j : ℕ) → 0 < i → j ≡ 0 → each line (joining x y z i j) ≡ line (x ∷ z ∷ [])
  unfolding joining
  join_left i j a b = rw (lt-ltb 0 (i + j) (omega arith), lt-ltb 0 i a, b)

  pub join_both : (i j : ℕ) → 0 < i → 0 < j → each line (joining x y z i j) ≡ line (x ∷ y ∷ z ∷ [])
  unfolding joining
  join_both i j a b = rw (lt-ltb 0 (i + j) (omega arith), lt-ltb 0 i a, lt-ltb 0 j b)

-- ---- clauses in parts that are written one behind another
abbrev pub part_at : List (List Clause) → ℕ → List Clause
part_at parts i = get_or parts i []

-- the slice held s and holds f, with the parts below i, which end at `at`
abbrev pub Parts : List (List Clause) → List ℤ → ℕ → ℕ → List ℤ → Type 0
Parts parts s i at f = Filling (λ j. each line (part_at parts j)) (length parts) s i at f

module _ (parts : List (List Clause)) {cs : List Clause} (e : for (length parts) (part_at parts) ≡ cs) {s : List ℤ} where
  pub none_written : length (each line cs) ≤ length s → Parts parts s 0 0 s
  none_written r = each_filling line (part_at parts) (rw e r)

  pub all_written : {f : List ℤ} {end : ℕ} → Parts parts s (length parts) end f → Wrote (each line cs) s f end
  all_written {f} {end} w = subst (λ (ds : List Clause). Wrote (each line ds) s f end) e (each_filled line (part_at parts) w (le_refl _))

-- ---- a tree of two or more inputs: the left subtree's clauses, the right's, the node's
module _ (c l x y : ℕ) where
  abbrev pub tree_parts : List (List Clause)
  tree_parts =
      clauses_over c (l / 2) x y
      ∷ clauses_over c (l - l / 2) (x + l / 2) (y + variables_over c (l / 2))
      ∷ own_clauses c l x (y + variables_over c (l / 2)) (y + variables_over c (l / 2) + variables_over c (l - l / 2))
      ∷ []

  -- the second and the third, where u and v are what the calls before them answered
  module _ (s f : List ℤ) {u r : ℕ} (eu : u ≡ y + variables_over c (l / 2)) where
    pub right_written : Wrote (each line (clauses_over c (l - l / 2) (x + l / 2) u)) s f r → Wrote (each line (part_at tree_parts 1)) s f r
    right_written w = rw eu at w

    pub own_written : {v : ℕ} → v ≡ u + variables_over c (l - l / 2) → Wrote (each line (own_clauses c l x u v)) s f r → Wrote (each line (part_at tree_parts 2)) s f r
    own_written ev w = rw (ev, eu) at w

-- ---- the same tree part by part: the slice held s; the left subtree leaves f, the right's call leaves g, the node's o
module _ (c l x y : ℕ) (two : 2 ≤ l) (s : List ℤ) (room : length (each line (clauses_over c l x y)) ≤ length s) where
  pub tree_start : Parts (tree_parts c l x y) s 0 0 s
  tree_start = none_written (tree_parts c l x y) (sym (two_clauses c l x y two)) room

  module _ {r u : ℕ} {f : List ℤ} (left : (r ≡ length (each line (clauses_over c (l / 2) x y)))
      × (u ≡ y + variables_over c (l / 2)) × (f ≡ filled (each line (clauses_over c (l / 2) x y)) s)) where
    pub left_done : Parts (tree_parts c l x y) s 1 r f
    left_done = filling_on tree_start (omega arith) (left.0, left.2)

    module _ {q v : ℕ} {g : List ℤ} (right : (q ≡ length (each line (clauses_over c (l - l / 2) (x + l / 2) u)))
        × (v ≡ u + variables_over c (l - l / 2)) × (g ≡ filled (each line (clauses_over c (l - l / 2) (x + l / 2) u)) (take (length f - r) (drop r f)))) where
      pub right_done : Parts (tree_parts c l x y) s 2 (r + q) (put_mid r (length f - r) f g)
      right_done = filling_next left_done (omega arith) (right_written c l x y _ _ left.1 (right.0, right.2))

      module _ {k : ℕ} {o : List ℤ} (own : let b = put_mid r (length f - r) f g in
          Wrote (each line (own_clauses c l x u v)) (take (length b - (r + q)) (drop (r + q) b)) o k) where
        pub own_done : let b = put_mid r (length f - r) f g in
            Parts (tree_parts c l x y) s 3 (r + q + k) (put_mid (r + q) (length b - (r + q)) b o)
        own_done = filling_next right_done (omega arith) (own_written c l x y _ _ left.1 right.1 own)

-- a row is its cells; with the literals as the code counts them
pub row_cells : (c p q o b i : ℕ) → row c p q o b i ≡ for (b + 1) λ j. joining (neg_ℤ (pos (p + i))) (neg_ℤ (pos (q + j))) (pos (o + min (i + j) (c + 1))) i j
unfolding row cell
row_cells c p q o b i = rw (add-one b, add-one c) refl

-- a node is its rows
pub node_rows : (d : Node) → node_clauses d ≡ for (d.a + 1) (row d.ceiling.c d.p d.q d.o d.b)
unfolding joins join row cell joining
node_rows d = rw add-one refl
