-- A loop that writes one entry a turn; the tree by the length of its list; and a plan's entries by the array.
use mathlib.Core.Path.{◌≡◌, refl, sym, ◌∙◌, ap, ap₂, subst}
use mathlib.Core.Logic.Iff
use mathlib.Core.List.{List, [], ◌∷◌, ◌++◌, append-nil}
use mathlib.Core.Bool.{Bool, true, false, cond}
use Prim.Native.Nat.{ℕ, zero, suc, ◌+◌, ◌-◌, ◌*◌, ◌/◌, ◌%◌, ◌≤◌, ◌<◌, min}
use native.Mathlib.Nat.{mod-lt}
use native.Mathlib.Numerals.{add-one}
use native.Mathlib.Omega.{arith}
use borrow.Rule.Slice.PartMut.{put_mid}
use mir.Val.{bool_byte}
use lib.ListN.{length, get_or, take, drop, set, replicate, length-replicate, get_or-append, drop_of_length-le}
use lib.Seq.{length-take-le}
use lib.Dec.{ltb, leb}
use lib.IntN.{ℤ}
use Rattle.lists.specs.Loop.{for}
use Rattle.lists.specs.Slice.{filled, Wrote}
use Rattle.lists.proofs.Tests.{T_ext, ltb_iff}
use Rattle.lists.proofs.Loops.{for_ext}
use Rattle.lists.proofs.Blocks.{for1_length, for1_get_or, place_lt, quotient, remainder}
use Rattle.lists.proofs.Slices.{Filling, filling_from, filling_next, filling_on, filling_set, filling_done}
use Rattle.instance.specs.declared.Sizes.{Sizes}
use Rattle.instance.specs.Limits.{Limits}
use Rattle.formula.specs.Variables.{variable_count}
use Rattle.formula.proofs.Limits.{agent_steps}
use Rattle.plan.specs.Plan.{plan_row, rest_time}
use Rattle.plan.proofs.Rest.{busy_iff}
use Rattle.ceiling.specs.Tree.{Tree, input, node, tree_over, inputs, outputs, variables, before, tree_entries, count, entry_of}
use Rattle.ceiling.specs.Ceiling.{added_variables}
use Rattle.ceiling.specs.Encoded.{busy_at, busy_entries, counter_entries}
use Rattle.ceiling.proofs.Tree.{tree_one, tree_two, tree_inputs, count_split, count_le, count_same}
use Rattle.ceiling.proofs.Entries.{tree_entries_length}
use Rattle.ceiling.proofs.Ceiling.{busy_flat}
use Rattle.counting.specs.Over.{variables_over}
use Rattle.counting.proofs.Laws.{tree_fits, one_variables}
use Rattle.added_entries.specs.Rest.{rest_times, mark, marks_of, entries_of, busy_in, entries_over, count_over}

-- ---- a loop that writes the entries of n variables after y, one a turn: entry j says g j
module _ (g : ℕ → Bool) (y n : ℕ) (s : List ℤ) where
  abbrev pub Writing : ℕ → List ℤ → Type 0
  Writing i f = Filling (λ j. entry_of (g j) (y + suc j) ∷ []) n s i i f

  pub writing_from : n ≤ length s → Writing 0 s
  writing_from h = filling_from 0 (omega arith) refl (omega (arith, for1_length n (λ j. entry_of (g j) (y + suc j))))

  pub writing_next : {i : ℕ} {f : List ℤ} {x : ℤ} → Writing i f → i < n → x ≡ entry_of (g i) (y + (i + 1)) → Writing (i + 1) (set f i x)
  writing_next {i} {f} {x} w l e = filling_set w l x (ap (λ (u : ℤ). u ∷ []) (sym (e ∙ ap (λ (j : ℕ). entry_of (g i) (y + j)) (add-one i))))

-- ---- a loop over the first n places of a slice, which writes each
module _ {A : Type 0} {n : ℕ} (s : List A) (h : n ≤ length s) where
  part_length : length (take n s) ≡ n
  part_length = length-take-le n s h

  pub part_within : {i : ℕ} → i < length (take n s) → i < n
  part_within l = omega (arith, l, part_length)

  pub part_from : {g : ℕ → A} → Filling (λ j. g j ∷ []) n (take n s) 0 0 (take n s)
  part_from {g} = filling_from 0 (omega arith) refl (omega (arith, for1_length n g, part_length))

  pub part_done : {g : ℕ → A} {i : ℕ} {f : List A} → Filling (λ j. g j ∷ []) n (take n s) i i f → length (take n s) ≤ i
      → f ++ drop n s ≡ filled (for n λ j. g j ∷ []) s
  unfolding filled
  part_done {g} w l =
      let e = (filling_done w (omega (arith, l, part_length))).1 in
      let none = drop_of_length-le (take n s) {i = n} (omega (arith, part_length)) in
      rw (e, for1_length n g, none, append-nil) refl

-- ---- three lists that are written one behind another: the second to the part that starts after the first, the third to the whole slice
three : List ℤ → List ℤ → List ℤ → ℕ → List ℤ
three us vs ws zero = us
three us vs ws (suc zero) = vs
three us vs ws (suc (suc i)) = ws

pub wrote_three : (us vs ws s f ys z : List ℤ) {a b r : ℕ} → length (us ++ vs ++ ws) ≤ length s
    → Wrote us s f a
    → Wrote vs (take (length f - a) (drop a f)) ys b
    → Wrote (take (a + b) (put_mid a (length f - a) f ys) ++ ws) (put_mid a (length f - a) f ys) z r
    → Wrote (us ++ vs ++ ws) s z r
unfolding three
wrote_three us vs ws s f ys z h left right own =
    filling_done
    (filling_on (filling_next (filling_on (filling_from {g = three us vs ws} {n = 3} 0 (omega arith) refl h) (omega arith) left) (omega arith) right) (omega arith) own)
    (omega arith)

-- ---- the tree by the length of its list
-- a truth as the code counts it, and as `count` does
as_number : (b : Bool) → bool_byte b ≡ 0 + cond b 1 0
as_number true = refl
as_number false = refl

module _ (marks : List Bool) where
  pub one_entries : (c l x y : ℕ) → l < 2 → entries_over marks c l x y ≡ []
  unfolding entries_over tree_entries
  one_entries c l x y h = rw (tree_one l h)

  pub one_count : (x : ℕ) → bool_byte (busy_in marks x) ≡ count_over marks 1 x
  unfolding count_over
  one_count x = let e : x + 1 - 1 ≡ x = omega arith in rw e (as_number (busy_in marks x))

  pub count_within : (l x : ℕ) → count_over marks l x ≤ l
  unfolding count_over
  count_within l x = count_le (λ z. busy_in marks (z - 1)) x l

  pub two_count : (l x : ℕ) → count_over marks l x ≡ count_over marks (l / 2) x + count_over marks (l - l / 2) (x + l / 2)
  unfolding count_over
  two_count l x =
      let e : l / 2 + (l - l / 2) ≡ l = omega arith in
      ap (λ (n : ℕ). count (λ z. busy_in marks (z - 1)) x n) (sym e) ∙ count_split (λ z. busy_in marks (z - 1)) x (l / 2) (l - l / 2)

  pub entries_length : (c l x y : ℕ) → length (entries_over marks c l x y) ≡ variables_over c l
  unfolding entries_over variables_over
  entries_length c l x y = tree_entries_length c (λ z. busy_in marks (z - 1)) (tree_over l) x y

  -- a entries on the left and b on the right, and n inputs that are true
  pub two_entries : (c l x y : ℕ) {a b n : ℕ} → 2 ≤ l → a ≡ variables_over c (l / 2) → b ≡ variables_over c (l - l / 2) → n ≡ count_over marks l x
      → entries_over marks c (l / 2) x y ++ entries_over marks c (l - l / 2) (x + l / 2) (y + a) ++ entries_of (λ j. ltb j n) (min l (c + 1)) (y + (a + b))
      ≡ entries_over marks c l x y
  unfolding entries_over tree_entries outputs before inputs variables_over count_over
  two_entries c l x y h ea eb en =
      let left = tree_inputs (l / 2) (omega arith) in
      let right = tree_inputs (l - l / 2) (omega arith) in
      let e : l / 2 + (l - l / 2) ≡ l = omega arith in
      rw (ea, eb, en, tree_two l h, left, right, e, add-one c)

  -- two inputs: nothing stands before the node's own
  pub pair_entries : (c l x y : ℕ) {a b n : ℕ} (s : List ℤ) → l ≡ 2 → a ≡ 0 → b ≡ 0 → n ≡ count_over marks l x
      → take (a + b) s ++ entries_of (λ j. ltb j n) (min l (c + 1)) (y + (a + b)) ≡ entries_over marks c l x y
  pair_entries c l x y s h ea eb en =
      let none = one_entries c 1 x y (omega arith) in
      let also = one_entries c 1 (x + 1) (y + 0) (omega arith) in
      let all = two_entries c 2 x y {a = 0} {b = 0} (omega arith) (sym (one_variables c 1 (omega arith))) (sym (one_variables c 1 (omega arith))) (en ∙ ap (λ (k : ℕ). count_over marks k x) h) in
      rw (h, ea, eb) (rw (none, also) at all)

  pub pair_count : (l x : ℕ) → l ≡ 2 → count_over marks l x ≡ count_over marks 1 x + count_over marks 1 (x + 1)
  pair_count l x h = rw h (two_count 2 x)

-- ---- the entries depend on the truth of the inputs alone, wherever these stand
module _ (b d : ℕ → Bool) (c : ℕ) where
  entries_same : (t : Tree) (x w y : ℕ) → ((j : ℕ) → j < inputs t → b (x + suc j) ≡ d (w + suc j)) → tree_entries b c t x y ≡ tree_entries d c t w y
  unfolding tree_entries inputs before
  entries_same input x w y h = refl
  entries_same (node l r) x w y h =
      ap₂ ◌++◌
      (ap₂ ◌++◌
      (entries_same l x w y (λ j q. h j (omega arith)))
      (entries_same r (x + inputs l) (w + inputs l) (y + variables c l)
      (λ j q.
      let e : x + inputs l + suc j ≡ x + suc (inputs l + j) = omega arith in
      let f : w + inputs l + suc j ≡ w + suc (inputs l + j) = omega arith in
      rw (e, f) (h (inputs l + j) (omega arith)))))
      (ap (λ (n : ℕ). for (outputs c (node l r)) λ j. entry_of (leb (suc j) n) (before c (node l r) x y + suc j) ∷ []) (count_same b d (inputs l + inputs r) x w h))

-- ---- the marks, one a turn: input t * k + a is that of agent a at time t
module _ (rest : List ℕ) (m k : ℕ) where
  abbrev pub Marking : ℕ → List Bool → Type 0
  Marking i f = Filling (λ j. mark rest k j ∷ []) (m * k) (replicate 512 false) i i f

  pub marking_from : m * k ≤ 512 → Marking 0 (replicate 512 false)
  marking_from h =
      filling_from 0 (omega arith) refl (omega (arith, h, for1_length (m * k) (mark rest k), length-replicate {A = Bool} 512 false))

  pub marking_next : {t a : ℕ} {f : List Bool} {x : Bool} → Marking (t * k + a) f → t < m → a < k → x ≡ ltb t (get_or rest a 0)
      → Marking (t * k + (a + 1)) (set f (t * k + a) x)
  marking_next {t} {a} {f} {x} w h l e =
      let n : t * k + a + 1 ≡ t * k + (a + 1) = omega arith in
      subst (λ (i : ℕ). Marking i (set f (t * k + a) x)) n
      (filling_set w (place_lt m k t a h l) x (rw (quotient t k a l, remainder t k a l) (ap (λ (b : Bool). b ∷ []) (sym e))))

-- ---- a plan's entries by the array
module _ (s : Sizes) (p rest : List ℕ) (w : rest ≡ filled (rest_times s p) (replicate 16 0)) (some : 1 ≤ s.k) (marks : List Bool) (v : marks ≡ filled (marks_of rest s.k (s.m * s.k)) (replicate 512 false)) where
  open s use {k, m}

  abbrev N : ℕ
  N = variable_count s

  rest_at : (a : ℕ) → a < k → get_or rest a 0 ≡ rest_time m (plan_row s p) a
  unfolding filled
  rest_at a l =
      ap (λ (r : List ℕ). get_or r a 0) w
      ∙ get_or-append (rest_times s p) _ 0 a (omega (arith, for1_length k (rest_time m (plan_row s p))))
      ∙ for1_get_or k (rest_time m (plan_row s p)) 0 a l

  marked : (i : ℕ) → i < m * k → busy_in marks i ≡ ltb (i / k) (get_or rest (i % k) 0)
  unfolding filled busy_in
  marked i l =
      ap (λ (r : List Bool). get_or r i false) v
      ∙ get_or-append (marks_of rest k (m * k)) _ false i (omega (arith, for1_length (m * k) (mark rest k)))
      ∙ for1_get_or (m * k) (mark rest k) false i l

  busy_same : (i : ℕ) → i < m * k → busy_at s p (N + suc i) ≡ busy_in marks i
  unfolding busy_at
  busy_same i l =
      let e : variable_count s + suc i - suc (variable_count s) ≡ i = omega arith in
      rw (e, marked i l, rest_at (i % k) (mod-lt i some))
      (T_ext _ _ (Iff.trans (busy_iff m (plan_row s p) (i % k) (i / k)) (Iff.symm (ltb_iff (i / k) (rest_time m (plan_row s p) (i % k))))))

  busy_entries_lem : busy_entries s p ≡ entries_of (busy_in marks) (m * k) N
  busy_entries_lem = busy_flat s p ∙ for_ext (m * k) _ _ (λ i l. ap (λ (b : Bool). entry_of b (N + suc i) ∷ []) (busy_same i l))

  counter_entries_lem : (c : ℕ) → 1 ≤ m * k → counter_entries s p c ≡ entries_over marks c (m * k) 0 (N + m * k)
  unfolding counter_entries entries_over
  counter_entries_lem c more =
      entries_same (busy_at s p) (λ z. busy_in marks (z - 1)) c (tree_over (m * k)) N 0 (N + m * k)
      (λ j l. let e : 0 + suc j - 1 ≡ j = omega arith in rw e (busy_same j (omega (arith, l, tree_inputs (m * k) more))))

  pub added_entries : (c : ℕ) {n : ℕ} → 1 ≤ m * k → n ≡ N
      → entries_of (busy_in marks) (m * k) n ++ entries_over marks c (m * k) 0 (n + m * k) ≡ busy_entries s p ++ counter_entries s p c
  added_entries c more e = rw (e, busy_entries_lem, counter_entries_lem c more)

-- ---- what is added, and how many
module _ (s : Sizes) where
  open s use {k, m}

  -- at m 0, nothing
  pub none_added : (p : List ℕ) (c : ℕ) → m * k ≡ 0 → busy_entries s p ++ counter_entries s p c ≡ []
  unfolding counter_entries tree_entries
  none_added p c e =
      ap₂ ◌++◌
      (busy_flat s p ∙ ap (λ (n : ℕ). for n λ i. entry_of (busy_at s p (variable_count s + suc i)) (variable_count s + suc i) ∷ []) e)
      (rw (tree_one (m * k) (omega arith)) refl)

  pub record Added (c : ℕ) : Type 0 where
    pub all : added_variables s c ≡ m * k + variables_over c (m * k)
    pub inputs : m * k ≤ 512
    pub own : variables_over c (m * k) ≤ 4608

  pub added : Limits s → (c : ℕ) → Added c
  unfolding added_variables variables_over
  added w c = record { all = refl; inputs = agent_steps s w; own = tree_fits c (m * k) (agent_steps s w) }
