-- Blocks of clauses as the loops write them.
use mathlib.Core.Path.{◌≡◌, refl, ◌∙◌, ap, ap₂, fun_ext}
use mathlib.Core.Bool.{Bool, true}
use mathlib.Core.List.{List, [], ◌∷◌, ◌++◌, append-nil}
use Prim.Native.Nat.{ℕ, suc, ◌+◌, ◌-◌, ◌*◌, ◌≤◌, ◌<◌}
use native.Mathlib.Nat.{suc-mul, mul-le-mul_right}
use native.Mathlib.Numerals.{add-one}
use native.Mathlib.Omega.{arith}
use borrow.Author.Tests.{lt-ltb, le-ltb, eq-eqb, ne_eqb}
use lib.ListN.{length, length-append}
use lib.IntN.{ℤ, pos, neg_ℤ}
use Rattle.lists.specs.Loop.{for, when, each}
use Rattle.lists.specs.Slice.{Wrote}
use Rattle.lists.proofs.Loops.{for_ext, for_split, for_nil, each_append}
use Rattle.instance.specs.declared.Sizes.{Sizes}
use Rattle.formula.specs.Variables.{Literal, index, highest}
use Rattle.formula.specs.Formula.{Clause, line, no_two, block_d, block_e, exchange}
use Rattle.formula.proofs.Variables.{vertices_run, agents_run}
use Rattle.variables.specs.declared.Variable.{Variable}
use Rattle.families.specs.declared.Run.{Run}
use Rattle.families.specs.Runs.{nots, above, exchanging}

-- a block of one clause
pub one : (c : Clause) (s f : List ℤ) {r : ℕ} → Wrote (line c) s f r → Wrote (each line (c ∷ [])) s f r
one c s f w = rw (append-nil (line c)) w

pub one_room : (c : Clause) {n : ℕ} → length (each line (c ∷ [])) ≤ n → length (line c) ≤ n
one_room c h = rw (append-nil (line c)) at h

-- clauses under a test that holds
pub holding : {b : Bool} → b ≡ true → (cs : List Clause) (s f : List ℤ) {r : ℕ} → Wrote (each line cs) s f r → Wrote (each line (when b cs)) s f r
holding e cs s f w = rw e w

-- ---- pairs of a run
pub within : (run : Run) {i : ℕ} → i < run.count → run.first.0 + run.count * run.stride ≤ highest → run.first.0 + i * run.stride ≤ highest
within run {i} l h = omega (arith, suc-mul i run.stride, mul-le-mul_right run.stride l)

module _ (¬x : ℕ → Literal) where
  pub above_none : (i j : ℕ) → j < suc i → above ¬x i j ≡ []
  above_none i j l = rw (le-ltb i j (omega arith))

  -- those that i begins
  pub above_after : (i n : ℕ) → i < n → for n (above ¬x i) ≡ for (n - (i + 1)) λ j. (¬x i ∷ ¬x (i + 1 + j) ∷ []) ∷ []
  above_after i n l =
      let e : n ≡ i + 1 + (n - (i + 1)) = omega arith in
      ap (λ (k : ℕ). for k (above ¬x i)) e
      ∙ for_split (i + 1) (n - (i + 1)) (above ¬x i)
      ∙ ap (λ (k : List Clause). k ++ for (n - (i + 1)) (λ j. above ¬x i (i + 1 + j))) ((for_nil (i + 1) (above ¬x i)).1 (λ j h. above_none i j (omega arith)))
      ∙ for_ext (n - (i + 1)) _ _ (λ j h. rw (lt-ltb i (i + 1 + j) (omega arith)) refl)

-- ---- agents that exchange u and v
module _ (s : Sizes) (t u v : ℕ) where
  -- of agent a, with those below it, then with those above it
  abbrev pub below : ℕ → List Clause
  below a = for a λ b. exchange s t u v a b ∷ []

  abbrev pub beyond : ℕ → List Clause
  beyond a = for (s.k - (a + 1)) λ b. exchange s t u v a (a + 1 + b) ∷ []

  pub exchanging_parts : (a : ℕ) → a < s.k → for s.k (exchanging s t u v a) ≡ below a ++ beyond a
  exchanging_parts a l =
      let e : s.k ≡ a + 1 + (s.k - (a + 1)) = omega arith in
      let none : exchanging s t u v a a ≡ [] = rw (eq-eqb a a refl) refl in
      ap (λ (k : ℕ). for k (exchanging s t u v a)) e
      ∙ for_split (a + 1) (s.k - (a + 1)) (exchanging s t u v a)
      ∙ ap₂ (λ (i j : List Clause). i ++ j)
      (rw (add-one, none, append-nil) (for_ext a _ _ (λ b h. rw (ne_eqb a b (omega arith)) refl)))
      (for_ext (s.k - (a + 1)) _ _ (λ b h. rw (ne_eqb a (a + 1 + b) (omega arith)) refl))

  pub exchanging_room : (a : ℕ) → a < s.k → {n : ℕ} → length (each line (for s.k (exchanging s t u v a))) ≤ n
      → length (each line (below a)) + length (each line (beyond a)) ≤ n
  exchanging_room a l h =
      omega (arith, h, ap length (ap (each line) (exchanging_parts a l) ∙ each_append line (below a) (beyond a)), length-append (each line (below a)) (each line (beyond a)))

  pub exchanging_wrote : (a : ℕ) → a < s.k → (l f : List ℤ) {r : ℕ} → Wrote (each line (below a) ++ each line (beyond a)) l f r → Wrote (each line (for s.k (exchanging s t u v a))) l f r
  exchanging_wrote a h l f w = rw (exchanging_parts a h, each_append) w

-- ---- D and E: the vertices of an agent are a run, and the agents of a vertex
module _ (s : Sizes) (t : ℕ) where
  open s use {n, k, m}

  pub vertices : (a : ℕ) (x : Variable) → x.0 ≡ suc (index s t a 0) → no_two n (nots (record { first = x; stride = 1; count = n })) ≡ block_d s t a
  vertices a x e =
      ap (no_two n) (fun_ext (λ v.
      let q : x.0 + v * 1 ≡ suc (index s t a v) = omega (arith, vertices_run s t a v) in
      ap (λ (y : ℕ). neg_ℤ (pos y)) q))

  pub agents : (v : ℕ) (x : Variable) → x.0 ≡ suc (index s t 0 v) → no_two k (nots (record { first = x; stride = (m + 1) * n; count = k })) ≡ block_e s t v
  agents v x e =
      ap (no_two k) (fun_ext (λ a.
      let q : x.0 + a * ((m + 1) * n) ≡ suc (index s t a v) = omega (arith, agents_run s t v a) in
      ap (λ (y : ℕ). neg_ℤ (pos y)) q))
