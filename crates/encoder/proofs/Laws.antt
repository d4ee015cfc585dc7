-- A slice that is filled by a loop: one element a turn, or one row of entries a turn.
use mathlib.Core.Path.{◌≡◌, sym, ◌∙◌, ap, ap₂}
use mathlib.Core.List.{List, [], ◌∷◌, ◌++◌, append_assoc, append-nil}
use mathlib.Core.Logic.{by_cases}
use mathlib.Core.Bool.{Bool, cond}
use Prim.Native.Nat.{ℕ, zero, suc, ◌+◌, ◌-◌, ◌≤◌, ◌<◌}
use native.Mathlib.Numerals.{add-one}
use native.Mathlib.Omega.{arith}
use borrow.Rule.Slice.PartMut.{put_mid}
use native.Mathlib.Decide.{ℕ_discrete}
use borrow.Author.Tests.{eq-eqb, ne_eqb}
use lib.Dec.{eqb}
use lib.IntN.{ℤ, pos, neg_ℤ}
use lib.ListN.{length, length-append, take, drop, set}
use lib.Seq.{set-set, set_comm}
use Rattle.lists.specs.Loop.{for}
use Rattle.lists.specs.Slice.{filled}
use Rattle.lists.proofs.Slices.{filled_set, filled_part}
use Rattle.lists.proofs.Loops.{for_ext}
use Rattle.lists.proofs.Blocks.{for1_length, for2_length, for3_length}
use Rattle.instance.specs.declared.Sizes.{Sizes}
use Rattle.formula.specs.Variables.{X, ¬X, index}
use Rattle.formula.proofs.Variables.{index_before, vertices_run}
use Rattle.plan.specs.Plan.{plan_row}
use Rattle.valuation.specs.Valuation.{entry_for}

module _ {A : Type 0} where
  pub filled_next : (f : ℕ → A) (z l : List A) (v : ℕ) (x : A) → z ≡ filled (for v λ u. f u ∷ []) l → v < length l → x ≡ f v
      → set z v x ≡ filled (for (v + 1) λ u. f u ∷ []) l
  filled_next f z l v x e h q =
      ap₂ (λ (y : List A) (w : A). set y v w) e q
      ∙ filled_set (for v λ u. f u ∷ []) l v (f v) (f v) (for1_length v f) h
      ∙ ap (λ (j : ℕ). filled (for j λ u. f u ∷ []) l) (sym (add-one v))

  filled_last : (f : ℕ → A) (n : ℕ) (l : List A) → n < length l
      → filled (for (suc n) λ v. f v ∷ []) l ≡ set (filled (for n λ v. f v ∷ []) l) n (f n)
  filled_last f n l h = sym (filled_set (for n λ v. f v ∷ []) l n (f n) (f n) (for1_length n f) h)

  -- where p is not among those below n, no element differs
  pub filled_none : (f g : ℕ → A) (p n : ℕ) (l : List A) → n ≤ p
      → filled (for n λ v. f v ∷ []) l ≡ filled (for n λ v. cond (eqb p v) (g v) (f v) ∷ []) l
  filled_none f g p n l h =
      ap (λ (out : List A). filled out l)
      (for_ext n _ _ (λ v b. ap (λ (t : Bool). cond t (g v) (f v) ∷ []) (sym (ne_eqb p v (λ e. let x : ⊥ = omega arith in x)))))

  -- where it is, one store makes the difference
  pub filled_but : (f g : ℕ → A) (p n : ℕ) (l : List A) → n ≤ length l → p < n
      → set (filled (for n λ v. f v ∷ []) l) p (g p) ≡ filled (for n λ v. cond (eqb p v) (g v) (f v) ∷ []) l
  filled_but f g p zero l h b = absurd (let x : ⊥ = omega arith in x)
  filled_but f g p (suc n) l h b =
      let r : ℕ → A = λ v. cond (eqb p v) (g v) (f v) in
      ap (λ (y : List A). set y p (g p)) (filled_last f n l (omega arith))
      ∙ by_cases (ℕ_discrete p n)
      (λ e.
      ap (λ (q : ℕ). set (set (filled (for n λ v. f v ∷ []) l) n (f n)) q (g q)) e
      ∙ set-set (filled (for n λ v. f v ∷ []) l) n (f n) (g n)
      ∙ ap (λ (y : List A). set y n (g n)) (filled_none f g p n l (omega arith))
      ∙ ap (λ (t : Bool). set (filled (for n λ v. r v ∷ []) l) n (cond t (g n) (f n))) (sym (eq-eqb p n e)))
      (λ d.
      sym (set_comm (filled (for n λ v. f v ∷ []) l) p n (g p) (f n) d)
      ∙ ap (λ (y : List A). set y n (f n)) (filled_but f g p n l (omega arith) (omega arith))
      ∙ ap (λ (t : Bool). set (filled (for n λ v. r v ∷ []) l) n (cond t (g n) (f n))) (sym (ne_eqb p n d)))
      ∙ sym (filled_last r n l (omega arith))

-- the entries of agent a at time t, and those that stand before them
module _ (s : Sizes) (p : List ℕ) where
  open s use {n, k, m}

  abbrev pub row : ℕ → ℕ → List ℤ
  row a t = for n λ v. entry_for s p t a v ∷ []

  abbrev pub before : ℕ → ℕ → List ℤ
  before a t = (for a λ b. for (suc m) (row b)) ++ for t (row a)

  before_length : (a t : ℕ) → length (before a t) ≡ index s t a 0
  before_length a t =
      length-append (for a λ b. for (suc m) (row b)) (for t (row a))
      ∙ ap₂ ◌+◌ (for3_length a (suc m) n (λ b u v. entry_for s p u b v)) (for2_length t n (λ u v. entry_for s p u a v))
      ∙ sym (index_before s t a)

  -- by the variables from the row's first on, and the agent's vertex
  pub row_is : (a t first x : ℕ) → first ≡ suc (index s t a 0) → x ≡ plan_row s p t a
      → (for n λ v. cond (eqb x v) (pos (first + v)) (neg_ℤ (pos (first + v))) ∷ []) ≡ row a t
  row_is a t first x e q =
      for_ext n _ _ (λ v l.
      let r : first + v ≡ suc (index s t a v) = omega (arith, e, vertices_run s t a v) in
      ap (λ (i : ℕ). cond (eqb x v) (pos i) (neg_ℤ (pos i)) ∷ []) r ∙ ap (λ (y : ℕ). cond (eqb y v) (X s t a v) (¬X s t a v) ∷ []) q)

  -- the next row is written
  pub next_row : (a t at : ℕ) (f z ys : List ℤ) → at ≡ index s t a 0 → f ≡ filled (before a t) z → at ≤ length z
      → ys ≡ filled (row a t) (take (length f - at) (drop at f)) → put_mid at (length f - at) f ys ≡ filled (before a (t + 1)) z
  next_row a t at f z ys e ef h ey =
      filled_part f z (before a t) (row a t) ys at ef (before_length a t ∙ sym e) h ey
      ∙ ap (λ (out : List ℤ). filled out z) (rw add-one (append_assoc (for a λ b. for (suc m) (row b)) (for t (row a)) (row a t)))

  -- an agent's last row is written
  pub next_history : (a : ℕ) → before a (suc m) ≡ before (a + 1) 0
  next_history a = sym (append-nil _ ∙ ap (λ (j : ℕ). for j λ b. for (suc m) (row b)) (add-one a))
