-- A row of a node at once: up to i + j = c + 1 output by output, beyond it by one output.
use mathlib.Core.Path.{◌≡◌, ap₂, subst}
use mathlib.Core.Logic.{by_cases}
use mathlib.Core.List.{List, [], ◌∷◌}
use mathlib.Core.Bool.{Bool, not}
use Prim.Native.Nat.{ℕ, ◌+◌, ◌-◌, ◌≤◌, ◌<◌, min}
use native.Mathlib.Decide.{dec_le}
use native.Mathlib.Omega.{arith}
use lib.ListN.{length}
use lib.Dec.{T}
use lib.IntN.{ℤ}
use Rattle.lists.specs.Loop.{every}
use Rattle.lists.proofs.Tests.{every_iff, not_iff}
use Rattle.valuation.specs.Valuation.{true?, satisfied?}
use Rattle.valuation.specs.Satisfying.{Valuation}
use Rattle.ceiling.specs.Tree.{on, off}
use Rattle.counting.specs.declared.Node.{Node}
use Rattle.added_satisfaction.specs.Search.{Within}
use Rattle.added_satisfaction.proofs.Truth.{two_iff}

module _ (es : List ℤ) (v : Valuation (length es) es) (d : Node) (w : Within es d) (i n : ℕ) (li : i ≤ d.a) (en : n ≡ min d.b (d.ceiling.c + 1 - i)) where
  -- the test of j
  abbrev test : ℕ → Bool
  test j = satisfied? es (off (d.q + j) ∷ on (d.o + min (i + j) (d.ceiling.c + 1)) ∷ [])

  module _ (h : T (every n (λ j. satisfied? es (off (d.q + (j + 1)) ∷ on (d.o + i + (j + 1)) ∷ [])))) where
    pub near_holds : (j : ℕ) → 1 ≤ j → j ≤ n → T (test j)
    near_holds j l r =
        let e : d.q + (j - 1 + 1) ≡ d.q + j = omega arith in
        let m : i + j ≤ d.ceiling.c + 1 = omega (arith, w.left.0) in
        let f : d.o + i + (j - 1 + 1) ≡ d.o + min (i + j) (d.ceiling.c + 1) = omega arith in
        subst T (ap₂ (λ (x y : ℕ). satisfied? es (off x ∷ on y ∷ [])) e f) ((every_iff n _).0 h (j - 1) (omega arith))

    -- beyond it
    beyond : (j : ℕ) → n < j → j < d.b + 1 → d.o + (d.ceiling.c + 1) ≡ d.o + min (i + j) (d.ceiling.c + 1)
    beyond j l r = let q : d.ceiling.c + 1 ≤ i + j = omega arith in omega arith

    far : ((j : ℕ) → n < j → j < d.b + 1 → T (test j)) → (j : ℕ) → 1 ≤ j → j < d.b + 1 → T (test j)
    far g j l r = by_cases (dec_le j n) (λ q. near_holds j l q) (λ q. g j (omega arith) r)

    pub far_none_left : n ≡ d.b → (j : ℕ) → 1 ≤ j → j < d.b + 1 → T (test j)
    far_none_left e = far (λ j l r. absurd (let f : ⊥ = omega arith in f))

    pub far_true : T (true? es (on (d.o + (d.ceiling.c + 1)))) → (j : ℕ) → 1 ≤ j → j < d.b + 1 → T (test j)
    far_true t =
        far (λ j l r.
        (two_iff es v (d.q + j) (omega arith) (let q = w.right.1 in omega arith) (d.o + min (i + j) (d.ceiling.c + 1))).1
        (λ u. subst (λ (x : ℕ). T (true? es (on x))) (beyond j l r) t))

    pub far_false : T (every (d.b - n) (λ j. not (true? es (on (d.q + n + (j + 1)))))) → (j : ℕ) → 1 ≤ j → j < d.b + 1 → T (test j)
    far_false t =
        far (λ j l r.
        (two_iff es v (d.q + j) (omega arith) (let q = w.right.1 in omega arith) (d.o + min (i + j) (d.ceiling.c + 1))).1
        (λ u.
        let e : d.q + j ≡ d.q + n + (j - n - 1 + 1) = omega arith in
        absurd ((not_iff (true? es (on (d.q + n + (j - n - 1 + 1))))).0 ((every_iff (d.b - n) _).0 t (j - n - 1) (omega arith)) (subst (λ (x : ℕ). T (true? es (on x))) e u))))
