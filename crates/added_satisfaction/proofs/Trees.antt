-- The search through joined lists, and through the tree by the length of its list.
use mathlib.Core.Path.{◌≡◌, refl}
use mathlib.Core.Logic.{by_cases}
use mathlib.Core.List.{List, [], ◌++◌}
use Prim.Native.Nat.{ℕ, ◌+◌, ◌-◌, ◌/◌, ◌≤◌, ◌<◌, min}
use native.Mathlib.Decide.{dec_lt}
use native.Mathlib.Omega.{arith}
use borrow.Author.Tests.{lt-ltb, le-ltb}
use lib.ListN.{length, length-append}
use lib.IntN.{ℤ}
use Rattle.formula.specs.Formula.{Clause}
use Rattle.satisfaction.specs.Rows.{Fault}
use Rattle.satisfaction.proofs.Laws.{fault_all, fault_passed, fault_left, fault_right}
use Rattle.counting.specs.Over.{variables_over, clauses_over, before_outputs, own_clauses}
use Rattle.counting.proofs.Laws.{one_clauses, two_clauses}
use Rattle.added_satisfaction.specs.Search.{Passes, Fails}

module _ (es : List ℤ) where
  pub passes_none : Passes es [] 0
  passes_none = record { all = fault_all es [] tt; count = refl }

  -- two lists that both pass; one that fails, first or second
  module _ (K M : List Clause) where
    pub fails_left : {r : ℕ} → Fails es K r → Fails es (K ++ M) r
    fails_left {r} f = let w = f.within in record { first = fault_left es K M r f.first w; within = omega (arith, length-append K M) }

    module _ {n : ℕ} (p : Passes es K n) where
      both : (r : ℕ) → Fault es M r → Fault es (K ++ M) (n + r)
      both r f = let e : n ≡ length K = omega (arith, p.count) in rw e (fault_right es K M r (fault_passed es K n p.all (omega arith)) f)

      pub passes_on : {r : ℕ} → Passes es M r → Passes es (K ++ M) (n + r)
      passes_on {r} f = record { all = both r f.all; count = omega (arith, length-append K M, p.count, f.count) }

      pub fails_on : {r : ℕ} → Fails es M r → Fails es (K ++ M) (n + r)
      fails_on {r} f = record { first = both r f.first; within = omega (arith, length-append K M, p.count, f.within) }

-- ---- the tree over l inputs
module _ (es : List ℤ) (c l x y : ℕ) where
  pub tree_none : l < 2 → Passes es (clauses_over c l x y) 0
  tree_none h = rw (one_clauses c l x y h) (passes_none es)

  module _ (h : 2 ≤ l) where
    pub tree_left : {r : ℕ} → Fails es (clauses_over c (l / 2) x y) r → Fails es (clauses_over c l x y) r
    tree_left f = rw (two_clauses c l x y h) (fails_left es _ _ (fails_left es _ _ f))

    module _ {n u : ℕ} (s : Passes es (clauses_over c (l / 2) x y) n) (e : u ≡ y + variables_over c (l / 2)) where
      pub tree_right : {r : ℕ} → Fails es (clauses_over c (l - l / 2) (x + l / 2) u) r → Fails es (clauses_over c l x y) (n + r)
      tree_right f = rw (two_clauses c l x y h, ← e) (fails_left es _ _ (fails_on es _ _ s f))

      module _ {o v : ℕ} (t : Passes es (clauses_over c (l - l / 2) (x + l / 2) u) o) (g : v ≡ u + variables_over c (l - l / 2)) where
        pub tree_fails : {r : ℕ} → Fails es (own_clauses c l x u v) r → Fails es (clauses_over c l x y) (n + o + r)
        tree_fails f = rw (two_clauses c l x y h, ← e, ← g) (fails_on es _ _ (passes_on es _ _ s t) f)

        pub tree_passes : {k : ℕ} → Passes es (own_clauses c l x u v) k → Passes es (clauses_over c l x y) (n + o + k)
        tree_passes f = rw (two_clauses c l x y h, ← e, ← g) (passes_on es _ _ (passes_on es _ _ s t) f)

-- a subtree's outputs are within the variables
pub before_within : (c l x next n : ℕ) → x + l ≤ n → next ≤ n → (2 ≤ l → min l (c + 1) ≤ next) → before_outputs c l x next + min l (c + 1) ≤ n
unfolding before_outputs
before_within c l x next n p q f =
    by_cases (dec_lt l 2) (λ h. rw (lt-ltb l 2 h) (omega arith)) (λ h. let g = f (omega arith) in rw (le-ltb l 2 (omega arith)) (omega arith))
