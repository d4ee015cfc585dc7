-- Counts that are each taken as at most c, the record with one more plan that passed, and question 34.
use mathlib.Core.Path.{◌≡◌, refl}
use mathlib.Core.Logic.{◌≢◌}
use mathlib.Core.Bool.{false}
use Prim.Native.Nat.{ℕ, zero, suc, ◌+◌, ◌*◌, ◌≤◌, ◌<◌, min, max}
use native.Mathlib.Omega.{arith}
use borrow.Author.Tests.{lt-ltb, le-ltb, eq-eqb, ne_eqb}
use lib.Dec.{T, leb}
use Rattle.lists.specs.Loop.{sum}
use Rattle.tally.specs.declared.Tally.{Tally}
use Rattle.tally.specs.Tally.{under, total, takes_more, with_pass}
use Rattle.tally.proofs.Laws.{takes_iff, passed_most, under_most}

-- their total is as good as that of the counts, up to c
pub capped_sum : (n c x : ℕ) (f : ℕ → ℕ) → min (min x c + sum n (λ i. min (f i) c)) c ≡ min (x + sum n f) c
capped_sum zero c x f = omega arith
capped_sum (suc n) c x f = omega (arith, capped_sum n c x f)

-- least and greatest of a record with one more plan that passed, the first or a later one
module _ (t : Tally) (cost least greatest : ℕ) where
  abbrev passed : Tally
  passed = record { passed = t.passed + 1; refused = t.refused; sum = t.sum + cost; least = least; greatest = greatest }

  pub first_pass : t.passed ≡ 0 → least ≡ cost → greatest ≡ cost → passed ≡ with_pass t cost
  unfolding with_pass
  first_pass e x y = rw (eq-eqb t.passed 0 e, x, y)

  pub later_pass : t.passed ≢ 0 → least ≡ min t.least cost → greatest ≡ max t.greatest cost → passed ≡ with_pass t cost
  unfolding with_pass
  later_pass d x y = rw (ne_eqb t.passed 0 d, x, y)

-- question 34, by a total that is right up to 65,535
module _ (t : Tally) (r : ℕ) (e : min r 65535 ≡ min (total t) 65535) where
  pub within : r < 65535 → total t < 65535
  within l = omega arith

  pub room : r < 65535 → leb t.sum (512 * t.passed) ≡ takes_more t
  unfolding takes_more
  room l = rw (lt-ltb (total t) 65535 (within l)) refl

  pub full : 65535 ≤ r → false ≡ takes_more t
  unfolding takes_more
  full l = let h : 65535 ≤ total t = omega arith in rw (le-ltb (total t) 65535 h) refl

-- where it takes one answer more, what is counted stays small
module _ (t : Tally) (h : T (takes_more t)) where
  pub under_room : (q : ℕ) → q < 36 → under t q < 65535
  under_room q l = omega (arith, under_most t q l, ((takes_iff t).0 h).0)

  pub pass_room : (cost : ℕ) → cost ≤ 512 → (t.passed < 65535) × (t.sum < 2147483648) × (cost ≤ 512)
  pass_room cost l =
      let a : t.passed < 65535 = omega (arith, passed_most t, ((takes_iff t).0 h).0) in
      (a, omega (arith, ((takes_iff t).0 h).1), l)
