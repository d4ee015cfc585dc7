-- Rows as parts of a plan's bytes, and what the conditions depend on.
use mathlib.Core.Path.{◌≡◌, sym, ◌∙◌, ap, ap₂, subst}
use mathlib.Core.List.{List}
use mathlib.Core.Bool.{Bool, not, ◌&&◌, ◌||◌, cond}
use Prim.Native.Nat.{ℕ, zero, suc, ◌+◌, ◌*◌, ◌-◌, ◌≤◌, ◌<◌}
use native.Mathlib.Nat.{suc-mul, mul-le-mul_right}
use native.Mathlib.Numerals.{add-one}
use native.Mathlib.Omega.{arith}
use lib.ListN.{length, get_or, take, drop}
use lib.Seq.{ext_get_or}
use lib.Dec.{eqb}
use Rattle.lists.proofs.Tests.{every_ext}
use Rattle.lists.proofs.Blocks.{place_split}
use Rattle.lists.proofs.Slices.{part_get_or}
use Rattle.lists.proofs.Slices as parts
use Rattle.std.specs.Prelude.{Option}
use Rattle.answers.specs.Fault.{FirstFault, FirstFailing}
use Rattle.answers.proofs.Faults.{fault_ext, failing_ext}
use Rattle.instance.specs.declared.Sizes.{Sizes}
use Rattle.instance.specs.Instance.{following}
use Rattle.plan.specs.Plan.{Row, row, plan_bytes, plan_row, condition, condition1, condition2, condition3}

-- ---- rows t and t + 1 stand within the plan
pub record Rows (s : Sizes) (p : List ℕ) (t : ℕ) : Type 0 where
  pub two : t * s.k + s.k + s.k ≤ length p
  pub next : (t + 1) * s.k ≡ t * s.k + s.k
  pub after : suc t * s.k ≡ t * s.k + s.k

pub rows : (s : Sizes) (p : List ℕ) (t : ℕ) → length p ≡ plan_bytes s → t < s.m → Rows s p t
rows s p t e l =
    let a : suc t * s.k ≡ t * s.k + s.k = suc-mul t s.k in
    let b : suc (suc t) * s.k ≡ suc t * s.k + s.k = suc-mul (suc t) s.k in
    let o : suc (suc t) ≤ suc s.m = omega arith in
    let u : suc (suc t) * s.k ≤ suc s.m * s.k = mul-le-mul_right s.k o in
    record {
      two = omega arith;
      next = rw add-one a;
      after = a;
    }

-- ---- plans of the same rows are the same
pub plan_ext : (k m : ℕ) (p q : List ℕ) → length p ≡ suc m * k → length q ≡ suc m * k
    → ((t a : ℕ) → t < suc m → a < k → get_or p (t * k + a) 0 ≡ get_or q (t * k + a) 0) → p ≡ q
plan_ext k m p q lp lq e =
    ext_get_or 0 p q (lp ∙ sym lq)
    (λ i l.
    let (t, a, x, y, s) = place_split (suc m) k i (subst (λ (z : ℕ). i < z) lp l) in
    rw s (e t a x y))

-- ---- a row as the part of the bytes from one offset to another
pub part_length : (p : List ℕ) (from to : ℕ) → from ≤ to → to ≤ length p → length (take (to - from) (drop from p)) ≡ to - from
part_length p from to h l = parts.part_length p from (to - from) (omega arith)

pub part_at : (p : List ℕ) (from to a : ℕ) → a < to - from → row (take (to - from) (drop from p)) a ≡ get_or p (from + a) 0
part_at p from to a l = part_get_or p from (to - from) a 0 l

-- a bound on all bytes is one on a part
pub part_below : (p : List ℕ) (x : ℕ) → ((i : ℕ) → i < length p → get_or p i 0 < x) → (from to : ℕ) → from ≤ to → to ≤ length p
    → (i : ℕ) → i < length (take (to - from) (drop from p)) → get_or (take (to - from) (drop from p)) i 0 < x
part_below p x f from to h l i q =
    let q' : i < to - from = omega (arith, part_length p from to h l) in
    rw (part_at p from to i q') (f (from + i) (omega arith))

-- what a loop over a part's bytes finds, it finds in the bytes from its offset on
pub part_failing : (p : List ℕ) (from to n : ℕ) → from + n ≡ to → to ≤ length p → (test : ℕ → ℕ → Bool) (r : Option ℕ)
    → FirstFailing (length (take (to - from) (drop from p))) (λ a. test a (row (take (to - from) (drop from p)) a)) r
    → FirstFailing n (λ a. test a (get_or p (from + a) 0)) r
part_failing p from to n e l test r f =
    let long : length (take (to - from) (drop from p)) ≡ n = omega (arith, part_length p from to (omega arith) l) in
    failing_ext r (λ a o. ap (test a) (part_at p from to a (omega arith)))
    (subst (λ (k : ℕ). FirstFailing k (λ a. test a (row (take (to - from) (drop from p)) a)) r) long f)

-- ---- the conditions depend on the rows only as far as agents go
condition_same : (s : Sizes) (near : ℕ → ℕ → Bool) (which : ℕ) (here next here' next' : Row)
    → ((a : ℕ) → a < s.k → here a ≡ here' a) → ((a : ℕ) → a < s.k → next a ≡ next' a)
    → (a : ℕ) → a < s.k → condition s near which here next a ≡ condition s near which here' next' a
unfolding condition1 condition2 condition3
condition_same s near zero here next here' next' e f a l = rw (e a l, f a l)
condition_same s near (suc zero) here next here' next' e f a l =
    ap₂ ◌||◌ (ap₂ eqb (e a l) (f a l))
    (ap₂ (cond (following s))
    (every_ext s.k _ _ (λ b h. ap not (ap₂ ◌&&◌ (ap₂ eqb (e b h) (f a l)) (ap₂ eqb (f b h) (e a l)))))
    (every_ext s.k _ _ (λ b h. ap₂ (λ (x y : ℕ). not (eqb x y)) (e b h) (f a l))))
condition_same s near (suc (suc which)) here next here' next' e f a l =
    every_ext a _ _ (λ b h. ap₂ (λ (x y : ℕ). not (eqb x y)) (f b (omega arith)) (f a l))

-- what a loop over the agents finds in the two parts, it finds in rows t and t + 1 of the plan
pub step_fault : (s : Sizes) (near : ℕ → ℕ → Bool) (which : ℕ) (p : List ℕ) (t r : ℕ)
    → FirstFault s.k (condition s near which (row (take (t * s.k + s.k - t * s.k) (drop (t * s.k) p))) (row (take (t * s.k + s.k + s.k - (t * s.k + s.k)) (drop (t * s.k + s.k) p)))) r
    → FirstFault s.k (condition s near which (plan_row s p t) (plan_row s p (suc t))) r
step_fault s near which p t r f =
    fault_ext
    (λ a l.
    condition_same s near which _ _ _ _
    (λ i h. part_at p (t * s.k) (t * s.k + s.k) i (omega arith))
    (λ i h. part_at p (t * s.k + s.k) (t * s.k + s.k + s.k) i (omega arith) ∙ ap (λ (x : ℕ). get_or p (x + i) 0) (sym (suc-mul t s.k)))
    a l)
    f
