-- The time until rest: the agent rests from it on and from no earlier time; what one more row does to it; and the cost as the number
-- of pairs t, a with the agent not yet at rest.
use mathlib.Core.Path.{◌≡◌, sym, ◌∙◌, ap, subst}
use mathlib.Core.Logic.{◌↔◌, ◌≢◌, by_cases}
use mathlib.Core.List.{List}
use mathlib.Core.Bool.{not}
use Prim.Native.Nat.{ℕ, suc, ◌*◌, ◌≤◌, ◌<◌}
use native.Mathlib.Nat.{le_refl, le_of_suc-le-suc, mul_comm}
use native.Mathlib.Decide.{dec_lt, dec_le}
use native.Mathlib.Omega.{arith}
use lib.Dec.{T}
use Rattle.lists.specs.Loop.{sum}
use Rattle.lists.proofs.Tests.{every_iff, or_imp, ltb_iff, eqb_iff, not_iff}
use Rattle.lists.proofs.Sums.{ind, sum_ext, sum_swap, sum_below, count_below}
use Rattle.answers.proofs.Faults.{fault_at, fault_of, fault_first}
use Rattle.instance.specs.declared.Sizes.{Sizes}
use Rattle.plan.specs.Plan.{Row, plan_row, rests, rest_time, cost}
use Rattle.plan.specs.Rest.{Rests, BusyUntil}

module _ (m : ℕ) (P : ℕ → Row) (a : ℕ) where
  -- the test says what the proposition says
  pub rests_iff : (t : ℕ) → T (rests m P a t) ↔ Rests m P a t
  unfolding rests
  rests_iff t =
      simp (every_iff, or_imp, ltb_iff, eqb_iff) (
        (λ h. (P t a, λ u o q. sym (h u (omega arith) (omega arith)))),
        (λ (v, h) u q f. h t (omega arith) (omega arith) ∙ sym (h u (omega arith) (omega arith))),
      )

  -- the last row alone is one vertex
  pub rests_last : Rests m P a m
  rests_last = (P m a, λ u l q. let e : u ≡ m = omega arith in ap (λ (t : ℕ). P t a) e)

  pub rests_later : (t u : ℕ) → t ≤ u → Rests m P a t → Rests m P a u
  rests_later t u l (v, h) = (v, λ w o q. h w (omega arith) q)

  -- the time until rest is the one time of which it is said
  pub rest_only : (t : ℕ) → BusyUntil m P a t → t ≡ rest_time m P a
  unfolding rest_time
  rest_only t w =
      let l : t < suc m = let o = w.within in omega arith in
      sym (fault_first (suc m) (λ u. rests m P a u) t
      (fault_at l (λ u q. (not_iff (rests m P a u)).1 (λ h. w.least u q ((rests_iff u).0 h))) (λ q. (not_iff (rests m P a t)).0 q ((rests_iff t).1 w.rests))) l).1

  pub rest_until : BusyUntil m P a (rest_time m P a)
  rest_until =
      let (r, f) = fault_of (suc m) (λ u. not (rests m P a u)) in
      let l : r ≤ m =
      by_cases (dec_le r m) (λ o. o) (λ o. absurd ((not_iff (rests m P a m)).0 (f.before m (omega arith)) ((rests_iff m).1 rests_last))) in
      let w : BusyUntil m P a r =
      record {
        within = l;
        rests = (rests_iff r).0 (fault_first (suc m) (λ u. rests m P a u) r f (omega arith)).0;
        least = λ u q h. (not_iff (rests m P a u)).0 (f.before u q) ((rests_iff u).1 h);
      } in
      subst (BusyUntil m P a) (rest_only r w) w

  -- agent a is not yet at rest exactly before that time
  pub busy_iff : (t : ℕ) → T (not (rests m P a t)) ↔ (t < rest_time m P a)
  busy_iff t = (
    (λ h.
        by_cases (dec_lt t (rest_time m P a))
        (λ o. o)
        (λ o. absurd ((not_iff (rests m P a t)).0 h ((rests_iff t).1 (rests_later (rest_time m P a) t (omega arith) rest_until.rests))))),
    (λ o. (not_iff (rests m P a t)).1 (λ h. rest_until.least t o ((rests_iff t).0 h))),
  )

-- it depends on the agent's vertices in the rows up to m alone
pub rest_same : (m : ℕ) (P Q : ℕ → Row) (a : ℕ) → ((t : ℕ) → t ≤ m → P t a ≡ Q t a) → rest_time m P a ≡ rest_time m Q a
rest_same m P Q a e =
    let w = rest_until m P a in
    let (v, h) = w.rests in
    rest_only m Q a (rest_time m P a)
    (record {
      within = w.within;
      rests = (v, λ u o q. sym (e u q) ∙ h u o q);
      least = λ t l (x, g). w.least t l (x, λ u o q. e u q ∙ g u o q);
    })

-- ---- one more row
module _ (m : ℕ) (P : ℕ → Row) (a : ℕ) where
  rests_more : (t : ℕ) → t ≤ m → Rests (suc m) P a t ↔ (Rests m P a t × (P m a ≡ P (suc m) a))
  rests_more t l = (
    (λ (v, h). ((v, λ u o q. h u o (omega arith)), h m l (omega arith) ∙ sym (h (suc m) (omega arith) (omega arith)))),
    (λ ((v, h), e). (
      v,
      λ u o q.
          by_cases (dec_le u m)
          (λ r. h u o r)
          (λ r. let s : u ≡ suc m = omega arith in ap (λ (w : ℕ). P w a) s ∙ sym e ∙ h m l (omega arith)),
    )),
  )

  -- an agent that keeps its vertex in it has the same time until rest; one that moves rests from that row on
  pub rest_keeps : P m a ≡ P (suc m) a → rest_time m P a ≡ rest_time (suc m) P a
  rest_keeps e =
      let w = rest_until m P a in
      let l = w.within in
      rest_only (suc m) P a (rest_time m P a)
      (record {
        within = omega arith;
        rests = (rests_more (rest_time m P a) l).1 (w.rests, e);
        least = λ u q h. w.least u q ((rests_more u (omega arith)).0 h).0;
      })

  pub rest_moves : P m a ≢ P (suc m) a → suc m ≡ rest_time (suc m) P a
  rest_moves d =
      rest_only (suc m) P a (suc m)
      (record {
        within = le_refl (suc m);
        rests = rests_last (suc m) P a;
        least = λ u q h. d ((rests_more u (le_of_suc-le-suc q)).0 h).1;
      })

-- ---- the cost
module _ (s : Sizes) (p : List ℕ) where
  open s use {k, m}

  abbrev P : ℕ → Row
  P = plan_row s p

  -- it is the number of pairs t, a with agent a not yet at rest at t
  pub cost_pairs : cost s p ≡ sum m (λ t. sum k (λ a. ind (not (rests m P a t))))
  unfolding cost
  cost_pairs =
      sum_ext k (rest_time m P) (λ a. sum m (λ t. ind (not (rests m P a t))))
      (λ a l. sym (count_below m (rest_time m P a) (λ t. not (rests m P a t)) (rest_until m P a).within (λ t q. busy_iff m P a t)))
      ∙ sum_swap k m (λ a t. ind (not (rests m P a t)))

  pub cost_most : cost s p ≤ m * k
  unfolding cost
  cost_most = rw (mul_comm m k) (sum_below k m (rest_time m P) (λ a l. (rest_until m P a).within))
