-- The cost, from the laws of the time until rest.
use mathlib.Core.Path.{◌≡◌, sym, ◌∙◌}
use mathlib.Core.List.{List}
use Prim.Native.Nat.{ℕ}
use Rattle.lists.proofs.Sums.{for_sum, sum_ext, unless_count}
use Rattle.instance.specs.Instance.{instance}
use Rattle.plan.specs.Plan.{plan_row, rests, cost}
use Rattle.plan.proofs.Rest.{rests_iff, rest_until, rest_only, cost_pairs}
use Rattle.calls.specs.Calls.{check_answer}
use Rattle.calls.proofs.Plan.{check_counts}
use Rattle.claims.specs.Cost.{Counted, Claim}

counted : (b : List ℕ) (m rule : ℕ) (p : List ℕ) → (check_answer b m rule p).number ≡ 0 → Counted b m rule p
unfolding instance cost
counted b m rule p e =
    let w = check_counts b m rule p e in
    record {
      total = w.count;
      most = w.most;
      most512 = w.most512;
    }

pub cost_claim : Claim
cost_claim =
    record {
      test = rests_iff;
      until = rest_until;
      only = rest_only;
      pairs = λ s p.
          cost_pairs s p
          ∙ sum_ext s.m _ _ (λ t l. sum_ext s.k _ _ (λ a h. sym (unless_count (rests s.m (plan_row s p) a t) (t, a))) ∙ sym (for_sum s.k _))
          ∙ sym (for_sum s.m _);
      check = counted;
    }
