-- The products that the counts are made of, as the code forms them, and their bounds.
use Prim.Native.Nat.{◌+◌, ◌*◌, ◌-◌, ◌≤◌}
use native.Mathlib.Nat.{mul-le-mul}
use native.Mathlib.Numerals.{add-one}
use native.Mathlib.Omega.{arith}
use Rattle.instance.specs.declared.Sizes.{Sizes}
use Rattle.lists.specs.Loop.{pairs}
use Rattle.instance.specs.Limits.{Limits}
use Rattle.formula.proofs.Limits.{rows, variables_most, agent_steps, count_D_most, count_E_most, count_F_most, exchanges_most, followings_most}

pub record Products (s : Sizes) : Type 0 where
  pub rows' : (s.m + 1) * s.k ≤ 528
  pub places : s.n * s.k ≤ 1024
  pub variables : s.n * s.k * (s.m + 1) ≤ 33792
  pub c : (s.m + 1) * s.k * (s.n + 1) ≤ 34320
  pub d : (s.m + 1) * s.k * pairs s.n ≤ 1064448
  pub columns : (s.m + 1) * s.n ≤ 2112
  pub e : (s.m + 1) * s.n * pairs s.k ≤ 253440
  pub agent_steps' : s.m * s.k ≤ 512
  pub f : s.m * s.k * s.n ≤ 32768
  pub words : s.m * s.k * (3 * s.n + 2 * s.e) ≤ 2162688
  pub others : s.m * s.k * (s.k - 1) ≤ 7680
  pub followings : s.m * s.k * (s.k - 1) * s.n ≤ 491520
  pub crossings : s.m * s.e ≤ 64512
  pub pairs' : s.k * (s.k - 1) ≤ 240
  pub exchanges : s.m * s.e * (s.k * (s.k - 1)) ≤ 15482880

pub products : (s : Sizes) → Limits s → Products s
products s w =
    let r : (s.m + 1) * s.k ≤ 528 = rw add-one (rows s w) in
    record {
      rows' = r;
      places = mul-le-mul {n₂ = 64} {m₂ = 16} w.n_most w.k_most;
      variables = rw add-one (variables_most s w);
      c = mul-le-mul {n₂ = 528} {m₂ = 65} r (omega (arith, w.n_most));
      d = rw add-one (count_D_most s w);
      columns = mul-le-mul {n₂ = 33} {m₂ = 64} (omega (arith, w.m_most)) w.n_most;
      e = rw add-one (count_E_most s w);
      agent_steps' = agent_steps s w;
      f = count_F_most s w;
      words = mul-le-mul {n₂ = 512} {m₂ = 4224} (agent_steps s w) (omega (arith, w.n_most, w.e_most));
      others = mul-le-mul {n₂ = 512} {m₂ = 15} (agent_steps s w) (omega (arith, w.k_most));
      followings = followings_most s w;
      crossings = mul-le-mul {n₂ = 32} {m₂ = 2016} w.m_most w.e_most;
      pairs' = mul-le-mul {n₂ = 16} {m₂ = 15} w.k_most (omega (arith, w.k_most));
      exchanges = exchanges_most s w;
    }
