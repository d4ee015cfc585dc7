-- Every number that is worked out is far below 2 ^ 64.
use Prim.Native.Nat.{ℕ, suc, ◌*◌, ◌-◌, ◌/◌, ◌≤◌}
use native.Mathlib.Nat.{mul-le-mul, mul-le-mul_right}
use native.Mathlib.Omega.{arith}
use Rattle.instance.specs.declared.Sizes.{Sizes}
use Rattle.instance.specs.Limits.{Limits}

-- cells: times and agents; twos: twice the pairs of agents; the rest: the sizes of the rows of D to G, of G under either rule
pub record Products (s : Sizes) : Type 0 where
  pub cells : suc s.m * s.k ≤ 528
  pub twos : s.k * (s.k - 1) ≤ 240
  pub D : s.k * (s.n * (s.n - 1) / 2) ≤ 32768
  pub E : s.n * (s.k * (s.k - 1) / 2) ≤ 8192
  pub F : s.k * s.n ≤ 1024
  pub G : s.k * ((s.k - 1) * s.n) ≤ 16384
  pub exchanges : s.e * (s.k * (s.k - 1)) ≤ 483840

pub products : (s : Sizes) → Limits s → Products s
products s w =
    let c : suc s.m * s.k ≤ 528 = mul-le-mul {n₂ = 33} {m₂ = 16} (omega (arith, w.m_most)) w.k_most in
    let p : s.n * (s.n - 1) ≤ 4096 = mul-le-mul {n₂ = 64} {m₂ = 64} w.n_most (omega (arith, w.n_most)) in
    let t : s.k * (s.k - 1) ≤ 240 = mul-le-mul {n₂ = 16} {m₂ = 15} w.k_most (omega (arith, w.k_most)) in
    let g : (s.k - 1) * s.n ≤ 1024 = mul-le-mul {n₂ = 16} {m₂ = 64} (omega (arith, w.k_most)) w.n_most in
    record {
      cells = c;
      twos = t;
      D = mul-le-mul {n₂ = 16} {m₂ = 2048} w.k_most (omega arith);
      E = mul-le-mul {n₂ = 64} {m₂ = 128} w.n_most (omega arith);
      F = mul-le-mul {n₂ = 16} {m₂ = 64} w.k_most w.n_most;
      G = mul-le-mul {n₂ = 16} {m₂ = 1024} w.k_most g;
      exchanges = mul-le-mul {n₂ = 2016} {m₂ = 240} w.e_most t;
    }

-- what stands before block i of c blocks of one size
pub blocks_fit : (i c size : ℕ) → i ≤ c → i * size ≤ c * size
blocks_fit i c size l = mul-le-mul_right size l
