-- What is used of the sizes of an accepted instance and horizon. It stands in the contracts of the functions that go by the sizes alone.
use Rattle.std.specs.Prelude.{◌≤◌}
use Rattle.instance.specs.declared.Sizes.{Sizes}

pub record Limits (s : Sizes) : Type 0 where
  pub n_least : 1 ≤ s.n
  pub n_most : s.n ≤ 64
  pub k_least : 1 ≤ s.k
  pub k_most : s.k ≤ 16
  pub e_most : s.e ≤ 2016
  pub m_most : s.m ≤ 32
  pub g_most : s.g ≤ s.k
