-- What stands in the contracts of the inner functions.
use Rattle.std.specs.Prelude.{◌≡◌, List, ℕ, ◌<◌}
use Rattle.instance.specs.declared.Sizes.{Sizes}
use Rattle.instance.specs.Instance.{vertices, agents, edges}

-- the sizes s are those that the bytes b begin with
pub record Read (b : List ℕ) (s : Sizes) : Type 0 where
  pub n_same : s.n ≡ vertices b
  pub k_same : s.k ≡ agents b
  pub e_same : s.e ≡ edges b
  pub k_byte : s.k < 256
  pub e_bytes : s.e < 65536
