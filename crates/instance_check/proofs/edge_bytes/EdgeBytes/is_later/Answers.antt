-- `EdgeBytes::is_later` meets its contract: its comparisons are those of the definition. Assumes nothing.
use mathlib.Core.Path.{◌≡◌}
use Prim.Native.Nat.{suc, ◌+◌}
use native.Mathlib.Omega.{arith}
use Rattle.instance.specs.Instance.{edges}
use Rattle.instance_check.proofs.edge_bytes.EdgeBytes.is_later.Goals as goal

pub returns : goal.returns
returns c =
    let i = c.args.i in
    let low : 4 + suc i ≡ 5 + i = omega arith in
    let high : 4 + edges c.args.self.now.b.now + suc i ≡ 5 + c.args.self.now.e + i = omega arith in
    rw (low, high, ← c.args.self.now.counted)
