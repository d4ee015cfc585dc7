-- `EdgeBytes::all_later` meets its contract. The invariant: the test of the edges so far. Assumes nothing.
use mathlib.Core.Path.{◌≡◌, refl, ◌∙◌, ap}
use Prim.Native.Nat.{ℕ, suc, ◌-◌}
use native.Mathlib.Numerals.{add-one}
use native.Mathlib.Omega.{arith}
use Rattle.lists.specs.Loop.{every}
use Rattle.instance.specs.Instance.{edges}
use Rattle.instance.specs.Questions.{later_edge}
use Rattle.instance_check.proofs.edge_bytes.EdgeBytes.all_later.Goals as goal

pub loop-i-init : goal.loop-i-init
loop-i-init c = (omega arith, refl)

pub loop-i-preserved : goal.loop-i-preserved
loop-i-preserved c = (omega arith, rw (add-one, c.loop-i.invariant.1, c.is_later-all.ensures))

pub returns : goal.returns
returns c =
    let b = c.args.self.now.b.now in
    let end : c.loop-i.i ≡ edges b - 1 = omega arith in
    c.loop-i.invariant.1 ∙ ap (λ (x : ℕ). every x (λ i. later_edge b (suc i) i)) end
