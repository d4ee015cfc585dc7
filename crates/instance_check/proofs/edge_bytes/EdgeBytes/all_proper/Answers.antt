-- `EdgeBytes::all_proper` meets its contract. The invariant: the test of the edges so far. Assumes nothing.
use mathlib.Core.Path.{◌≡◌, refl, ◌∙◌, ap}
use Prim.Native.Nat.{ℕ}
use native.Mathlib.Numerals.{add-one}
use native.Mathlib.Omega.{arith}
use Rattle.lists.specs.Loop.{every}
use Rattle.instance.specs.Instance.{edges}
use Rattle.instance.specs.Questions.{proper_edge}
use Rattle.instance_check.proofs.edge_bytes.EdgeBytes.all_proper.Goals as goal

pub loop-j-init : goal.loop-j-init
loop-j-init c = (omega arith, refl)

pub loop-j-preserved : goal.loop-j-preserved
loop-j-preserved c = (omega arith, rw (add-one, c.loop-j.invariant.1, c.is_proper-all.ensures))

pub returns : goal.returns
returns c =
    let b = c.args.self.now.b.now in
    let end : c.loop-j.j ≡ edges b = omega arith in
    c.loop-j.invariant.1 ∙ ap (λ (x : ℕ). every x (proper_edge b)) end
