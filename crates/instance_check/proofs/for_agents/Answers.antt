-- `instance_check::for_agents` meets its contract. Assumes nothing.
use mathlib.Core.Path.{◌≡◌, ◌∙◌, ap}
use Prim.Native.Nat.{ℕ, ◌+◌, ◌-◌}
use native.Mathlib.Omega.{arith}
use lib.ListN.{take, drop}
use Rattle.lists.specs.Slice.{filled}
use Rattle.lists.proofs.Slices.{part_length}
use Rattle.instance_check.proofs.for_agents.Goals as goal

pub returns : goal.returns
unfolding filled
returns c =
    let b = c.args.b.now in
    let count : c.args.offset + c.args.k - c.args.offset ≡ c.args.k = omega arith in
    let part : c.copy_from_slice.new.self ≡ take c.args.k (drop c.args.offset b) = c.copy_from_slice.ensures.after ∙ ap (λ (j : ℕ). take j (drop c.args.offset b)) count in
    rw (part, part_length b c.args.offset c.args.k c.requires.1)
