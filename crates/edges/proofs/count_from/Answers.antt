-- `edges::count_from` meets its contract. The ones are those of the bits above u. Assumes nothing.
use mathlib.Core.Path.{◌≡◌}
use Prim.Native.Nat.{◌≤◌}
use native.Mathlib.Omega.{arith}
use lib.Count.{ones}
use lib.ListN.{length}
use Rattle.instance.specs.Instance.{joined, higher}
use Rattle.edges.proofs.Laws.{higher_most, ones_higher}
use Rattle.edges.proofs.count_from.Goals as goal

pub overflow_cast-result : goal.overflow_cast-result
overflow_cast-result c =
    let counted : (ones c.above.result ≡ length (higher (joined c.args.near.now) c.args.u c.args.n)) × (ones c.above.result ≤ 64) = let e = ones_higher c.args.near.now c.args.u c.above.result c.above.ensures.1 c.args.n (omega (arith, c.above.ensures.0, c.requires.2 c.args.u (omega arith))) in
    (e, omega (arith, e, higher_most c.args.near.now c.args.u c.args.n)) in
    omega (arith, counted)

pub returns : goal.returns
returns c =
    let counted : (ones c.above.result ≡ length (higher (joined c.args.near.now) c.args.u c.args.n)) × (ones c.above.result ≤ 64) = let e = ones_higher c.args.near.now c.args.u c.above.result c.above.ensures.1 c.args.n (omega (arith, c.above.ensures.0, c.requires.2 c.args.u (omega arith))) in
    (e, omega (arith, e, higher_most c.args.near.now c.args.u c.args.n)) in
    counted
