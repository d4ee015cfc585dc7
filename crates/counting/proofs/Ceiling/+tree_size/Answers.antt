-- `counting::Ceiling::tree_size` meets its contract: one input has no node. Assumes nothing.
use native.Mathlib.Omega.{arith}
use Rattle.counting.proofs.Laws.{one_variables, one_counts}
use Rattle.counting.proofs.Ceiling.+tree_size.Goals as goal

pub returns-then-l-lt2 : goal.returns-then-l-lt2
returns-then-l-lt2 t c =
    let v = one_variables c.args.self.c c.args.l c.if-l-lt2.true in
    let e = one_counts c.args.self.c c.args.l c.if-l-lt2.true in
    (omega arith, omega arith, omega arith)
