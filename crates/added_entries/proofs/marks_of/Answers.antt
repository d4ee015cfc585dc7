-- `added_entries::marks_of` meets its contract: one mark a turn. Assumes nothing.
use mathlib.Core.Path.{ap}
use Prim.Native.Nat.{ℕ}
use native.Mathlib.Nat.{zero-mul}
use lib.Dec.{ltb}
use Rattle.added_entries.proofs.Laws.{marking_from, marking_next}
use Rattle.added_entries.proofs.marks_of.Goals as goal

pub loop-t-init : goal.loop-t-init
loop-t-init c = rw (zero-mul c.args.k) (marking_from c.args.rest.now c.args.m c.args.k c.requires.1)

pub loop-a-preserved : goal.loop-a-preserved
loop-a-preserved c =
    marking_next c.args.rest.now c.args.m c.args.k c.loop-a.invariant c.loop-t-test.true c.loop-a-test.true (ap (λ (x : ℕ). ltb c.loop-t.t x) c.from.ensures)
