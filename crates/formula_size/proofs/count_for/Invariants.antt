-- `formula_size::count_for` meets its contract. The invariant: `Passing`, over the first n of each. Assumes nothing.
use lib.ListN.{length, take}
use Rattle.formula_size.proofs.Laws.{Passing}
use Rattle.formula_size.proofs.count_for.Given as goal

abbrev pub invariant-loop-x : goal.invariant-loop-x
invariant-loop-x l =
    Passing l.n l.times (take l.n l.fn.from) (take l.n l.fn.to) (length l.yielded) (length l.x-iterator.a.rest.now) l.x-iterator.a.rest.now l.x-iterator.b.rest.now l.count
