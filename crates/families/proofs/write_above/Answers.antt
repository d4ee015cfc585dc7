-- `families::write_above` meets its contract: the pairs that i does not begin are none. Assumes nothing.
use Prim.Native.Nat.{ℕ, ◌+◌, ◌-◌, ◌*◌, ◌≤◌, ◌<◌}
use native.Mathlib.Omega.{arith}
use borrow.Author.Rules.{rules}
use Rattle.formula.specs.Variables.{highest}
use Rattle.families.specs.Runs.{nots}
use Rattle.families.proofs.Laws.{within, above_after}
use Rattle.families.proofs.write_above.Goals as goal

pub write_each-requires : goal.write_each-requires
write_each-requires c =
    let run = c.args.run in
    let room = rw (above_after (nots run) c.args.i run.count c.requires.i_lt_count.0) at c.requires.i_in_bounds in
    let fits : (j : ℕ) → j < run.count - (c.args.i + 1) → run.first.0 + (c.args.i + 1 + j) * run.stride ≤ highest = λ j l. within run (omega arith) c.requires.i_lt_count.1 in
    search rules

pub returns : goal.returns
returns c =
    let run = c.args.run in
    let room = rw (above_after (nots run) c.args.i run.count c.requires.i_lt_count.0) at c.requires.i_in_bounds in
    rw (above_after (nots run) c.args.i run.count c.requires.i_lt_count.0)
    (search rules)
