-- `distance_table::table_of` meets its contract. The invariant: the rows so far are filled. Assumes nothing.
use mathlib.Core.Path.{◌∙◌, ap}
use mathlib.Core.List.{List}
use Prim.Native.Nat.{ℕ, ◌+◌, ◌<◌, ◌≤◌}
use native.Mathlib.Omega.{arith}
use lib.ListN.{length, replicate, take, drop, length-append, length-drop}
use lib.Seq.{length-take-le}
use Rattle.distance_table.proofs.Laws.{rows_none, rows_next, rows_all}
use Rattle.distance_table.proofs.table_of.Goals as goal

abbrev blank : List (List ℕ)
blank = replicate 64 (replicate 64 255)

pub loop-v-init : goal.loop-v-init
loop-v-init c = rows_none blank c.requires.0

pub loop-v-preserved : goal.loop-v-preserved
loop-v-preserved c =
    let l : c.loop-v.v < length (take c.args.n blank) = c.loop-v-test.true in
    rows_next c.loop-v.invariant (omega (arith, l, length-take-le c.args.n blank c.requires.0)) c.row_of.result c.row_of.ensures.1

pub returns : goal.returns
returns c =
    let l : length (take c.args.n blank) ≤ c.loop-v.v = c.loop-v-test.false in
    let w = c.loop-v.invariant in
    let rest = drop c.args.n blank in (
      length-append c.loop-v.row-items rest ∙ ap (λ (k : ℕ). k + length rest) w.tall ∙ ap (λ (k : ℕ). c.args.n + k) (length-drop c.args.n blank) ∙ omega (arith, c.requires.0),
      rows_all w (omega (arith, l, length-take-le c.args.n blank c.requires.0)) rest,
    )
