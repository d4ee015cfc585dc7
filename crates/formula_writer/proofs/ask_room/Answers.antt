-- `formula_writer::ask_room` meets its contract. Assumes nothing.
use mathlib.Core.Path.{◌∙◌, ap}
use native.Mathlib.Omega.{arith}
use Rattle.answers.specs.Returned.{refused}
use Rattle.calls.proofs.Size.{stop_12, pass_12}
use Rattle.formula_writer.proofs.ask_room.Goals as goal

pub returns-then-room-needed : goal.returns-then-room-needed
returns-then-room-needed c = ap refused c.at.ensures ∙ stop_12 c.args.needed c.args.room (omega (arith, c.if-room-needed.true))

pub returns : goal.returns
returns c = pass_12 c.args.needed c.args.room (omega (arith, c.if-room-needed.false))
