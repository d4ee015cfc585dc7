-- `floor::measure` meets its contract. The invariant: `Measuring`. Assumes nothing.
use mathlib.Core.Path.{◌∙◌, ap}
use native.Mathlib.Omega.{arith}
use Rattle.answers.specs.Returned.{refused}
use Rattle.floor.proofs.Laws.{measuring_stop, measuring_done}
use Rattle.floor.proofs.measure.Goals as goal

pub returns-in_default : goal.returns-in_default
returns-in_default c = ap refused c.at.ensures ∙ measuring_stop c.loop-a.invariant c.loop-a-test.true _ c.in_default.ensures

pub returns : goal.returns
returns c = measuring_done c.loop-a.invariant (omega arith) _
