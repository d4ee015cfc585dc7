-- `plan_check::ask_steps` meets its contract. The loop keeps that the questions of every step passed are answered yes. Assumes nothing.
use Prim.Native.Nat.{◌≤◌}
use lib.Dec.{T}
use Rattle.lists.specs.Loop.{for, all}
use Rattle.answers.specs.Answers.{clear}
use Rattle.instance.specs.Instance.{Instance}
use Rattle.calls.specs.Calls.{step_questions}
use Rattle.instance.specs.Shows.{ShowsGraph}
use Rattle.plan_check.proofs.ask_steps.Given as goal

abbrev pub invariant-loop-t : goal.invariant-loop-t
invariant-loop-t l = (l.t ≤ l.s.m) × ((I : Instance) → ShowsGraph I l.s l.near → T (all clear (for l.t (step_questions I l.p))))
