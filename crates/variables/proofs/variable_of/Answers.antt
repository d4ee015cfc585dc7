-- `variables::variable_of` meets its contract: the vertex stands in the agent's run of entries. Assumes nothing.
use native.Mathlib.Omega.{arith}
use Rattle.formula.proofs.Limits.{variables_most}
use Rattle.formula.proofs.Variables.{vertices_run}
use Rattle.variables.proofs.variable_of.Goals as goal

pub first_entry-requires : goal.first_entry-requires
first_entry-requires c = (c.requires.0, c.requires.1)

pub overflow_add-result : goal.overflow_add-result
overflow_add-result c = omega (arith, c.first_entry.ensures.1, c.requires.2, variables_most c.args.s.sizes c.args.s.limits)

pub overflow_add-result-2 : goal.overflow_add-result-2
overflow_add-result-2 c = omega (arith, c.first_entry.ensures.1, c.requires.2, variables_most c.args.s.sizes c.args.s.limits)

pub returns : goal.returns
returns c = (
  omega (arith, c.first_entry.ensures.0, vertices_run c.args.s.sizes c.args.t.0 c.args.a.0 c.args.v.0),
  omega (arith, c.first_entry.ensures.1, c.requires.2, variables_most c.args.s.sizes c.args.s.limits),
)
