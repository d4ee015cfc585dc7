-- What was worked out by hand of formulas and plans with a ceiling, by computing every row.
use mathlib.Core.Path.{refl}
use Rattle.lists.specs.Slice.{filled}
use Rattle.answers.specs.Answers.{ask, ask_each, decide, lent, with_clauses}
use Rattle.instance.specs.Instance.{goal_count, instance, adjacent}
use Rattle.instance.specs.Questions.{instance_questions}
use Rattle.formula.specs.Variables.{index}
use Rattle.formula.specs.Formula.{A, B, C, D, E, F, G, clauses, words}
use Rattle.plan.specs.Plan.{condition1, condition2, condition3, occupant_leaves, rests, rest_time, cost}
use Rattle.valuation.specs.Valuation.{true?, named, named_plan, plan_valuation}
use Rattle.ceiling.specs.Tree.{halved, tree_over, inputs, outputs, variables, before, join, joins, tree_clauses, tree_entries}
use Rattle.ceiling.specs.Ceiling.{moves, chain, counters, limit, added_clauses, added_variables, ceiling_variables}
use Rattle.ceiling.specs.Encoded.{busy_at, busy_entries, counter_entries, ceiling_valuation}
use Rattle.calls.specs.Questions.{occupied_number, second_number}
use Rattle.calls.specs.Calls.{plan_questions}
use Rattle.calls.specs.Ceiling.{ceiling_questions, ceiling_size_answer, ceiling_write_answer, ceiling_write_slice, ceiling_decode_answer, ceiling_decode_slice, ceiling_encode_answer, ceiling_encode_slice}
use Rattle.claims.specs.Ceiling.{Worked}

pub worked : Worked
unfolding filled ask ask_each decide lent with_clauses goal_count instance adjacent index A B C D E F G clauses words condition1 condition2 condition3 occupant_leaves rests rest_time cost true? named named_plan plan_valuation instance_questions occupied_number second_number plan_questions halved tree_over inputs outputs variables before join joins tree_clauses tree_entries moves chain counters limit added_clauses added_variables ceiling_variables busy_at busy_entries counter_entries ceiling_valuation ceiling_questions ceiling_size_answer ceiling_write_answer ceiling_write_slice ceiling_decode_answer ceiling_decode_slice ceiling_encode_answer ceiling_encode_slice
worked =
    record {
      one = refl;
      two = refl;
      halves = refl;
      loose = refl;
      agents = refl;
      sizes = (refl, refl, refl, refl);
      writes = (refl, refl);
      encodes = (refl, refl);
      dear = refl;
      short = refl;
      falsified = (refl, refl, refl);
      both = (refl, refl, refl);
    }
