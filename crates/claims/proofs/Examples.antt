-- The worked examples under both rules, by computing every row.
use mathlib.Core.Path.{refl}
use Rattle.lists.specs.Slice.{filled}
use Rattle.answers.specs.Answers.{ask, ask_each, decide, lent, with_clauses}
use Rattle.instance.specs.Instance.{goal_count, instance, adjacent}
use Rattle.distances.specs.Distance.{within, below, floor}
use Rattle.formula.specs.Variables.{index}
use Rattle.formula.specs.Formula.{A, B, C, D, E, F, G, clauses, words}
use Rattle.formula.specs.Pruned.{H}
use Rattle.plan.specs.Plan.{condition1, condition2, condition3, occupant_leaves, rests, rest_time, cost}
use Rattle.valuation.specs.Valuation.{true?, named, named_plan, plan_valuation}
use Rattle.instance.specs.Questions.{instance_questions}
use Rattle.solver_text.specs.Text.{ahead, behind, token?, value, kind}
use Rattle.solver_text.specs.Form.{status?, satisfiable?, closing?, complete?, offset, right_line, status_place, literals_of, times, in_order}
use Rattle.calls.specs.Questions.{occupied_number, second_number}
use Rattle.calls.specs.Calls.{plan_questions, size_answer, write_answer, write_slice, clause_answer, clause_slice, check_answer, decode_answer, decode_slice, encode_answer, encode_slice, text_questions, read_answer, read_slice, floor_answer}
use Rattle.claims.specs.Examples.{Holds, Claim}
use Rattle.claims.specs.Examples as one
use Rattle.claims.specs.Following as two

rows : Holds one.table × Holds two.table
unfolding filled ask ask_each decide lent with_clauses goal_count instance adjacent index A B C D E F G clauses words condition1 condition2 condition3 occupant_leaves rests rest_time cost true? named named_plan plan_valuation instance_questions occupied_number second_number plan_questions size_answer write_answer write_slice clause_answer clause_slice check_answer decode_answer decode_slice encode_answer encode_slice ahead behind token? value kind status? satisfiable? closing? complete? offset right_line status_place literals_of times in_order text_questions read_answer read_slice within below floor H floor_answer
rows = (refl, refl)

pub examples : Claim
examples = rows.0

pub following : two.Claim
following = rows.1
