-- What is returned of an instance, a horizon, a rule and a ceiling, as the answer and as the checked instance.
use Rattle.std.specs.Prelude.{Result, Ok, Err}
use Rattle.answers.specs.declared.Answer.{Answer}
use Rattle.answers.specs.declared.Refusal.{Refusal}
use Rattle.answers.specs.Returned.{refused, asked}
use Rattle.counting.specs.declared.Ceiling.{Ceiling}
use Rattle.instance.specs.declared.Checked.{Checked}
use Rattle.instance.specs.declared.problem.Problem.{Problem}
use Rattle.instance.specs.Instance.{unchecked}
use Rattle.instance.specs.Problem.{checked_of}

-- the first refusal, or the acceptance
abbrev pub inspected : Result (Problem × Result Ceiling Refusal) Refusal → Answer
inspected (Ok r) = asked r.1
inspected (Err e) = refused e

-- the accepted instance, whatever the ceiling; all zeros where it is refused
abbrev pub inspected_instance : Result (Problem × Result Ceiling Refusal) Refusal → Checked
inspected_instance (Ok r) = checked_of r.0
inspected_instance (Err e) = unchecked
