-- What the check returns, as the checked instance.
use Rattle.std.specs.Prelude.{Result, Ok, Err}
use Rattle.answers.specs.declared.Refusal.{Refusal}
use Rattle.instance.specs.declared.Checked.{Checked}
use Rattle.instance.specs.declared.problem.Problem.{Problem}
use Rattle.instance.specs.Instance.{unchecked}
use Rattle.instance.specs.Problem.{checked_of}

-- the problem's, or all zeros at a refusal
abbrev pub checked_at : Result Problem Refusal → Checked
checked_at (Ok p) = checked_of p
checked_at (Err r) = unchecked
