-- A problem as the definitions see it.
use Rattle.std.specs.Prelude.{List, ℕ}
use Rattle.instance.specs.declared.Checked.{Checked}
use Rattle.instance.specs.declared.problem.Problem.{Problem}
use Rattle.instance.specs.Instance.{Instance}
use Rattle.instance.specs.Accepted.{Accepted}
use Rattle.instance.specs.Shows.{Shows}

-- the checked instance that a problem is
abbrev pub checked_of : Problem → Checked
checked_of p = record { sizes = p.shape.sizes; starts = p.starts; goals = p.goals; near = p.near }

-- it is that of the bytes b, which are accepted
abbrev pub ProblemOf : List ℕ → Problem → Type 0
ProblemOf b p = Accepted b (checked_of p)

-- its parts show the instance I
abbrev pub ShowsAll : Instance → Problem → Type 0
ShowsAll I p = Shows I p.shape.sizes p.starts p.goals p.near
