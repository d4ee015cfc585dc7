-- What the loop over the agents answers: 30, or the greatest distance.
use Rattle.std.specs.Prelude.{◌≡◌, ◌≢◌, List, [], ◌∷◌, ℕ, Option, None, Some, get_or}
use Rattle.lists.specs.Loop.{greatest}
use Rattle.answers.specs.declared.Answer.{Answer}
use Rattle.answers.specs.Answers.{decide}
use Rattle.distances.specs.Distance.{unreachable, to_goal}
use Rattle.distances.specs.Table.{by_table}
use Rattle.calls.specs.Questions.{question30}

-- of k agents, with d a from start to goal; the offset of the first goal is `place`
unfoldable pub measured : ℕ → (ℕ → ℕ) → ℕ → Answer
measured k d place = decide (question30 k d place ∷ []) (greatest k d)

-- from the start of agent a to its goal, by the table; 0 where it is free
abbrev pub between : List ℕ → List ℕ → List (List ℕ) → ℕ → ℕ
between starts goals table a = to_goal (get_or goals a 0) (by_table table starts a (get_or goals a 0))

-- what is known of a distance d, by an option: none where it is the mark
abbrev pub Reached : ℕ → Option ℕ → Type 0
Reached d None = d ≡ unreachable
Reached d (Some x) = (x ≡ d) × (d ≢ unreachable)
