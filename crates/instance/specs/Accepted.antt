-- What the inner functions of a call require: that the instance was checked. It stands in their contracts, and in that of no call.
use Rattle.std.specs.Prelude.{◌≡◌, List, ℕ, T}
use Rattle.lists.specs.Loop.{all}
use Rattle.answers.specs.Answers.{clear}
use Rattle.instance.specs.declared.Checked.{Checked}
use Rattle.instance.specs.Instance.{Instance, instance, checked}
use Rattle.instance.specs.Questions.{instance_questions}

-- the instance that the bytes b hold, with the horizon and the rule of c
abbrev pub instance_of : List ℕ → Checked → Instance
instance_of b c = instance b c.sizes.m c.sizes.rule

-- c is the checked instance of the bytes b, all of whose questions are answered yes
pub record Accepted (b : List ℕ) (c : Checked) : Type 0 where
  pub yes : T (all clear (instance_questions b c.sizes.m c.sizes.rule))
  pub same : c ≡ checked b c.sizes.m c.sizes.rule
