-- `families::write_goal` meets its contract: nothing where the agent is free, the one clause else. Assumes nothing.
use mathlib.Core.Path.{sym, ◌∙◌, refl}
use native.Mathlib.Omega.{arith}
use lib.ListN.{get_or}
use Rattle.lists.proofs.Slices.{filled_nil}
use Rattle.instance.proofs.Goals.{told_goal}
use Rattle.families.proofs.write_goal.Goals as goal

pub returns-then-is_free : goal.returns-then-is_free
returns-then-is_free c = rw (sym c.is_free.ensures ∙ c.if-is_free.true) (refl, sym (filled_nil _))

pub write_unit-requires : goal.write_unit-requires
write_unit-requires c =
    let h = told_goal (get_or c.args.goals.now c.args.a.0 0) c.is_free.ensures c.if-is_free.false in
    let r = rw (sym c.is_free.ensures ∙ c.if-is_free.false) at c.requires.a_in_bounds in
    (omega arith, c.requires.a_lt_k.0, c.requires.a_lt_k.1 h, r)

pub returns : goal.returns
returns c = rw (sym c.is_free.ensures ∙ c.if-is_free.false) c.write_unit.ensures
