-- `Rows::crosses` meets its contract. The two bytes are the agent's places in the two rows, and the bit of the second in the word of the first answers where they differ. Assumes nothing.
use mathlib.Core.Path.{ap₂, sym, ◌∙◌}
use Rattle.instance.specs.Instance.{joined}
use Rattle.conditions.proofs.Laws.{keeps_1, crosses_1}
use Rattle.conditions.proofs.Rows.crosses.Goals as goal

pub returns-then-v-w : goal.returns-then-v-w
returns-then-v-w c = keeps_1 _ _ c.args.a _ (sym c.from-v.ensures ∙ c.if-v-w.true ∙ c.from-w.ensures)

pub returns : goal.returns
returns c =
    crosses_1 _ _ c.args.a _
    (λ e. c.if-v-w.false (c.from-v.ensures ∙ e ∙ sym c.from-w.ensures))
    c.has_bit.result
    (c.has_bit.ensures ∙ ap₂ (joined c.args.self.now.near.now) c.from-v.ensures c.from-w.ensures)
