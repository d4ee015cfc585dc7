-- `clauses::negative` meets its contract. Assumes nothing.
use mathlib.Core.Path.{◌∙◌, ap}
use Prim.Native.Nat.{ℕ}
use mir.Facts.{to_z-of_z}
use borrow.Author.Rules.{sfits_of}
use lib.IntN.{pos, neg_ℤ}
use Rattle.clauses.proofs.negative.Goals as goal

pub returns : goal.returns
returns c = rw (to_z-of_z (sfits_of c.negation_of.type_inv)) (c.negation_of.ensures ∙ ap (λ (x : ℕ). neg_ℤ (pos x)) c.variable_of.ensures.0)
