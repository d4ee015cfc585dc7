-- The words of neighbours mean the graph of the edge arrays.
use mathlib.Core.Path.{◌≡◌, sym, ◌∙◌, ap, subst}
use mathlib.Core.List.{List}
use Prim.Native.Nat.{ℕ, ◌≤◌}
use native.Mathlib.Omega.{arith}
use lib.Dec.{T}
use Rattle.lists.specs.Loop.{all}
use Rattle.lists.proofs.Tests.{eqb_iff}
use Rattle.answers.specs.Answers.{clear}
use Rattle.answers.proofs.Laws.{by_number_accepted}
use Rattle.bits.proofs.Bits.{unset_bit}
use Rattle.instance.specs.declared.Checked.{Checked}
use Rattle.instance.specs.Instance.{Instance, instance, checked, unchecked, neighbour_words, Edges}
use Rattle.instance.specs.Questions.{instance_questions, instance_answer, instance_checked}
use Rattle.instance.proofs.Graph.{adjacent_iff}
use Rattle.instance.proofs.Instance.{instance_iff, edges_known, limits}
use Rattle.instance.proofs.Neighbours.{words_length, words_handshake, word_degree, word_neighbours, none_beyond, joined_at}
use Rattle.claims.specs.Neighbours.{SameGraph, Claim}

module _ (b : List ℕ) (m rule : ℕ) (e : (instance_answer b m rule).number ≡ 0) where
  abbrev I : Instance
  I = instance b m rule

  yes : T (all clear (instance_questions b m rule))
  yes = (instance_iff b m rule).0 e

  words : (instance_checked b m rule).near ≡ neighbour_words I
  unfolding instance_checked checked
  words = ap (λ (c : Checked). c.near) (by_number_accepted (instance_answer b m rule).number (checked b m rule) unchecked e)

  edges : Edges I
  edges = edges_known b m rule yes

  few : I.sizes.n ≤ 64
  few = (limits b m rule yes).n_most

  same : SameGraph I (instance_checked b m rule).near
  same =
      subst (SameGraph I) (sym words)
      (record {
        count = words_length I;
        edges = λ v w. (
          (λ h. (adjacent_iff I v w).0 (subst T (joined_at I edges few v w) ((eqb_iff _ 1).1 h))),
          (λ h. (eqb_iff _ 1).0 (subst T (sym (joined_at I edges few v w)) ((adjacent_iff I v w).1 h))),
        );
        unset = λ v w l. unset_bit _ w (joined_at I edges few v w ∙ none_beyond I edges few v w (λ p q. omega arith));
        within = λ v w l. unset_bit _ w (joined_at I edges few v w ∙ none_beyond I edges few v w (λ p q. omega arith));
        rising = word_neighbours I edges few;
        degrees = word_degree I edges few;
        handshake = words_handshake I edges few;
      })

pub neighbours_claim : Claim
neighbours_claim = record { graph = same }
