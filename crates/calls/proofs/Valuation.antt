-- The decoder's questions of a list of entries are answered yes exactly for the valuations that satisfy every clause.
use mathlib.Core.Path.{◌≡◌, refl}
use mathlib.Core.Logic.{◌↔◌, ◌⊎◌, inl, inr, ⊎_elim}
use mathlib.Core.List.{List, [], ◌∷◌}
use Prim.Native.Nat.{ℕ, suc, ◌<◌}
use lib.ListN.{length, get_or}
use lib.Dec.{T}
use lib.IntN.{ℤ, pos, negsuc, neg_ℤ}
use Rattle.lists.specs.Loop.{any, all}
use Rattle.lists.proofs.Tests.{and_iff, or_iff, eqb_iff}
use Rattle.lists.proofs.Loops.{all_get_d, any_mem, all_mem}
use Rattle.answers.specs.Answers.{clear}
use Rattle.answers.proofs.Laws.{numbered, clear_iff, each_all, each_nil, ask_nil, ask_all}
use Rattle.formula.specs.Variables.{Literal}
use Rattle.formula.specs.Formula.{Formula}
use Rattle.valuation.specs.Valuation.{same_number, entry, right_entry, true?, satisfied?}
use Rattle.valuation.specs.Satisfying.{True, Valuation, Satisfies}
use Rattle.valuation.proofs.Families.{Sat}
use Rattle.valuation.proofs.Entries.{same_number_iff}
use Rattle.calls.specs.Questions.{question14, question23, question24}

module _ (es : List ℤ) where
  -- the test of a literal and its being one of the entries
  pub true_iff : (l : Literal) → T (true? es l) ↔ True es l
  unfolding true?
  true_iff l = (
    (λ t. let (x, i, e) = (any_mem (same_number l) es).0 t in mathlib.Core.List.Memᴰ.cast ((same_number_iff l x).0 e) i),
    (λ i. (any_mem (same_number l) es).1 (l, i, (same_number_iff l l).1 refl)),
  )

  pub right_iff : (i : ℕ) → T (right_entry es i) ↔ ((entry es i ≡ pos (suc i)) ⊎ (entry es i ≡ neg_ℤ (pos (suc i))))
  right_iff i =
      let z : ℤ = entry es i in (
        (λ t. ⊎_elim (λ u. inl ((same_number_iff z (pos (suc i))).0 u)) (λ u. inr ((same_number_iff z (negsuc i)).0 u)) ((or_iff (same_number z (pos (suc i))) _).0 t)),
        (λ o. (or_iff (same_number z (pos (suc i))) _).1 (⊎_elim (λ e. inl ((same_number_iff z (pos (suc i))).1 e)) (λ e. inr ((same_number_iff z (negsuc i)).1 e)) o)),
      )

module _ (f : Formula) (es : List ℤ) where
  open f use {variables, clauses}

  pub satisfies_mem : Sat (true? es) clauses ↔ Satisfies f es
  satisfies_mem = (
    (λ h c i. let (l, j, t) = (any_mem (true? es) c).0 ((all_mem (any (true? es)) clauses).0 h c i) in (l, j, (true_iff es l).0 t)),
    (λ h. (all_mem (any (true? es)) clauses).1 (λ c i. let (l, j, t) = h c i in (any_mem (true? es) c).1 (l, j, (true_iff es l).1 t))),
  )

  pub numbered_valuation : T (all numbered (question14 f es ∷ question23 f es ∷ question24 f es ∷ []))
  numbered_valuation = simp (and_iff, each_all, ask_all) ((λ f. tt), ((λ i l f. tt), ((λ i l f. tt), tt)))

  -- 14 and 23
  pub clear_entries : T (all clear (question14 f es ∷ question23 f es ∷ [])) ↔ Valuation variables es
  clear_entries =
      simp (and_iff, clear_iff, each_nil, ask_nil, eqb_iff) (
        (λ h. record { size = h.0; each = λ i l. (right_iff es i).0 (h.1.0 i l) }),
        (λ v. (v.size, ((λ i l. (right_iff es i).1 (v.each i l)), tt))),
      )

  pub clear_valuation : T (all clear (question14 f es ∷ question23 f es ∷ question24 f es ∷ []))
      ↔ (Valuation variables es × Sat (true? es) clauses)
  clear_valuation =
      let g : Sat (true? es) clauses ↔ ((i : ℕ) → i < length clauses → T (satisfied? es (get_or clauses i []))) =
      all_get_d [] (satisfied? es) clauses in
      simp (and_iff, clear_iff, each_nil, ask_nil, eqb_iff) (
        (λ h. (record { size = h.0; each = λ i l. (right_iff es i).0 (h.1.0 i l) }, g.1 h.1.1.0)),
        (λ h. (h.0.size, ((λ i l. (right_iff es i).1 (h.0.each i l)), (g.0 h.1, tt)))),
      )
