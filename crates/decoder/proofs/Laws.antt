-- The decoder's questions one after another, of any formula F, and what an acceptance says of the entries.
use mathlib.Core.Path.{◌≡◌, sym, ◌∙◌, ap, subst}
use mathlib.Core.Logic.{◌≢◌}
use mathlib.Core.List.{List, [], ◌∷◌, ◌++◌}
use Prim.Native.Nat.{ℕ, suc, ◌≤◌, ◌<◌}
use native.Mathlib.Nat.{le_refl}
use native.Mathlib.Omega.{arith}
use lib.ListN.{length, take, drop}
use lib.Seq.{ext_get_or, length-take-le}
use lib.Dec.{eqb, leb}
use lib.IntN.{ℤ}
use Rattle.std.specs.Prelude.{None, Some}
use Rattle.lists.specs.Slice.{filled}
use Rattle.lists.proofs.Tests.{and_iff, eqb_iff, leb_iff}
use Rattle.lists.proofs.Blocks.{place_split}
use Rattle.answers.specs.declared.Answer.{Answer}
use Rattle.answers.specs.Answers.{Question, refuse, accept, decide, clear}
use Rattle.answers.specs.Fault.{FirstFault}
use Rattle.answers.proofs.Laws.{clear_iff, clear_second, numbered_second, decide_iff, ask_yes, ask_no, fault_pass, fault_stop, ask_nil, ask_all}
use Rattle.instance.specs.declared.Sizes.{Sizes}
use Rattle.instance.specs.Instance.{Instance}
use Rattle.instance.specs.Limits.{Limits}
use Rattle.formula.specs.Variables.{variable_count}
use Rattle.formula.specs.Formula.{clauses, Formula}
use Rattle.formula.proofs.Limits.{rows}
use Rattle.plan.specs.Plan.{plan_bytes, plan_row}
use Rattle.valuation.specs.Valuation.{right_entry, true?, named, named_plan}
use Rattle.valuation.specs.Satisfying.{Valuation}
use Rattle.valuation.specs.Places.{Places}
use Rattle.valuation.proofs.Families.{Sat, sat_CD, places_cong}
use Rattle.valuation.proofs.Entries.{named_places, named_size, named_at}
use Rattle.calls.specs.Questions.{question14, question15, question23, question24}
use Rattle.calls.specs.Calls.{decode_rest}
use Rattle.calls.proofs.Valuation.{numbered_valuation, clear_valuation}
use Rattle.satisfaction.specs.Rows.{Fault, Failing, Read}
use Rattle.satisfaction.proofs.Families.{place_named}

module _ (I : Instance) (F : Formula) (s : Sizes) (same : s ≡ I.sizes) (es : List ℤ) (size : ℕ) where
  abbrev bytes : ℕ
  bytes = plan_bytes I.sizes

  abbrev asked : Answer
  asked = decide (decode_rest I F es size) bytes

  bytes_same : plan_bytes s ≡ bytes
  bytes_same = ap plan_bytes same

  abbrev q14 : Question
  q14 = question14 F es

  abbrev q15 : Question
  q15 = question15 I size

  abbrev q23 : Question
  q23 = question23 F es

  abbrev q24 : Question
  q24 = question24 F es

  -- so many variables
  module _ (count : ℕ) (en : count ≡ F.variables) where
    pub stop_14 : length es ≢ count → refuse 14 (length es) ≡ asked
    stop_14 d = sym (ask_no (eqb (length es) F.variables) (refuse 14 (length es)) _ bytes (λ t. d ((eqb_iff _ _).0 t ∙ sym en)))

    module _ (e : length es ≡ count) where
      pass_14 : asked ≡ decide (q15 ∷ q23 ∷ q24 ∷ []) bytes
      pass_14 = ask_yes (eqb (length es) F.variables) (refuse 14 (length es)) _ bytes ((eqb_iff _ _).1 (e ∙ en))

      pub stop_15 : size < plan_bytes s → refuse 15 (plan_bytes s) ≡ asked
      stop_15 l =
          ap (refuse 15) bytes_same
          ∙ sym (pass_14 ∙ ask_no (leb bytes size) (refuse 15 bytes) _ bytes (λ t. let h = (leb_iff bytes size).0 t in let f : ⊥ = omega (arith, bytes_same) in f))

      module _ (l : plan_bytes s ≤ size) where
        pass_15 : asked ≡ decide (q23 ∷ q24 ∷ []) bytes
        pass_15 = pass_14 ∙ ask_yes (leb bytes size) (refuse 15 bytes) _ bytes ((leb_iff bytes size).1 (omega (arith, bytes_same)))

        module _ (i : ℕ) (f : FirstFault count (right_entry es) i) where
          entries_fault : FirstFault F.variables (right_entry es) i
          entries_fault = subst (λ (z : ℕ). FirstFault z (right_entry es) i) en f

          pub stop_23 : i < count → refuse 23 i ≡ asked
          stop_23 h = sym (pass_15 ∙ fault_stop entries_fault (refuse 23) (q24 ∷ []) bytes (omega (arith, en)))

          module _ (h : count ≤ i) where
            pass_23 : asked ≡ decide (q24 ∷ []) bytes
            pass_23 = pass_15 ∙ fault_pass entries_fault (refuse 23) (q24 ∷ []) bytes (omega (arith, en))

            pub stop_24 : (r : ℕ) → Failing es F.clauses (Some r) → refuse 24 r ≡ asked
            unfolding Fault Failing
            stop_24 r g = sym (pass_23 ∙ fault_stop g.1 (refuse 24) [] bytes g.0)

            pub pass_24 : Failing es F.clauses None → accept (plan_bytes s) ≡ asked
            unfolding Fault Failing decide
            pass_24 g = ap accept bytes_same ∙ sym (pass_23 ∙ fault_pass g (refuse 24) [] bytes (le_refl _))

  -- what an acceptance says
  pub record Accepts : Type 0 where
    pub valid : Valuation F.variables es
    pub satisfies : Sat (true? es) F.clauses
    pub fits : plan_bytes s ≤ size

  pub accepted : asked.number ≡ 0 → Accepts
  accepted e =
      let t = (decide_iff (decode_rest I F es size) bytes (numbered_second q14 q15 (q23 ∷ q24 ∷ []) ((ask_all _ (leb bytes size) _).1 (λ f. tt)) (numbered_valuation F es))).0 e in
      let o = ((and_iff (clear q15) _).0 ((and_iff (clear q14) _).0 t).1).0 in
      let h = (clear_valuation F es).0 ((clear_second q14 q15 (q23 ∷ q24 ∷ []) o).0 t) in
      let l : bytes ≤ size = (leb_iff _ _).0 ((ask_nil (leb bytes size) (refuse 15 bytes)).0 ((clear_iff q15).0 o)) in
      record { valid = h.0; satisfies = h.1; fits = subst (λ (z : ℕ). z ≤ size) (sym bytes_same) l }

  -- an acceptance of n bytes holds the plan's: they stand in an array of 528, and the slice has room for them
  pub room : Limits s → (n : ℕ) → accept n ≡ asked → n ≡ plan_bytes s → (n ≤ 528) × (n ≤ size)
  room w n o d =
      let y = accepted (sym (ap (λ (x : Answer). x.number) o)) in
      (omega (arith, rows s w), omega (arith, y.fits))

-- ---- the first n of `vertices`, copied to the start of a slice with room for them
module _ (vertices plan : List ℕ) (n : ℕ) (h : n ≤ length vertices) (l : n ≤ length plan) where
  pub copy_fits : length (take n plan) ≡ length (take n vertices)
  copy_fits = length-take-le n plan l ∙ sym (length-take-le n vertices h)

  pub copied : {now : List ℕ} → now ≡ take n vertices → now ++ drop n plan ≡ filled (take n vertices) plan
  unfolding filled
  copied e = rw (e, length-take-le n vertices h)

-- of entries that satisfy the base formula: the plan that the pass has read is the one named, and where the agents are
module _ (I : Instance) (s : Sizes) (same : s ≡ I.sizes) (es : List ℤ) (h : Sat (true? es) (clauses I)) (p : List ℕ) (rd : Read s es p) where
  placed : Places s (true? es) (named s es)
  placed =
      let (x, y) = sat_CD I (true? es) h in
      let v = subst (λ (z : Sizes). Valuation (variable_count z) es) same rd.valid in
      subst (λ (z : Sizes). Places z (true? es) (named z es)) (sym same) (named_places I es v x y)

  pub planned : p ≡ named_plan s es
  planned =
      ext_get_or 0 p (named_plan s es) (rd.size ∙ sym (named_size s es))
      (λ i l.
      let (t, a, h, h', e) = place_split (suc s.m) s.k i (subst (λ (x : ℕ). i < x) rd.size l) in
      rw e (sym (named_at s es t a h h' ∙ place_named s es p rd placed t a h h')))

  pub placed_read : Places s (true? es) (plan_row s p)
  placed_read = places_cong s (true? es) (named s es) (plan_row s p) placed (place_named s es p rd placed)
