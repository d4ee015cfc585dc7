-- The correspondence, proved. A satisfying valuation puts each agent at one vertex at each time, by families C and D; at those
-- places the formula says that they lead from the starts to the goals by valid steps, and so does a passing plan.
use mathlib.Core.Path.{◌≡◌, refl, sym, ◌∙◌, subst}
use mathlib.Core.Logic.Iff
use mathlib.Core.Logic.{◌↔◌, ⊎_elim}
use mathlib.Core.List.{List, [], ◌∷◌}
use Prim.Native.Nat.{ℕ, suc, ◌+◌, ◌*◌, ◌≤◌, ◌<◌}
use native.Mathlib.Omega.{arith}
use lib.ListN.{length, get_or}
use lib.Seq.{ext_get_or}
use lib.Dec.{T, leb}
use lib.IntN.{ℤ, pos}
use Rattle.lists.specs.Loop.{all}
use Rattle.lists.proofs.Tests.{leb_iff}
use Rattle.lists.proofs.Blocks.{place_lt, place_split}
use Rattle.answers.specs.declared.Answer.{Answer}
use Rattle.answers.specs.Answers.{ask, clear}
use Rattle.answers.proofs.Laws.{clear_iff, clear_second, numbered_second, decide_iff, decide_after, lent_take, ask_nil, ask_all}
use Rattle.instance.specs.Instance.{Instance, instance, Edges, Endpoints}
use Rattle.formula.specs.Variables.{X, variable_count}
use Rattle.formula.specs.Formula.{clauses, Formula, formula}
use Rattle.plan.specs.Plan.{plan_row}
use Rattle.plan.specs.Passing.{Passes}
use Rattle.plan.proofs.Rows.{plan_ext}
use Rattle.valuation.specs.Valuation.{true?, named, named_plan, plan_valuation}
use Rattle.valuation.specs.Satisfying.{Valuation, Names}
use Rattle.valuation.specs.Places.{Places}
use Rattle.valuation.proofs.Families.{Sat, satisfies_iff, sat_CD, places_cong, places_unique}
use Rattle.formula.proofs.Variables.{index_onto}
use Rattle.valuation.proofs.Entries.{true_yes, named_places, named_size, named_at, written_size, written_valuation, written_places}
use Rattle.calls.specs.Questions.{question13, question14, question15, question16, question23, question24}
use Rattle.instance.specs.Questions.{instance_questions}
use Rattle.calls.specs.Calls.{plan_questions, decode_answer, decode_slice, encode_answer, encode_slice}
use Rattle.instance.proofs.Instance.{instance_iff, endpoints, edges_known}
use Rattle.calls.proofs.Plan.{numbered_plan, clear_plan, check_iff}
use Rattle.calls.proofs.Valuation.{true_iff, satisfies_mem, numbered_valuation, clear_valuation}
use Rattle.claims.proofs.Formula.{plan_steps}
use Rattle.claims.specs.Correspondence.{Accepts, Correspondence, Claim, bytes, N, handed_back, written}

-- a question whether a slice of s places has x or more
pub fits : (x s : ℕ) (r : Answer) → x ≤ s → T (clear (ask (leb x s) r))
fits x s r l = (clear_iff (ask (leb x s) r)).1 ((ask_nil (leb x s) r).1 ((leb_iff x s).1 l))

module _ (I : Instance) where
  open I use {sizes}
  open sizes use {n, k, m}

  pub inside_at : (p : List ℕ) → Passes I p → (t a : ℕ) → t < suc m → a < k → plan_row sizes p t a < n
  inside_at p w t a x y = w.inside (t * k + a) (place_lt (suc m) (k) t a x y)

  pub names : (es : List ℤ) (p : List ℕ) → length p ≡ suc m * k → Places sizes (true? es) (plan_row sizes p) → Names sizes es p
  names es p l c =
      record {
        size = l;
        inside = c.inside;
        chosen = λ t a v x y z. Iff.trans (Iff.symm (true_iff es (X sizes t a v))) (c.here t a v x y z);
      }

  -- a valuation names one plan
  pub names_unique : (es : List ℤ) (p q : List ℕ) → Names sizes es p → Names sizes es q → p ≡ q
  names_unique es p q a b =
      plan_ext k m p q a.size b.size
      (λ t c x y. (b.chosen t c (plan_row sizes p t c) x y (a.inside t c x y)).0 ((a.chosen t c (plan_row sizes p t c) x y (a.inside t c x y)).1 refl))

  -- the plan that a satisfying valuation names
  module _ (es : List ℤ) (w : Valuation (variable_count sizes) es) (h : Sat (true? es) (clauses I)) where
    pub named_at_places : Places sizes (true? es) (plan_row sizes (named_plan sizes es))
    named_at_places =
        let (c, d) = sat_CD I (true? es) h in
        places_cong sizes (true? es) (named sizes es) (plan_row sizes (named_plan sizes es)) (named_places I es w c d) (λ t a x y. sym (named_at sizes es t a x y))

    pub named_passes : Endpoints I → Edges I → Passes I (named_plan sizes es)
    named_passes s g =
        record {
          size = named_size sizes es;
          inside = λ i l.
              let (t, a, x, y, e) = place_split (suc m) (k) i l in
              rw e (named_at_places.inside t a x y);
          leads = (satisfies_iff I s g (plan_row sizes (named_plan sizes es)) (true? es) named_at_places).0 h;
        }

  -- two satisfying valuations that name one plan are equal
  module _ (es fs : List ℤ) (w : Valuation (variable_count sizes) es) (x : Valuation (variable_count sizes) fs) (P : ℕ → ℕ → ℕ) where
    same_valuation : Places sizes (true? es) P → Places sizes (true? fs) P → es ≡ fs
    same_valuation c d =
        ext_get_or (pos 0) es fs (w.size ∙ sym x.size)
        (λ i l.
        let l' : i < variable_count sizes = omega (arith, w.size) in
        let (t, a, v, p, q, r, e) = index_onto sizes i l' in
        let to : get_or es i (pos 0) ≡ pos (suc i) → get_or fs i (pos 0) ≡ pos (suc i) =
        rw e (λ z. (true_yes sizes fs x t a v p q r).0 ((d.here t a v p q r).1 ((c.here t a v p q r).0 ((true_yes sizes es w t a v p q r).1 z)))) in
        let from : get_or fs i (pos 0) ≡ pos (suc i) → get_or es i (pos 0) ≡ pos (suc i) =
        rw e (λ z. (true_yes sizes es w t a v p q r).0 ((c.here t a v p q r).1 ((d.here t a v p q r).0 ((true_yes sizes fs x t a v p q r).1 z)))) in
        ⊎_elim
        (λ y. y ∙ sym (to y))
        (λ y. ⊎_elim (λ z. from z ∙ sym z) (λ z. y ∙ sym z) (x.each i l'))
        (w.each i l'))

  -- the valuation of a passing plan
  module _ (p : List ℕ) (w : Passes I p) where
    pub written_names : Places sizes (true? (plan_valuation sizes p)) (plan_row sizes p)
    written_names = written_places sizes p (inside_at p w)

    pub written_sat : Endpoints I → Edges I → Sat (true? (plan_valuation sizes p)) (clauses I)
    written_sat s g = (satisfies_iff I s g (plan_row sizes p) (true? (plan_valuation sizes p)) written_names).1 w.leads

    pub round_trip : Endpoints I → Edges I → named_plan sizes (plan_valuation sizes p) ≡ p
    round_trip s g =
        let v = written_valuation sizes p in
        let h = written_sat s g in
        plan_ext k m (named_plan sizes (plan_valuation sizes p)) p (named_size sizes (plan_valuation sizes p)) w.size
        (places_unique sizes _ _ _ (named_at_places (plan_valuation sizes p) v h) written_names)

module _ (b : List ℕ) (m rule : ℕ) (ok : T (all clear (instance_questions b m rule))) where
  abbrev I : Instance
  I = instance b m rule

  abbrev F : Formula
  F = formula I

  -- ---- acceptance
  pub encode_iff : (p : List ℕ) (s : ℕ) → N b m rule ≤ s → Accepts (encode_answer b m rule p s) ↔ Passes I p
  unfolding encode_answer
  encode_iff p s l =
      rw (decide_after (instance_questions b m rule) _ _ ok)
      (Iff.trans (decide_iff (question13 I p ∷ question16 F.variables s ∷ plan_questions I p) _ (numbered_second (question13 I p) (question16 F.variables s) (plan_questions I p) ((ask_all _ (leb (N b m rule) s) _).1 (λ f. tt)) (numbered_plan I p)))
      (Iff.trans (clear_second (question13 I p) (question16 F.variables s) (plan_questions I p) (fits (N b m rule) s _ l))
      (clear_plan I p)))

  pub decode_iff : (es : List ℤ) (s : ℕ) → bytes b m rule ≤ s → Accepts (decode_answer b m rule es s) ↔ (Valuation (N b m rule) es × Sat (true? es) (clauses I))
  unfolding decode_answer
  decode_iff es s l =
      rw (decide_after (instance_questions b m rule) _ _ ok)
      (Iff.trans (decide_iff (question14 F es ∷ question15 I s ∷ question23 F es ∷ question24 F es ∷ []) _ (numbered_second (question14 F es) (question15 I s) ((question23 F es ∷ question24 F es ∷ [])) ((ask_all _ (leb (bytes b m rule) s) _).1 (λ f. tt)) (numbered_valuation F es)))
      (Iff.trans (clear_second (question14 F es) (question15 I s) ((question23 F es ∷ question24 F es ∷ [])) (fits (bytes b m rule) s _ l))
      (clear_valuation F es)))

  -- ---- slices
  handed : (es : List ℤ) (s : List ℕ) → Accepts (decode_answer b m rule es (length s)) → handed_back b m rule es s ≡ named_plan I.sizes es
  unfolding decode_slice
  handed es s e = rw (← (named_size I.sizes es)) (lent_take (decode_answer b m rule es (length s)) (named_plan I.sizes es) s e)

  wrote : (p : List ℕ) (z : List ℤ) → Accepts (encode_answer b m rule p (length z)) → written b m rule p z ≡ plan_valuation I.sizes p
  unfolding encode_slice
  wrote p z e = rw (← (written_size I.sizes p)) (lent_take (encode_answer b m rule p (length z)) (plan_valuation I.sizes p) z e)

  pub correspondence_at : Correspondence b m rule
  correspondence_at =
      record {
        decoder = λ es s l. Iff.trans (decode_iff es (length s) l) ((λ (w, h). (w, (satisfies_mem F es).0 h)), (λ (w, h). (w, (satisfies_mem F es).1 h)));
        decoded = λ es s l e.
            let (w, h) = (decode_iff es (length s) l).0 e in
            rw (handed es s e) (
              names I es (named_plan I.sizes es) (named_size I.sizes es) (named_at_places I es w h),
              (check_iff b m rule ok (named_plan I.sizes es)).1 (named_passes I es w h (endpoints b m rule ok) (edges_known b m rule ok)),
            );
        injective = λ es fs s s' l l' e e' q.
            let (w, h) = (decode_iff es (length s) l).0 e in
            let (w', h') = (decode_iff fs (length s') l').0 e' in
            let np : named_plan I.sizes fs ≡ named_plan I.sizes es = sym (sym (handed es s e) ∙ q ∙ handed fs s' e') in
            same_valuation I es fs w w' (plan_row I.sizes (named_plan I.sizes es)) (named_at_places I es w h)
            (subst (λ (p : List ℕ). Places I.sizes (true? fs) (plan_row I.sizes p)) np (named_at_places I fs w' h'));
        encoder = λ p z l. Iff.trans (encode_iff p (length z) l) (Iff.symm (check_iff b m rule ok p));
        encoded = λ p z l e.
            let w = (encode_iff p (length z) l).0 e in
            rw (wrote p z e) (
              written_valuation I.sizes p,
              (satisfies_mem F (plan_valuation I.sizes p)).0 (written_sat I p w (endpoints b m rule ok) (edges_known b m rule ok)),
              names I (plan_valuation I.sizes p) p w.size (written_names I p w),
              (λ s l'.
                  let a = (decode_iff (plan_valuation I.sizes p) (length s) l').1 (written_valuation I.sizes p, written_sat I p w (endpoints b m rule ok) (edges_known b m rule ok)) in
                  (a, handed (plan_valuation I.sizes p) s a ∙ round_trip I p w (endpoints b m rule ok) (edges_known b m rule ok))),
            );
        satisfiable = (
          (λ (es, w, h).
              let x = named_passes I es w ((satisfies_mem F es).1 h) (endpoints b m rule ok) (edges_known b m rule ok) in
              (named_plan I.sizes es, plan_steps b m rule ok (named_plan I.sizes es) x, (check_iff b m rule ok (named_plan I.sizes es)).1 x)),
          (λ (p, q, e).
              let w = (check_iff b m rule ok p).0 e in
              (plan_valuation I.sizes p, written_valuation I.sizes p, (satisfies_mem F (plan_valuation I.sizes p)).0 (written_sat I p w (endpoints b m rule ok) (edges_known b m rule ok)))),
        );
      }

pub correspondence : Claim
correspondence b m rule e = correspondence_at b m rule ((instance_iff b m rule).0 e)
