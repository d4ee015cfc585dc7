-- The first entries and those behind them as one question, the base formula's clauses and the added ones as one list, and the plan read.
use mathlib.Core.Path.{◌≡◌, sym, ◌∙◌, ap, subst}
use mathlib.Core.Logic.{by_cases}
use mathlib.Core.List.{List}
use Prim.Native.Nat.{ℕ, ◌+◌, ◌≤◌, ◌<◌}
use native.Mathlib.Nat.{le_refl}
use native.Mathlib.Decide.{dec_lt}
use native.Mathlib.Omega.{arith}
use lib.ListN.{length, take, length-append}
use lib.Seq.{get_or-take}
use lib.Dec.{T}
use lib.IntN.{ℤ, pos}
use Rattle.std.specs.Prelude.{Option, None, Some}
use Rattle.lists.specs.Loop.{any, all}
use Rattle.lists.proofs.Loops.{all_append}
use Rattle.answers.specs.Fault.{FirstFault, FirstFailing}
use Rattle.instance.specs.declared.Sizes.{Sizes}
use Rattle.instance.specs.Instance.{Instance, Edges, Endpoints}
use Rattle.formula.specs.Variables.{variable_count}
use Rattle.formula.specs.Formula.{clauses}
use Rattle.plan.specs.Plan.{plan_row}
use Rattle.valuation.specs.Valuation.{right_entry, true?, satisfied?, named_plan}
use Rattle.valuation.specs.Satisfying.{Valuation}
use Rattle.valuation.specs.Places.{Places}
use Rattle.valuation.proofs.Families.{Sat}
use Rattle.calls.proofs.Valuation.{right_iff}
use Rattle.satisfaction.specs.Rows.{Fault, Failing, Stop, Stopping, Read}
use Rattle.satisfaction.proofs.Laws.{failing_none, failing_at, fault_passed, fault_left, fault_right}
use Rattle.added_satisfaction.specs.Search.{Passes, Fails}
use Rattle.ceiling.specs.Ceiling.{added_clauses, ceiling_variables, under_ceiling}
use Rattle.ceiling.proofs.Base.{base_plan, base_places, base_sat, base_fault}
use Rattle.decoder.proofs.Laws.{planned, placed_read}

-- ---- 23: of N entries, then of those behind them
module _ (es : List ℤ) (N : ℕ) where
  right_first : (i : ℕ) → i < N → right_entry (take N es) i ≡ right_entry es i
  right_first i l = rw (get_or-take N es i (pos 0) l)

  pub wrong_first : (r : ℕ) → N ≤ length es → FirstFailing N (right_entry (take N es)) (Some r) → FirstFailing (length es) (right_entry es) (Some r)
  wrong_first r h (l, f) = (
    omega arith,
    record {
      within = omega arith;
      before = λ i q. subst T (right_first i (omega arith)) (f.before i q);
      here = λ q t. f.here l (subst T (sym (right_first r l)) t);
    },
  )

  -- the first N are right
  module _ (f : FirstFailing N (right_entry (take N es)) None) where
    behind : (u : ℕ) → Stop (right_entry es) N (length es) u → FirstFault (length es) (right_entry es) u
    behind u st =
        record {
          within = st.within;
          before = λ i q. by_cases (dec_lt i N) (λ o. subst T (right_first i o) (f.before i o)) (λ o. st.before i (omega arith) q);
          here = st.here;
        }

    pub wrong_behind : (r : Option ℕ) → Stopping (right_entry es) N (length es) r → FirstFailing (length es) (right_entry es) r
    wrong_behind None st = behind (length es) st
    wrong_behind (Some u) st = (st.0, behind u st.1)

    pub none_wrong : ((i : ℕ) → N ≤ i → i < length es → T (right_entry es i)) → FirstFailing (length es) (right_entry es) None
    none_wrong g =
        record {
          within = le_refl (length es);
          before = λ i q. by_cases (dec_lt i N) (λ o. subst T (right_first i o) (f.before i o)) (λ o. g i (omega arith) q);
          here = λ q t. omega arith;
        }

-- where none is wrong, they are a valuation
pub all_right : (es : List ℤ) (M : ℕ) → length es ≡ M → FirstFailing M (right_entry es) None → Valuation M es
all_right es M e f = record { size = e; each = λ i h. (right_iff es i).0 (f.before i h) }

-- ---- 24: the base formula's clauses, of the first N entries, then the added ones
module _ (I : Instance) (s : Sizes) (same : s ≡ I.sizes) (ends : Endpoints I) (edges : Edges I) (c : ℕ) (es : List ℤ) (w : Valuation (ceiling_variables s c) es) where
  abbrev first : List ℤ
  first = take (variable_count s) es

  enough : variable_count s ≤ ceiling_variables s c
  unfolding ceiling_variables
  enough = omega arith

  -- the same of the instance's sizes
  valid : Valuation (ceiling_variables I.sizes c) es
  valid = subst (λ (z : Sizes). Valuation (ceiling_variables z c) es) same w

  enough_I : variable_count I.sizes ≤ ceiling_variables I.sizes c
  enough_I = subst (λ (z : Sizes). variable_count z ≤ ceiling_variables z c) same enough

  first_same : take (variable_count I.sizes) es ≡ first
  first_same = ap (λ (z : Sizes). take (variable_count z) es) (sym same)

  base_first : (r : ℕ) → Fault first (clauses I) r → Fault es (clauses I) r
  unfolding Fault
  base_first r f =
      base_fault I ends edges (ceiling_variables I.sizes c) enough_I es valid r
      (subst (λ (fs : List ℤ). Fault fs (clauses I) r) (sym first_same) f)

  pub stops_base : (r : ℕ) → Failing first (clauses I) (Some r) → Failing es (under_ceiling c I).clauses (Some r)
  unfolding Failing Fault
  stops_base r (l, f) =
      failing_at es (under_ceiling c I).clauses r (omega (arith, length-append (clauses I) (added_clauses I.sizes c)))
      (fault_left es (clauses I) (added_clauses I.sizes c) r (base_first r f) l)

  module _ (f : Failing first (clauses I) None) where
    -- every clause of the base formula has a true literal
    pub passes_base : Sat (true? first) (clauses I)
    unfolding Failing Fault
    passes_base = fault_passed first (clauses I) (length (clauses I)) f (le_refl _)

    passes_all : T (all (satisfied? es) (clauses I))
    unfolding Failing Fault
    passes_all = fault_passed es (clauses I) (length (clauses I)) (base_first (length (clauses I)) f) (le_refl _)

    pub fails_behind : (count u : ℕ) → count ≡ length (clauses I) → Fails es (added_clauses s c) u → Failing es (under_ceiling c I).clauses (Some (count + u))
    fails_behind count u e g =
        let g' = subst (λ (z : Sizes). Fails es (added_clauses z c) u) same g in
        rw e
        (failing_at es (under_ceiling c I).clauses (length (clauses I) + u) (omega (arith, g'.within, length-append (clauses I) (added_clauses I.sizes c)))
        (fault_right es (clauses I) (added_clauses I.sizes c) u passes_all g'.first))

    pub passes_behind : (u : ℕ) → Passes es (added_clauses s c) u → Failing es (under_ceiling c I).clauses None
    passes_behind u g =
        let g' = subst (λ (z : Sizes). Passes es (added_clauses z c) u) same g in
        failing_none es (under_ceiling c I).clauses
        ((all_append (satisfied? es) (clauses I) (added_clauses I.sizes c)).1 (passes_all, fault_passed es (added_clauses I.sizes c) u g'.all (omega (arith, g'.count))))

  -- entries that satisfy all clauses satisfy the base formula's, by the first of them
  pub base_holds : Sat (true? es) (under_ceiling c I).clauses → Sat (true? first) (clauses I)
  base_holds h =
      subst (λ (fs : List ℤ). Sat (true? fs) (clauses I)) first_same
      (subst (λ (S : Type 0). S) (sym (base_sat I ends edges (ceiling_variables I.sizes c) enough_I es valid)) ((all_append (any (true? es)) (clauses I) (added_clauses I.sizes c)).0 h).0)

  -- where they all have one, the plan read is the one named, and where the agents are
  module _ (h : Sat (true? first) (clauses I)) (p : List ℕ) (rd : Read s first p) where
    pub plan_read : p ≡ named_plan s es
    plan_read = planned I s same first h p rd ∙ base_plan s (ceiling_variables s c) enough es w

    pub places_read : Places s (true? es) (plan_row s p)
    places_read = base_places s (ceiling_variables s c) enough es w (plan_row s p) (placed_read I s same first h p rd)
