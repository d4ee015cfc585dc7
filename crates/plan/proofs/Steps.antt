-- The conditions of a valid step, said in two ways, and what an agent meets that fails condition 2 under rule 1.
use mathlib.Core.Path.{◌≡◌, sym, ◌∙◌}
use mathlib.Core.Logic.Iff
use mathlib.Core.Logic.{◌↔◌, ◌≢◌, ◌⊎◌, inl, inr, ⊎_elim, by_cases}
use mathlib.Core.Bool.{Bool, true, false, not, ◌&&◌, ◌||◌, cond}
use Prim.Native.Nat.{ℕ, zero, suc, ◌<◌}
use native.Mathlib.Decide.{ℕ_discrete, dec_lt}
use native.Mathlib.Omega.{arith}
use borrow.Author.Tests.{eq-eqb, ne_eqb}
use lib.Dec.{T, eqb}
use Rattle.lists.proofs.Tests.{and_iff, or_imp, not_iff, eqb_iff, every_iff}
use Rattle.answers.specs.Fault.{FirstFault}
use Rattle.answers.proofs.Faults.{fault_first}
use Rattle.instance.specs.declared.Sizes.{Sizes}
use Rattle.instance.specs.Instance.{Instance, following, adjacent, Edge, Endpoints}
use Rattle.instance.proofs.Graph.{adjacent_iff}
use Rattle.plan.specs.Plan.{Row, keeps, vacant?, unexchanged?, condition2, occupant, stays, exchanges, moves_on, occupant_leaves}
use Rattle.plan.specs.Passing.{Second, ValidStep}

-- no two of k agents share a vertex in the row
abbrev pub Apart : ℕ → Row → Type 0
Apart k P = (a b : ℕ) → a < k → b < k → a ≢ b → P a ≢ P b

-- that from "no two, the lower first, share"
pub apart_any : (k : ℕ) (P : Row) → ((a b : ℕ) → a < b → b < k → P a ≢ P b) → Apart k P
apart_any k P h a b l r d e = by_cases (dec_lt a b) (λ o. h a b o r e) (λ o. h b a (omega arith) l (sym e))

-- no two agents share a vertex in any row: in row 0 by the distinct starts, in a later row by condition 3 of the step before it
pub rows_apart : (I : Instance) → Endpoints I → (P : ℕ → Row) → ((a : ℕ) → a < I.sizes.k → P 0 a ≡ I.start a)
    → (t : ℕ) → ((u : ℕ) → u < t → ValidStep I (P u) (P (suc u))) → Apart I.sizes.k (P t)
rows_apart I ends P starts zero steps =
    apart_any I.sizes.k (P 0) (λ a b o r e. ends.starts_apart b r a o (sym (starts a (omega arith)) ∙ e ∙ starts b r))
rows_apart I ends P starts (suc t) steps = (steps t (omega arith)).apart

-- "keeps or crosses" from "where it changes, it crosses", and back
pub crosses_iff : (I : Instance) (x y : ℕ) → (x ≢ y → T (adjacent I x y)) ↔ ((x ≡ y) ⊎ Edge I x y)
crosses_iff I x y = (
  (λ f. by_cases (ℕ_discrete x y) inl (λ d. inr ((adjacent_iff I x y).0 (f d)))),
  (λ o d. ⊎_elim (λ e. absurd (d e)) (λ g. (adjacent_iff I x y).1 g) o),
)

-- condition 2 of every agent, under either rule
module _ (I : Instance) (here next : Row) where
  open I use {sizes}
  open sizes use {k}

  abbrev passes : Bool → ℕ → Bool
  passes f a = keeps here next a || cond f (unexchanged? sizes here next a) (vacant? sizes here next a)

  by_rule_lem : (f : Bool) → ((a : ℕ) → a < k → T (passes f a)) ↔ Second I here next f
  by_rule_lem false = simp (or_imp, every_iff, not_iff, eqb_iff) Iff.rfl
  by_rule_lem true = (
    (λ h a b l r (d, e, e').
        let t = (or_imp (keeps here next a) _).0 (h a l) (λ q. d ((eqb_iff (here a) (next a)).0 q ∙ e)) in
        (not_iff (eqb (here b) (next a) && eqb (next b) (here a))).0 ((every_iff k (λ c. not (eqb (here c) (next a) && eqb (next c) (here a)))).0 t b r)
        ((and_iff (eqb (here b) (next a)) (eqb (next b) (here a))).1 ((eqb_iff (here b) (next a)).1 (sym e), (eqb_iff (next b) (here a)).1 e'))),
    (λ h a l.
        (or_imp (keeps here next a) _).1 (λ d.
        (every_iff k (λ c. not (eqb (here c) (next a) && eqb (next c) (here a)))).1 (λ b r.
        (not_iff (eqb (here b) (next a) && eqb (next b) (here a))).1 (λ t.
        let (x, y) = (and_iff (eqb (here b) (next a)) (eqb (next b) (here a))).0 t in
        let e = (eqb_iff (here b) (next a)).0 x in
        h a b l r ((λ z. d ((eqb_iff (here a) (next a)).1 (z ∙ e))), sym e, (eqb_iff (next b) (here a)).0 y))))),
  )

  pub second_iff : ((a : ℕ) → a < k → T (condition2 sizes here next a)) ↔ Second I here next (following sizes)
  unfolding condition2
  second_iff = by_rule_lem (following sizes)

-- where no agent enters a vertex on which one stood, no two agents exchange vertices
pub vacant_exchange : (I J : Instance) → I.sizes.k ≡ J.sizes.k → (here next : Row) → Second I here next false → Second J here next true
vacant_exchange I J ek here next h a b l r (d, e, e') = h a (rw ek l) (λ x. d (x ∙ e)) b (rw ek r) (sym e)

-- an agent that fails condition 2 changes vertex
module _ (s : Sizes) (here next : Row) (a : ℕ) (fails : T (condition2 s here next a) → ⊥) where
  pub changes : here a ≢ next a
  unfolding condition2
  changes e = fails ((or_imp (eqb (here a) (next a)) _).1 (λ d. absurd (d ((eqb_iff _ _).1 e))))

-- Under rule 1 b is the first agent found on the vertex that it enters.
module _ (s : Sizes) (one : s.rule ≢ 2) (here next : Row) (a : ℕ) (fails : T (condition2 s here next a) → ⊥) where
  vacant_passes : T (vacant? s here next a) → T (condition2 s here next a)
  unfolding condition2
  vacant_passes t = (or_imp (eqb (here a) (next a)) _).1 (λ d. rw (ne_eqb s.rule 2 one) t)

  module _ (b : ℕ) (f : FirstFault s.k (λ c. not (eqb (here c) (next a))) b) where
    pub occupant_inside : b < s.k
    occupant_inside =
        by_cases (dec_lt b s.k)
        (λ l. l)
        (λ l. absurd (fails (vacant_passes ((every_iff s.k _).1 (λ c h. f.before c (omega arith))))))

    pub occupant_stood : here b ≡ next a
    occupant_stood = (eqb_iff _ _).0 (fault_first s.k (λ c. eqb (here c) (next a)) b f occupant_inside).0

    occupant_is : occupant s here next a ≡ b
    occupant_is = (fault_first s.k (λ c. eqb (here c) (next a)) b f occupant_inside).1

    pub leaves_stays : next b ≡ next a → occupant_leaves s here next a ≡ stays
    unfolding occupant_leaves
    leaves_stays e = rw (occupant_is, eq-eqb (here b) (next b) (occupant_stood ∙ sym e))

    module _ (d : next b ≢ next a) where
      pub leaves_exchanges : next b ≡ here a → occupant_leaves s here next a ≡ exchanges
      unfolding occupant_leaves
      leaves_exchanges e = rw (occupant_is, ne_eqb (here b) (next b) (λ x. d (sym x ∙ occupant_stood)), eq-eqb (next b) (here a) e)

      pub leaves_on : next b ≢ here a → occupant_leaves s here next a ≡ moves_on
      unfolding occupant_leaves
      leaves_on e = rw (occupant_is, ne_eqb (here b) (next b) (λ x. d (sym x ∙ occupant_stood)), ne_eqb (next b) (here a) e)
