-- 20, 25 and 26, proved from the plan's questions: rows before have no vertex twice, so the occupant is one agent only.
use mathlib.Core.Path.{◌≡◌, sym, ◌∙◌, ap, subst}
use mathlib.Core.Logic.Iff
use mathlib.Core.Logic.{◌↔◌, ◌≢◌, ◌⊎◌, inl, inr, ⊎_elim, by_cases}
use mathlib.Core.List.{List, [], ◌∷◌, ◌++◌}
use mathlib.Core.Bool.{Bool, true, false, not, ◌&&◌, ◌||◌, cond}
use Prim.Native.Nat.{ℕ, suc, ◌≤◌, ◌<◌}
use native.Mathlib.Decide.{ℕ_discrete, dec_lt}
use native.Mathlib.Omega.{arith}
use borrow.Author.Tests.{eq-eqb}
use lib.ListN.{length, get_or}
use lib.Dec.{T, eqb}
use Rattle.lists.specs.Loop.{all}
use Rattle.lists.proofs.Tests.{and_iff, or_iff, or_imp, not_iff, eqb_iff, ltb_iff, leb_iff, every_iff}
use Rattle.answers.specs.declared.Answer.{Answer}
use Rattle.answers.specs.Answers.{Question, clear, decide}
use Rattle.answers.specs.Fault.{FirstFault}
use Rattle.answers.proofs.Laws.{clear_iff, each_nil, ask_all, ask_nil, decide_after}
use Rattle.answers.proofs.Faults.{fault_of, fault_first}
use Rattle.instance.specs.declared.Sizes.{Sizes}
use Rattle.instance.specs.Instance.{Instance, following, instance, adjacent, Edge, Endpoints}
use Rattle.instance.specs.Questions.{instance_questions, instance_answer}
use Rattle.instance.proofs.Instance.{all_instance, instance_iff, endpoints}
use Rattle.formula.specs.Formula.{formula}
use Rattle.plan.specs.Plan.{Row, plan_bytes, plan_row, vacant?, unexchanged?, condition1, condition2, occupant_leaves}
use Rattle.plan.proofs.Steps.{Apart, rows_apart, crosses_iff, changes, occupant_inside, occupant_stood, leaves_stays, leaves_exchanges, leaves_on}
use Rattle.calls.specs.Questions.{occupied_number, second_number, question13, question16}
use Rattle.calls.specs.Calls.{plan_questions, check_answer, encode_answer}
use Rattle.calls.proofs.Occupied.{occupied?, Occupied, Others, past, number_leaves, number_exchange, gives_step}
use Rattle.calls.proofs.Plan.{early, OccupiedAt, occupied_at, occupied_given}
use Rattle.claims.specs.Occupied.{Stays, Exchanges, MovesOn, OneOfThree, Turn, AtFault, Tells, Meeting, Claim}

-- ---- what the number says of the occupant b
both : {A B : Type 0} → A → B → A ↔ B
both x y = ((λ z. y), (λ z. x))

neither : {A B : Type 0} → (A → ⊥) → (B → ⊥) → A ↔ B
neither f g = ((λ x. absurd (f x)), (λ y. absurd (g y)))

module _ (s : Sizes) (here next : Row) (a : ℕ) (fails : T (condition2 s here next a) → ⊥) where
  abbrev Says : ℕ → ℕ → Type 0
  Says b number =
      ((number ≡ 20) ↔ Stays here next a b) × (((number ≡ 25) ↔ Exchanges here next a b) × ((number ≡ 26) ↔ MovesOn here next a b))

  abbrev Met : Type 0
  Met = (b : ℕ) × (b < s.k) × (here b ≡ next a) × Says b (second_number s here next a)

  -- under rule 1 b is the first agent found on the vertex that a enters
  says : (one : s.rule ≢ 2) (b : ℕ) → FirstFault s.k (λ c. not (eqb (here c) (next a))) b
      → (number : ℕ) → number ≡ occupied_number (occupant_leaves s here next a) → Says b number
  unfolding occupied_number
  says one b f number e =
      let stood : here b ≡ next a = occupant_stood s one here next a fails b f in
      let other : next b ≡ here b → next b ≢ here a = λ x y. changes s here next a fails (sym y ∙ x ∙ stood) in
      by_cases (ℕ_discrete (next b) (here b))
      (λ x.
      let n : number ≡ 20 = e ∙ ap occupied_number (leaves_stays s one here next a fails b f (x ∙ stood)) in
      (both n x, (neither (λ q. omega arith) (other x), neither (λ q. omega arith) (λ h. h.0 x))))
      (λ d.
      let d' : next b ≢ next a = λ x. d (x ∙ sym stood) in
      by_cases (ℕ_discrete (next b) (here a))
      (λ x.
      let n : number ≡ 25 = e ∙ ap occupied_number (leaves_exchanges s one here next a fails b f d' x) in
      (neither (λ q. omega arith) d, (both n x, neither (λ q. omega arith) (λ h. h.1 x))))
      (λ x.
      let n : number ≡ 26 = e ∙ ap occupied_number (leaves_on s one here next a fails b f d' x) in
      (neither (λ q. omega arith) d, (neither (λ q. omega arith) x, both n (d, x)))))

  met_following : s.rule ≢ 2 → Met
  met_following one =
      let (b, f) = fault_of s.k (λ c. not (eqb (here c) (next a))) in
      (b, occupant_inside s one here next a fails b f, occupant_stood s one here next a fails b f, says one b f _ (number_leaves s here next a one))

  -- under rule 2 it is the first that goes from there to the vertex of a
  met_exchange : s.rule ≡ 2 → Met
  unfolding condition2
  met_exchange two =
      let goes : ℕ → Bool = λ c. eqb (here c) (next a) && eqb (next c) (here a) in
      let (b, f) = fault_of s.k (λ c. not (goes c)) in
      let inside : b < s.k =
      by_cases (dec_lt b s.k) (λ l. l)
      (λ l. absurd (fails ((or_imp (eqb (here a) (next a)) _).1 (λ d. rw (eq-eqb s.rule 2 two) ((every_iff s.k (λ c. not (goes c))).1 (λ c h. f.before c (omega arith))))))) in
      let (x, y) = (and_iff (eqb (here b) (next a)) (eqb (next b) (here a))).0 (fault_first s.k goes b f inside).0 in
      let stood = (eqb_iff (here b) (next a)).0 x in
      let back = (eqb_iff (next b) (here a)).0 y in
      let n : second_number s here next a ≡ 25 = number_exchange s here next a two in
      (b, inside, stood, (neither (λ q. omega arith) (λ z. changes s here next a fails (sym back ∙ z ∙ stood)), (both n back, neither (λ q. omega arith) (λ h. h.1 back))))

  met : Met
  met = by_cases (ℕ_discrete s.rule 2) met_exchange met_following

-- ---- the plan's questions
module _ (I : Instance) (p : List ℕ) where
  open I use {sizes}
  open sizes use {k}

  abbrev P : ℕ → Row
  P = plan_row sizes p

  -- questions 13, 17 and 18, and the tests of a step, as propositions
  size_iff : T (clear (question13 I p)) ↔ (length p ≡ plan_bytes sizes)
  size_iff = simp (clear_iff, ask_nil, eqb_iff) Iff.rfl

  early_iff : T (all clear (early I p)) ↔ (((i : ℕ) → i < plan_bytes sizes → get_or p i 0 < sizes.n) × (((c : ℕ) → c < k → P 0 c ≡ I.start c) × Unit {0}))
  early_iff = simp (and_iff, clear_iff, each_nil, ltb_iff, eqb_iff) Iff.rfl

  crosses_test : (t c : ℕ) → T (condition1 (adjacent I) (P t) (P (suc t)) c) ↔ ((P t c ≡ P (suc t) c) ⊎ Edge I (P t c) (P (suc t) c))
  unfolding condition1
  crosses_test t c = simp (or_imp, eqb_iff) (crosses_iff I (P t c) (P (suc t) c))

  at_fault : (t a : ℕ) → AtFault I p (following sizes) t a → T (condition2 sizes (P t) (P (suc t)) a) → ⊥
  unfolding condition2
  at_fault t a = by_rule_lem (following sizes)
    where
      moved : (x : Bool) → P t a ≢ P (suc t) a → T (eqb (P t a) (P (suc t) a) || x) → T x
      moved x d test = (or_imp (eqb (P t a) (P (suc t) a)) x).0 test (λ q. d ((eqb_iff _ _).0 q))

      by_rule_lem : (f : Bool) → AtFault I p f t a
          → T (eqb (P t a) (P (suc t) a) || cond f (unexchanged? sizes (P t) (P (suc t)) a) (vacant? sizes (P t) (P (suc t)) a)) → ⊥
      by_rule_lem false (d, (c, l, e)) test = (not_iff (eqb (P t c) (P (suc t) a))).0 ((every_iff k _).0 (moved _ d test) c l) ((eqb_iff _ _).1 e)
      by_rule_lem true (c, l, (d, e, e')) test =
          (not_iff (eqb (P t c) (P (suc t) a) && eqb (P (suc t) c) (P t a))).0 ((every_iff k _).0 (moved _ (λ x. d (x ∙ e)) test) c l)
          ((and_iff (eqb (P t c) (P (suc t) a)) _).1 ((eqb_iff _ _).1 (sym e), (eqb_iff _ _).1 e'))

  -- the rows up to t: row 0 is the starts, each later one ends a valid step
  turn_apart : Endpoints I → (t : ℕ) → Turn I p t → (u : ℕ) → u ≤ t → Apart k (P u)
  turn_apart ends t turn u l = rows_apart I ends P turn.starts u (λ v h. turn.before v (omega arith))

  tells : Endpoints I → T (clear (question13 I p)) → (answer : Answer) → OccupiedAt I p answer → Tells I p answer
  tells ends sized answer o =
      let t = o.t in
      let a = o.here.a in
      let fails : T (condition2 sizes (P t) (P (suc t)) a) → ⊥ = o.here.lowest.here o.here.agent in
      let (b, inside, stood, said) = met sizes (P t) (P (suc t)) a fails in
      let first = early_iff.0 o.first in
      let turn : Turn I p t =
      record {
        step = o.step;
        size = size_iff.0 sized;
        inside = first.0;
        starts = first.1.0;
        before = o.before;
        crosses = λ c l. (crosses_test t c).0 (o.here.crosses c l);
      } in
      let number = subst (Says sizes (P t) (P (suc t)) a fails b) (sym (ap (λ (r : Answer). r.number) o.here.given)) said in
      record {
        t = t;
        a = a;
        b = b;
        agent = o.here.agent;
        place = ap (λ (r : Answer). r.second) o.here.given;
        turn = turn;
        lowest = λ c l m. at_fault t c m (o.here.lowest.before c l);
        apart = turn_apart ends t turn;
        enters = record {
          changes = changes sizes (P t) (P (suc t)) a fails;
          agent = inside;
          stood = stood;
          alone = λ c l e. by_cases (ℕ_discrete c b) (λ x. x) (λ d. absurd (turn_apart ends t turn t (omega arith) c b l inside d (e ∙ sym stood)));
        };
        stays = number.0;
        exchanges = number.1.0;
        moves_on = number.1.1;
      }

  given : (c : ℕ) → Meeting I p → Occupied (decide (plan_questions I p) c)
  given c (t, a, turn, l, o) =
      occupied_given I p c (early_iff.1 (turn.inside, (turn.starts, tt))) t turn.step turn.before
      (gives_step I p t (λ c r. (crosses_test t c).1 (turn.crosses c r)) a l (at_fault t a o))

-- ---- the two calls: the instance's questions, 13, those of the call alone, then the plan's
three_iff : (answer : Answer) → OneOfThree answer ↔ Occupied answer
three_iff answer =
    let q : ℕ = answer.number in
    let is : (x : ℕ) → T (occupied? x) → q ≡ x → Occupied answer = λ x t e. subst (λ (y : ℕ). T (occupied? y)) (sym e) t in (
      ⊎_elim (is 20 tt) (⊎_elim (is 25 tt) (is 26 tt)),
      (λ o.
          ⊎_elim
          (λ t. inl ((eqb_iff q 20).0 t))
          (λ t. inr (⊎_elim (λ u. inl ((eqb_iff q 25).0 u)) (λ u. inr ((eqb_iff q 26).0 u)) ((or_iff (eqb q 25) _).0 t)))
          ((or_iff (eqb q 20) _).0 o)),
    )

module _ (b : List ℕ) (m rule : ℕ) (p : List ℕ) where
  abbrev I : Instance
  I = instance b m rule

  module _ (more : List Question) (c : ℕ) where
    abbrev own : List Question
    own = question13 I p ∷ more

    abbrev answered : Answer
    answered = decide (instance_questions b m rule ++ (own ++ plan_questions I p)) c

    tells_call : Others own → OneOfThree answered → Tells I p answered
    tells_call h w =
        let o = (three_iff answered).0 w in
        let x = past (instance_questions b m rule) (own ++ plan_questions I p) c (all_instance b m rule (λ q. not (occupied? q)) tt tt) o in
        let y = past own (plan_questions I p) c h (subst Occupied x.1 o) in
        let e = x.1 ∙ y.1 in
        subst (Tells I p) (sym e)
        (tells I p (endpoints b m rule x.0) ((and_iff (clear (question13 I p)) _).0 y.0).0 _ (occupied_at I p c (subst Occupied e o)))

    gives_call : (instance_answer b m rule).number ≡ 0 → T (all clear more) → Meeting I p → OneOfThree answered
    gives_call ok h w =
        let mine : T (all clear own) = (and_iff (clear (question13 I p)) _).1 ((size_iff I p).1 w.2.size, h) in
        (three_iff answered).1
        (subst Occupied
        (sym (decide_after (instance_questions b m rule) (own ++ plan_questions I p) c ((instance_iff b m rule).0 ok) ∙ decide_after own (plan_questions I p) c mine))
        (given I p c w))

pub occupied : Claim
unfolding check_answer encode_answer
occupied =
    record {
      check = λ b m rule p. tells_call b m rule p [] _ (simp (and_iff, ask_all) ((λ f. tt), tt));
      check_gives = λ b m rule p ok. gives_call b m rule p [] _ ok tt;
      encoder = λ b m rule p room.
          tells_call b m rule p (question16 (formula (instance b m rule)).variables room ∷ []) _ (simp (and_iff, ask_all) ((λ f. tt), ((λ f. tt), tt)));
      encoder_gives = λ b m rule p room ok l.
          gives_call b m rule p (question16 (formula (instance b m rule)).variables room ∷ []) _ ok (simp (and_iff, clear_iff, ask_nil, leb_iff) (l, tt));
    }
