-- The claim of the reader, from the laws of the text.
use mathlib.Core.Path.{◌≡◌, refl, sym, ◌∙◌, ap, subst}
use mathlib.Core.Logic.Iff
use mathlib.Core.Logic.{◌↔◌}
use mathlib.Core.List.{List, ◌++◌}
use Prim.Native.Nat.{ℕ, suc, ◌≤◌, ◌<◌}
use native.Mathlib.Omega.{arith}
use lib.ListN.{length, take}
use lib.Dec.{T}
use lib.IntN.{ℤ}
use Rattle.lists.specs.Loop.{all}
use Rattle.lists.proofs.Tests.{and_iff}
use Rattle.lists.proofs.Loops.{all_append}
use Rattle.answers.specs.declared.Answer.{Answer}
use Rattle.answers.specs.Answers.{Question, refuse, decide, lent, clear}
use Rattle.answers.proofs.Laws.{numbered, each_nil, decide_iff, lent_take}
use Rattle.instance.specs.Instance.{Instance, instance}
use Rattle.instance.specs.Questions.{instance_questions, instance_answer}
use Rattle.instance.proofs.Instance.{instance_iff, limits}
use Rattle.formula.specs.Variables.{Literal}
use Rattle.formula.specs.Formula.{Formula, formula}
use Rattle.formula.proofs.Limits.{variables_most}
use Rattle.plan.specs.Plan.{plan_bytes}
use Rattle.valuation.specs.Satisfying.{True, Valuation, Satisfies, Names}
use Rattle.ceiling.specs.Ceiling.{under_ceiling}
use Rattle.solver_text.specs.Text.{lines, pieces, kind}
use Rattle.solver_text.specs.Form.{text_most, literal?, given, times, in_order}
use Rattle.solver_text.specs.Printed.{printed, gathered, some?}
use Rattle.solver_text.specs.Walk.{nothing}
use Rattle.solver_text.proofs.Walk.{lines_asked}
use Rattle.solver_text.proofs.Given.{lines_inside, order_length, order_valuation, order_true}
use Rattle.solver_text.proofs.Cut.{pieces_all, satisfiable_line, other_line_lem, v_line_lem, token_printed}
use Rattle.solver_text.proofs.Pieces.{token_value}
use Rattle.solver_text.proofs.RoundTrip.{Back, back_again, valuation_inside, valuation_short, valuation_once, valuation_order}
use Rattle.calls.specs.Questions.{question16}
use Rattle.calls.specs.Calls.{read_rest, read_answer, read_slice, check_answer, decode_answer}
use Rattle.calls.specs.Ceiling.{ceiling_questions, ceiling_decode_answer, ceiling_read_answer, ceiling_read_slice}
use Rattle.calls.proofs.Ceiling.{clear_ceiling}
use Rattle.calls.proofs.Valuation.{true_iff, clear_entries}
use Rattle.calls.proofs.Text.{Readable, clear_text}
use Rattle.claims.specs.Correspondence.{Accepts, handed_back}
use Rattle.claims.specs.Ceiling as ceiling
use Rattle.claims.specs.Reader.{Form, entries_read, Reader, Claim}
use Rattle.claims.proofs.Correspondence.{fits, correspondence}
use Rattle.claims.proofs.Ceiling.{ceiling_claim}
use Rattle.claims.proofs.Refusals.{numbered_read, numbered_ceiling_read}

-- what the laws ask of a reader of the formula F, and of its decoder
record Given (I : Instance) (F : Formula) (read : List ℕ → ℕ → Answer) (slice : List ℕ → List ℤ → List ℤ) (decode : List ℤ → ℕ → Answer) (handed_back : List ℤ → List ℕ → List ℕ) (check : List ℕ → Answer) : Type 0 where
  rest_iff : (text : List ℕ) (z : List ℤ) → Accepts (read text (length z)) ↔ T (all clear (read_rest F.variables text (length z)))
  lends : (text : List ℕ) (z : List ℤ) → slice text z ≡ lent (read text (length z)) (in_order F.variables (given text)) z
  small : F.variables ≤ 38275
  decodes : (es : List ℤ) (s : List ℕ) → plan_bytes I.sizes ≤ length s → Valuation F.variables es × Satisfies F es → Accepts (decode es (length s))
  comes : (es : List ℤ) (s : List ℕ) → plan_bytes I.sizes ≤ length s → Accepts (decode es (length s)) → Names I.sizes es (handed_back es s) × Accepts (check (handed_back es s))

module _ (I : Instance) (F : Formula) (read : List ℕ → ℕ → Answer) (slice : List ℕ → List ℤ → List ℤ) (decode : List ℤ → ℕ → Answer) (handed_back : List ℤ → List ℕ → List ℕ) (check : List ℕ → Answer) (g : Given I F read slice decode handed_back check) where
  abbrev n : ℕ
  n = F.variables

  abbrev entries : List ℕ → List ℤ → List ℤ
  entries = entries_read I F read slice decode handed_back check

  module _ (text : List ℕ) (z : List ℤ) where
    -- a text that has all that is asked is accepted
    accepts : n ≤ length z → Readable n text → Accepts (read text (length z))
    accepts l r = (g.rest_iff text z).1 ((and_iff (clear (question16 n (length z))) _).1 (fits n (length z) (refuse 16 n) l, (clear_text n text).1 r))

    module _ (a : Accepts (read text (length z))) where
      readable : Readable n text
      readable = (clear_text n text).0 ((and_iff (clear (question16 n (length z))) _).0 ((g.rest_iff text z).0 a)).1

      inside : T (all (literal? n) (given text))
      inside = lines_inside n 0 nothing (lines text) (sym (lines_asked n text) ∙ (each_nil _ _ _).1 readable.right)

      -- the slice of an acceptance
      entries_are : entries text z ≡ in_order n (given text)
      entries_are =
          ap (take n) (g.lends text z)
          ∙ ap (λ (k : ℕ). take k (lent (read text (length z)) (in_order n (given text)) z)) (sym (order_length n (given text)))
          ∙ lent_take (read text (length z)) (in_order n (given text)) z a

  module _ (groups : List (List ℤ)) (last z : List ℤ) (h : T (all some? groups)) (l : n ≤ length z) where
    abbrev text : List ℕ
    text = printed groups last

    abbrev ws : List ℤ
    ws = gathered groups last

    module _ (inside : T (all (literal? n) ws)) (once : (i : ℕ) → i < n → times (suc i) ws ≡ 1) (short : length text ≤ text_most) where
      there : Back n text ws
      there = back_again n groups last h inside

      accepted : Accepts (read text (length z))
      accepted =
          accepts text z l
          (record {
            short = short;
            right = (each_nil _ _ _).0 (lines_asked n text ∙ there.right);
            complete = there.complete;
            satisfied = there.satisfied;
            once = λ i k. ap (times (suc i)) there.literals ∙ once i k;
          })

      in_order_lem : entries text z ≡ in_order n ws
      in_order_lem = entries_are text z accepted ∙ ap (in_order n) there.literals

    reads_back : Valuation n ws → Accepts (read text (length z)) × (entries text z ≡ ws)
    reads_back v =
        let i = valuation_inside n groups last h v in
        let o = valuation_once n groups last h v in
        let s = valuation_short n groups last h v (let k = g.small in omega arith) in
        (accepted i o s, in_order_lem i o s ∙ valuation_order n groups last h v)

  module _ (text : List ℕ) (z : List ℤ) (a : Accepts (read text (length z))) where
    abbrev es : List ℤ
    es = entries text z

    read_valuation : Valuation n es
    read_valuation = subst (Valuation n) (sym (entries_are text z a)) (order_valuation n (given text))

    read_literals : (w : Literal) → True es w ↔ True (given text) w
    read_literals w =
        rw (entries_are text z a)
        (Iff.trans (Iff.symm (true_iff (in_order n (given text)) w))
        (Iff.trans (order_true n (given text) (inside text z a) (readable text z a).once w) (true_iff (given text) w)))

    comes_to_plan : (s : List ℕ) → plan_bytes I.sizes ≤ length s → Satisfies F (given text)
        → Accepts (decode es (length s)) × Names I.sizes (given text) (handed_back es s) × Accepts (check (handed_back es s))
    comes_to_plan s k f =
        let f' : Satisfies F es = λ clause i. let (w, j, t) = f clause i in (w, j, (read_literals w).1 t) in
        let a' = g.decodes es s k (read_valuation, f') in
        let (p, q) = g.comes es s k a' in (
          a',
          record { size = p.size; inside = p.inside; chosen = λ t a v x y z. Iff.trans (Iff.symm (read_literals _)) (p.chosen t a v x y z) },
          q,
        )

  read_claim : Reader I F read slice decode handed_back check
  read_claim =
      record {
        valuation = λ text z a. let v = read_valuation text z a in (v, (clear_entries F (entries text z)).1 v);
        literals = read_literals;
        back = λ groups last z h v l. reads_back groups last z h l v;
        any_order = λ groups last z h i c s l. (accepted groups last z h l i c s, in_order_lem groups last z h l i c s);
        plan = λ text z s a k f. comes_to_plan text z a s k f;
      }

-- questions that are answered yes may be passed over
behind : (qs rs : List Question) (c : ℕ) → T (all numbered (qs ++ rs)) → T (all clear qs) → ((decide (qs ++ rs) c).number ≡ 0) ↔ T (all clear rs)
behind qs rs c known ok =
    Iff.trans (decide_iff (qs ++ rs) c known)
    ((λ h. ((all_append clear qs rs).0 h).1), (λ h. (all_append clear qs rs).1 (ok, h)))

base_given : (b : List ℕ) (m rule : ℕ) → Accepts (instance_answer b m rule)
    → Given (instance b m rule) (formula (instance b m rule)) (read_answer b m rule) (read_slice b m rule) (decode_answer b m rule) (handed_back b m rule) (check_answer b m rule)
unfolding read_answer read_slice
base_given b m rule o =
    let ok = (instance_iff b m rule).0 o in
    let c = correspondence b m rule o in
    record {
      rest_iff = λ text z. behind (instance_questions b m rule) _ _ (numbered_read b m rule text (length z)) ok;
      lends = λ text z. refl;
      small = let k = variables_most (instance b m rule).sizes (limits b m rule ok) in omega arith;
      decodes = λ es s l. (c.decoder es s l).1;
      comes = c.decoded;
    }

ceiling_given : (b : List ℕ) (m rule c : ℕ) → Accepts (instance_answer b m rule) → c ≤ 128
    → Given (instance b m rule) (under_ceiling c (instance b m rule)) (ceiling_read_answer b m rule c) (ceiling_read_slice b m rule c) (ceiling_decode_answer b m rule c) (ceiling.handed_back b m rule c) (check_answer b m rule)
unfolding ceiling_read_answer ceiling_read_slice
ceiling_given b m rule c o l =
    let w = ceiling_claim.ceiling b m rule c o l in
    record {
      rest_iff = λ text z.
          behind (ceiling_questions b m rule c) _ _
          (numbered_ceiling_read b m rule c text (length z))
          ((clear_ceiling b m rule c).1 ((instance_iff b m rule).0 o, l));
      lends = λ text z. refl;
      small = w.most;
      decodes = λ es s h. (w.decoder es s h).1;
      comes = λ es s h a. let (p, q) = w.decoded es s h a in (p, q.0);
    }

form : Form
unfolding kind
form =
    record {
      cut_at_lines = pieces_all 10;
      empty_line = refl;
      comment = λ l. refl;
      status_line = satisfiable_line;
      other_line = other_line_lem;
      cut_at_spaces = λ rest. (pieces 32 rest, refl, pieces_all 32 rest);
      only_those = v_line_lem;
      tokens = token_printed;
      token_says = token_value 0;
    }

pub reader : Claim
reader =
    record {
      form = form;
      reader = λ b m rule o. read_claim _ _ _ _ _ _ _ (base_given b m rule o);
      ceiling_reader = λ b m rule c o l. read_claim _ _ _ _ _ _ _ (ceiling_given b m rule c o l);
    }
