-- `instance_check::ask_items` meets its contract: the first question answered no decides. Assumes nothing.
use mathlib.Core.Path.{◌≡◌, sym, ◌∙◌, ap, ap₂}
use mathlib.Core.Bool.{true, false, ◌&&◌}
use mathlib.Core.List.{List, ◌∷◌}
use Prim.Native.Nat.{ℕ, suc, ◌+◌, ◌-◌, ◌*◌}
use native.Mathlib.Omega.{arith}
use borrow.Author.Tests.{not-true, not-false}
use Rattle.lists.specs.Loop.{every}
use Rattle.answers.specs.Answers.{Question, decide}
use Rattle.answers.specs.Returned.{refused}
use Rattle.instance.specs.Instance.{edges, starts, goals}
use Rattle.instance.specs.Questions.{question6, question7, question8, question9, proper_edge, later_edge}
use Rattle.instance_check.proofs.Laws.{edges_pass, vertices_stop, vertices_pass, horizon_no, rule_no, rule_yes}
use Rattle.instance_check.proofs.ask_items.Goals as goal

pub refusal-requires : goal.refusal-requires
refusal-requires c =
    let both : c.all_proper.result && c.all_later.result ≡ every (edges c.args.b.now) (proper_edge c.args.b.now) && every (edges c.args.b.now - 1) (λ i. later_edge c.args.b.now (suc i) i) = ap₂ ◌&&◌ c.all_proper.ensures c.all_later.ensures in
    (sym both ∙ not-true _ c.if-not-all_proper-all_later.true-raw)

pub returns-then-not-all_proper-all_later : goal.returns-then-not-all_proper-all_later
returns-then-not-all_proper-all_later c = c.refusal.ensures _

pub returns-in-Some : goal.returns-in-Some
returns-in-Some c =
    let starts_same : 4 + 2 * c.args.s.e ≡ starts c.args.b.now = ap (λ (e : ℕ). 4 + 2 * e) c.requires.0.e_same in
    let both : c.all_proper.result && c.all_later.result ≡ every (edges c.args.b.now) (proper_edge c.args.b.now) && every (edges c.args.b.now - 1) (λ i. later_edge c.args.b.now (suc i) i) = ap₂ ◌&&◌ c.all_proper.ensures c.all_later.ensures in
    let edges_clear : (qs : List Question) → decide qs 0 ≡ decide (question6 c.args.b.now ∷ question7 c.args.b.now ∷ qs) 0 = λ qs. edges_pass c.args.b.now qs (sym both ∙ not-false _ c.if-not-all_proper-all_later.false-raw) in
    ap refused c.at.ensures
    ∙ vertices_stop c.args.b.now false 8 _ starts_same c.in-Some.ensures.1 c.in-Some.ensures.0
    ∙ edges_clear _

pub returns-in-Some-vertex_fault : goal.returns-in-Some-vertex_fault
returns-in-Some-vertex_fault c =
    let goals_same : 4 + 2 * c.args.s.e + c.args.s.k ≡ goals c.args.b.now = ap₂ (λ (e k : ℕ). 4 + 2 * e + k) c.requires.0.e_same c.requires.0.k_same in
    let starts_same : 4 + 2 * c.args.s.e ≡ starts c.args.b.now = ap (λ (e : ℕ). 4 + 2 * e) c.requires.0.e_same in
    let both : c.all_proper.result && c.all_later.result ≡ every (edges c.args.b.now) (proper_edge c.args.b.now) && every (edges c.args.b.now - 1) (λ i. later_edge c.args.b.now (suc i) i) = ap₂ ◌&&◌ c.all_proper.ensures c.all_later.ensures in
    let edges_clear : (qs : List Question) → decide qs 0 ≡ decide (question6 c.args.b.now ∷ question7 c.args.b.now ∷ qs) 0 = λ qs. edges_pass c.args.b.now qs (sym both ∙ not-false _ c.if-not-all_proper-all_later.false-raw) in
    let starts_clear : (qs : List Question) → decide qs 0 ≡ decide (question6 c.args.b.now ∷ question7 c.args.b.now ∷ question8 c.args.b.now ∷ qs) 0 = λ qs. vertices_pass c.args.b.now false 8 qs starts_same c.in_default.ensures (omega arith)
    ∙ edges_clear _ in
    ap refused c.at-in-Some-vertex_fault.ensures
    ∙ vertices_stop c.args.b.now true 9 _ goals_same c.in-Some-vertex_fault.ensures.1 c.in-Some-vertex_fault.ensures.0
    ∙ starts_clear _

pub returns-then-s-gt32 : goal.returns-then-s-gt32
returns-then-s-gt32 c =
    let goals_same : 4 + 2 * c.args.s.e + c.args.s.k ≡ goals c.args.b.now = ap₂ (λ (e k : ℕ). 4 + 2 * e + k) c.requires.0.e_same c.requires.0.k_same in
    let starts_same : 4 + 2 * c.args.s.e ≡ starts c.args.b.now = ap (λ (e : ℕ). 4 + 2 * e) c.requires.0.e_same in
    let both : c.all_proper.result && c.all_later.result ≡ every (edges c.args.b.now) (proper_edge c.args.b.now) && every (edges c.args.b.now - 1) (λ i. later_edge c.args.b.now (suc i) i) = ap₂ ◌&&◌ c.all_proper.ensures c.all_later.ensures in
    let edges_clear : (qs : List Question) → decide qs 0 ≡ decide (question6 c.args.b.now ∷ question7 c.args.b.now ∷ qs) 0 = λ qs. edges_pass c.args.b.now qs (sym both ∙ not-false _ c.if-not-all_proper-all_later.false-raw) in
    let starts_clear : (qs : List Question) → decide qs 0 ≡ decide (question6 c.args.b.now ∷ question7 c.args.b.now ∷ question8 c.args.b.now ∷ qs) 0 = λ qs. vertices_pass c.args.b.now false 8 qs starts_same c.in_default.ensures (omega arith)
    ∙ edges_clear _ in
    let goals_clear : (qs : List Question) → decide qs 0 ≡ decide (question6 c.args.b.now ∷ question7 c.args.b.now ∷ question8 c.args.b.now ∷ question9 c.args.b.now ∷ qs) 0 = λ qs. vertices_pass c.args.b.now true 9 qs goals_same c.in_default-vertex_fault.ensures (omega arith)
    ∙ starts_clear _ in
    ap refused c.at-then-s-gt32.ensures ∙ horizon_no _ _ c.if-s-gt32.true ∙ goals_clear _

pub returns-then-not-s : goal.returns-then-not-s
returns-then-not-s c =
    let goals_same : 4 + 2 * c.args.s.e + c.args.s.k ≡ goals c.args.b.now = ap₂ (λ (e k : ℕ). 4 + 2 * e + k) c.requires.0.e_same c.requires.0.k_same in
    let starts_same : 4 + 2 * c.args.s.e ≡ starts c.args.b.now = ap (λ (e : ℕ). 4 + 2 * e) c.requires.0.e_same in
    let both : c.all_proper.result && c.all_later.result ≡ every (edges c.args.b.now) (proper_edge c.args.b.now) && every (edges c.args.b.now - 1) (λ i. later_edge c.args.b.now (suc i) i) = ap₂ ◌&&◌ c.all_proper.ensures c.all_later.ensures in
    let edges_clear : (qs : List Question) → decide qs 0 ≡ decide (question6 c.args.b.now ∷ question7 c.args.b.now ∷ qs) 0 = λ qs. edges_pass c.args.b.now qs (sym both ∙ not-false _ c.if-not-all_proper-all_later.false-raw) in
    let starts_clear : (qs : List Question) → decide qs 0 ≡ decide (question6 c.args.b.now ∷ question7 c.args.b.now ∷ question8 c.args.b.now ∷ qs) 0 = λ qs. vertices_pass c.args.b.now false 8 qs starts_same c.in_default.ensures (omega arith)
    ∙ edges_clear _ in
    let goals_clear : (qs : List Question) → decide qs 0 ≡ decide (question6 c.args.b.now ∷ question7 c.args.b.now ∷ question8 c.args.b.now ∷ question9 c.args.b.now ∷ qs) 0 = λ qs. vertices_pass c.args.b.now true 9 qs goals_same c.in_default-vertex_fault.ensures (omega arith)
    ∙ starts_clear _ in
    ap refused c.at-then-not-s.ensures ∙ rule_no _ c.args.s.rule c.if-s-gt32.false (not-true _ c.if-not-s.true-raw) ∙ goals_clear _

pub returns : goal.returns
returns c =
    let goals_same : 4 + 2 * c.args.s.e + c.args.s.k ≡ goals c.args.b.now = ap₂ (λ (e k : ℕ). 4 + 2 * e + k) c.requires.0.e_same c.requires.0.k_same in
    let starts_same : 4 + 2 * c.args.s.e ≡ starts c.args.b.now = ap (λ (e : ℕ). 4 + 2 * e) c.requires.0.e_same in
    let both : c.all_proper.result && c.all_later.result ≡ every (edges c.args.b.now) (proper_edge c.args.b.now) && every (edges c.args.b.now - 1) (λ i. later_edge c.args.b.now (suc i) i) = ap₂ ◌&&◌ c.all_proper.ensures c.all_later.ensures in
    let edges_clear : (qs : List Question) → decide qs 0 ≡ decide (question6 c.args.b.now ∷ question7 c.args.b.now ∷ qs) 0 = λ qs. edges_pass c.args.b.now qs (sym both ∙ not-false _ c.if-not-all_proper-all_later.false-raw) in
    let starts_clear : (qs : List Question) → decide qs 0 ≡ decide (question6 c.args.b.now ∷ question7 c.args.b.now ∷ question8 c.args.b.now ∷ qs) 0 = λ qs. vertices_pass c.args.b.now false 8 qs starts_same c.in_default.ensures (omega arith)
    ∙ edges_clear _ in
    let goals_clear : (qs : List Question) → decide qs 0 ≡ decide (question6 c.args.b.now ∷ question7 c.args.b.now ∷ question8 c.args.b.now ∷ question9 c.args.b.now ∷ qs) 0 = λ qs. vertices_pass c.args.b.now true 9 qs goals_same c.in_default-vertex_fault.ensures (omega arith)
    ∙ starts_clear _ in
    rule_yes _ c.args.s.rule c.if-s-gt32.false (not-false _ c.if-not-s.false-raw) ∙ goals_clear _
