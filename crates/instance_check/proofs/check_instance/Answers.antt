-- `instance_check::check_instance` meets its contract: the first question answered no decides. Assumes nothing.
use mathlib.Core.Path.{◌≡◌, refl, ◌∙◌, ap, ap₂}
use mathlib.Core.List.{[], ◌∷◌}
use Prim.Native.Nat.{ℕ, ◌+◌, ◌*◌, ◌≤◌}
use native.Mathlib.Omega.{arith}
use lib.ListN.{length}
use Rattle.answers.specs.Answers.{accept, decide}
use Rattle.answers.specs.Returned.{refused}
use Rattle.answers.proofs.Returned.{passed_on}
use Rattle.instance.specs.Instance.{vertices, agents, edges}
use Rattle.instance.specs.Questions.{question6, question7, question8, question9, question10, question31, instance_answer}
use Rattle.instance.proofs.Accepted.{limits_known, ready}
use Rattle.instance_check.proofs.Laws.{short, sizes_refused, sizes_passed, sizes_known, held_checked, held_accepted, edges_checked, refused_unchecked, passed_unchecked}
use Rattle.instance_check.proofs.check_instance.Goals as goal

pub returns-then-len-lt4-clause-answer : goal.returns-then-len-lt4-clause-answer
returns-then-len-lt4-clause-answer c = ap refused c.at.ensures ∙ short c.args.b.now c.args.m c.args.rule c.if-len-lt4.true

pub returns-then-len-lt4-clause-checked : goal.returns-then-len-lt4-clause-checked
returns-then-len-lt4-clause-checked c = refused_unchecked c.args.b.now c.args.m c.args.rule _ (returns-then-len-lt4-clause-answer c)

pub returns-in_err-ask_sizes-clause-answer : goal.returns-in_err-ask_sizes-clause-answer
returns-in_err-ask_sizes-clause-answer c =
    passed_on _ _ c.from_residual.result c.from_residual.ensures.1 (sizes_refused c.args.b.now c.args.m c.args.rule (omega arith) _ c.in_err-ask_sizes.ensures)

pub returns-in_err-ask_sizes-clause-checked : goal.returns-in_err-ask_sizes-clause-checked
returns-in_err-ask_sizes-clause-checked c =
    passed_unchecked c.args.b.now c.args.m c.args.rule _ c.from_residual.result c.from_residual.ensures.1 (returns-in_err-ask_sizes-clause-answer c)

pub ask_items-requires : goal.ask_items-requires
ask_items-requires c =
    let h : (vertices c.args.b.now ≤ 64) × ((agents c.args.b.now ≤ 16) × (length c.args.b.now ≡ 4 + 2 * edges c.args.b.now + 2 * agents c.args.b.now)) = sizes_known c.args.b.now c.args.m c.args.rule (omega arith) (accept 0) c.in_ok-ask_sizes.ensures refl in
    (c.sizes_of-sizes.ensures.0, omega arith, omega arith)

pub returns-in_err-ask_items-clause-answer : goal.returns-in_err-ask_items-clause-answer
returns-in_err-ask_items-clause-answer c =
    let b = c.args.b.now in
    passed_on _ _ c.from_residual-in_err-ask_items.result c.from_residual-in_err-ask_items.ensures.1
    (c.in_err-ask_items.ensures
    ∙ ap₂ (λ (m rule : ℕ). decide (question6 b ∷ question7 b ∷ question8 b ∷ question9 b ∷ question10 m ∷ question31 rule ∷ []) 0) c.sizes_of-sizes.ensures.1 c.sizes_of-sizes.ensures.2
    ∙ sizes_passed b c.args.m c.args.rule (omega arith) (accept 0) c.in_ok-ask_sizes.ensures refl)

pub returns-in_err-ask_items-clause-checked : goal.returns-in_err-ask_items-clause-checked
returns-in_err-ask_items-clause-checked c =
    passed_unchecked c.args.b.now c.args.m c.args.rule _ c.from_residual-in_err-ask_items.result c.from_residual-in_err-ask_items.ensures.1 (returns-in_err-ask_items-clause-answer c)

pub for_agents-starts-requires : goal.for_agents-starts-requires
for_agents-starts-requires c =
    let h : (vertices c.args.b.now ≤ 64) × ((agents c.args.b.now ≤ 16) × (length c.args.b.now ≡ 4 + 2 * edges c.args.b.now + 2 * agents c.args.b.now)) = sizes_known c.args.b.now c.args.m c.args.rule (omega arith) (accept 0) c.in_ok-ask_sizes.ensures refl in
    (omega arith, omega arith)

pub for_agents-goals-requires : goal.for_agents-goals-requires
for_agents-goals-requires c =
    let h : (vertices c.args.b.now ≤ 64) × ((agents c.args.b.now ≤ 16) × (length c.args.b.now ≡ 4 + 2 * edges c.args.b.now + 2 * agents c.args.b.now)) = sizes_known c.args.b.now c.args.m c.args.rule (omega arith) (accept 0) c.in_ok-ask_sizes.ensures refl in
    (omega arith, omega arith)

pub neighbour_words-near-requires-clause-n_value : goal.neighbour_words-near-requires-clause-n_value
neighbour_words-near-requires-clause-n_value c =
    let h : (vertices c.args.b.now ≤ 64) × ((agents c.args.b.now ≤ 16) × (length c.args.b.now ≡ 4 + 2 * edges c.args.b.now + 2 * agents c.args.b.now)) = sizes_known c.args.b.now c.args.m c.args.rule (omega arith) (accept 0) c.in_ok-ask_sizes.ensures refl in
    let r = c.sizes_of-sizes.ensures.0 in
    (r.n_same, omega arith)

pub neighbour_words-near-requires-clause-edges : goal.neighbour_words-near-requires-clause-edges
neighbour_words-near-requires-clause-edges c =
    let asked : accept 0 ≡ instance_answer c.args.b.now c.args.m c.args.rule = let b = c.args.b.now in
    c.in_ok-ask_items.ensures
    ∙ ap₂ (λ (m rule : ℕ). decide (question6 b ∷ question7 b ∷ question8 b ∷ question9 b ∷ question10 m ∷ question31 rule ∷ []) 0) c.sizes_of-sizes.ensures.1 c.sizes_of-sizes.ensures.2
    ∙ sizes_passed b c.args.m c.args.rule (omega arith) (accept 0) c.in_ok-ask_sizes.ensures refl in
    edges_checked c.args.b.now c.args.m c.args.rule (accept 0) asked refl

pub count-g-requires : goal.count-g-requires
count-g-requires c =
    let h : (vertices c.args.b.now ≤ 64) × ((agents c.args.b.now ≤ 16) × (length c.args.b.now ≡ 4 + 2 * edges c.args.b.now + 2 * agents c.args.b.now)) = sizes_known c.args.b.now c.args.m c.args.rule (omega arith) (accept 0) c.in_ok-ask_sizes.ensures refl in
    omega arith

pub invariant_of-shape : goal.invariant_of-shape
invariant_of-shape c =
    let asked : accept 0 ≡ instance_answer c.args.b.now c.args.m c.args.rule = let b = c.args.b.now in
    c.in_ok-ask_items.ensures
    ∙ ap₂ (λ (m rule : ℕ). decide (question6 b ∷ question7 b ∷ question8 b ∷ question9 b ∷ question10 m ∷ question31 rule ∷ []) 0) c.sizes_of-sizes.ensures.1 c.sizes_of-sizes.ensures.2
    ∙ sizes_passed b c.args.m c.args.rule (omega arith) (accept 0) c.in_ok-ask_sizes.ensures refl in
    record { limits = limits_known _ _ (held_accepted c.args.b.now c.args.m c.args.rule asked c.sizes_of-sizes.result c.sizes_of-sizes.ensures.0 c.count-g.result c.for_agents-starts.result c.for_agents-goals.result c.neighbour_words-near.result c.for_agents-starts.ensures c.for_agents-goals.ensures (c.neighbour_words-near.ensures c.args.m c.args.rule) c.count-g.ensures.0) }

pub invariant_of-result : goal.invariant_of-result
invariant_of-result c =
    let asked : accept 0 ≡ instance_answer c.args.b.now c.args.m c.args.rule = let b = c.args.b.now in
    c.in_ok-ask_items.ensures
    ∙ ap₂ (λ (m rule : ℕ). decide (question6 b ∷ question7 b ∷ question8 b ∷ question9 b ∷ question10 m ∷ question31 rule ∷ []) 0) c.sizes_of-sizes.ensures.1 c.sizes_of-sizes.ensures.2
    ∙ sizes_passed b c.args.m c.args.rule (omega arith) (accept 0) c.in_ok-ask_sizes.ensures refl in
    record { ready = ready _ _ (held_accepted c.args.b.now c.args.m c.args.rule asked c.sizes_of-sizes.result c.sizes_of-sizes.ensures.0 c.count-g.result c.for_agents-starts.result c.for_agents-goals.result c.neighbour_words-near.result c.for_agents-starts.ensures c.for_agents-goals.ensures (c.neighbour_words-near.ensures c.args.m c.args.rule) c.count-g.ensures.0) }

pub returns-clause-answer : goal.returns-clause-answer
returns-clause-answer c =
    let asked : accept 0 ≡ instance_answer c.args.b.now c.args.m c.args.rule = let b = c.args.b.now in
    c.in_ok-ask_items.ensures
    ∙ ap₂ (λ (m rule : ℕ). decide (question6 b ∷ question7 b ∷ question8 b ∷ question9 b ∷ question10 m ∷ question31 rule ∷ []) 0) c.sizes_of-sizes.ensures.1 c.sizes_of-sizes.ensures.2
    ∙ sizes_passed b c.args.m c.args.rule (omega arith) (accept 0) c.in_ok-ask_sizes.ensures refl in
    asked

pub returns-clause-problem : goal.returns-clause-problem
returns-clause-problem c =
    let asked : accept 0 ≡ instance_answer c.args.b.now c.args.m c.args.rule = let b = c.args.b.now in
    c.in_ok-ask_items.ensures
    ∙ ap₂ (λ (m rule : ℕ). decide (question6 b ∷ question7 b ∷ question8 b ∷ question9 b ∷ question10 m ∷ question31 rule ∷ []) 0) c.sizes_of-sizes.ensures.1 c.sizes_of-sizes.ensures.2
    ∙ sizes_passed b c.args.m c.args.rule (omega arith) (accept 0) c.in_ok-ask_sizes.ensures refl in
    held_checked c.args.b.now c.args.m c.args.rule asked c.sizes_of-sizes.result c.sizes_of-sizes.ensures.0 c.count-g.result c.for_agents-starts.result c.for_agents-goals.result c.neighbour_words-near.result c.for_agents-starts.ensures c.for_agents-goals.ensures (c.neighbour_words-near.ensures c.args.m c.args.rule) c.count-g.ensures.0

pub returns-clause-checked : goal.returns-clause-checked
returns-clause-checked c = returns-clause-problem c

pub invariant_of-neighbour_words : goal.invariant_of-neighbour_words
invariant_of-neighbour_words c =
    let h : (vertices c.args.b.now ≤ 64) × ((agents c.args.b.now ≤ 16) × (length c.args.b.now ≡ 4 + 2 * edges c.args.b.now + 2 * agents c.args.b.now)) = sizes_known c.args.b.now c.args.m c.args.rule (omega arith) (accept 0) c.in_ok-ask_sizes.ensures refl in
    record { counted = c.sizes_of-sizes.ensures.0.e_same; long = omega (arith, c.sizes_of-sizes.ensures.0.e_same) }
