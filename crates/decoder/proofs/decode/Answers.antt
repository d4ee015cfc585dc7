-- `decoder::decode` meets its contract: the instance check decides, or the questions of the entries, or the plan is written. Assumes nothing.
use mathlib.Core.Path.{◌≡◌, refl, sym, ◌∙◌, ap}
use mathlib.Core.List.{List}
use Prim.Native.Nat.{ℕ, ◌≤◌}
use native.Mathlib.Omega.{arith}
use lib.ListN.{length}
use lib.Seq.{length-take-le}
use lib.IntN.{ℤ}
use Rattle.lists.specs.Slice.{filled}
use Rattle.answers.specs.Answers.{Question, accept, decide}
use Rattle.answers.specs.Returned.{refused}
use Rattle.answers.proofs.Returned.{passed_on, refused_lent}
use Rattle.instance.specs.declared.Sizes.{Sizes}
use Rattle.instance.specs.declared.problem.Problem.{Problem}
use Rattle.instance.specs.Instance.{Instance, Edges}
use Rattle.instance.specs.Problem.{checked_of, ShowsAll}
use Rattle.instance.specs.Questions.{instance_answer, instance_checked}
use Rattle.instance.specs.Accepted.{Accepted, instance_of}
use Rattle.instance.proofs.Accepted.{sizes_same, graph, shown}
use Rattle.instance.proofs.Call.{passed, horizon, call_refused, call_answers, slice_filled}
use Rattle.formula.specs.Formula.{formula}
use Rattle.plan.specs.Plan.{plan_bytes}
use Rattle.valuation.specs.Valuation.{named_plan}
use Rattle.calls.specs.Calls.{decode_rest, decode_answer, decode_slice}
use Rattle.decoder.proofs.Laws.{room, copy_fits, copied}
use Rattle.decoder.proofs.decode.Goals as goal

-- the questions after 1 to 10 and 31, and the count
abbrev asks : List ℤ → ℕ → Instance → List Question
asks es size I = decode_rest I (formula I) es size

abbrev count : Instance → ℕ
count I = plan_bytes I.sizes

-- the instance is accepted, and n is the acceptance of what was asked of the entries: there is room for the plan
module _ (b : List ℕ) (m rule : ℕ) (p : Problem) (ea : accept 0 ≡ instance_answer b m rule) (ec : checked_of p ≡ instance_checked b m rule) where
  is : Accepted b (checked_of p)
  is = passed b m rule _ _ ea ec refl

  fits : (es : List ℤ) (size n : ℕ) {A : Type 0} → ((I : Instance) → ShowsAll I p → Edges I → (accept n ≡ decide (asks es size I) (count I)) × ((n ≡ plan_bytes p.shape.sizes) × A))
      → (n ≤ 528) × (n ≤ size)
  fits es size n {A} h =
      let o = h _ (shown _ _ is) (graph _ _ is) in
      let I = instance_of b (checked_of p) in
      room I (formula I) _ (sizes_same _ _ is) es size p.shape.limits n o.0 o.1.0

pub returns-in_err-problem : goal.returns-in_err-problem
unfolding decode_answer decode_slice
returns-in_err-problem c =
    let e = call_refused c.args.b.now c.args.m c.args.rule c.in_err-problem.field-0.0 c.in_err-problem.ensures.answer (asks c.args.entries.now (length c.args.plan.now)) count in
    record { value = passed_on _ _ c.from_residual.result c.from_residual.ensures.1 e; plan_after = refused_lent c.in_err-problem.field-0.0 _ c.args.plan.now e }

-- `o`: what was asked of the entries, and the plan that was read
pub returns-in_err-bytes : goal.returns-in_err-bytes
unfolding decode_answer decode_slice
returns-in_err-bytes c =
    let p = c.in_ok-problem.ensures in
    let w = is c.args.b.now c.args.m c.args.rule c.in_ok-problem.problem p.answer p.problem in
    let o = c.in_err-bytes.ensures.value _ (shown _ _ w) (graph _ _ w) in
    let e = call_answers c.args.b.now c.args.m c.args.rule _ _ p.answer p.problem (asks c.args.entries.now (length c.args.plan.now)) count refl (refused c.in_err-bytes.field-0.0) o.0 in
    record { value = passed_on _ _ c.from_residual-in_err-bytes.result c.from_residual-in_err-bytes.ensures.1 e; plan_after = refused_lent c.in_err-bytes.field-0.0 _ c.args.plan.now e }

pub slice_bounds-copy_from_slice-end : goal.slice_bounds-copy_from_slice-end
slice_bounds-copy_from_slice-end c =
    let p = c.in_ok-problem.ensures in
    let room = fits c.args.b.now c.args.m c.args.rule c.in_ok-problem.problem p.answer p.problem c.args.entries.now (length c.args.plan.now) c.in_ok-bytes.bytes c.in_ok-bytes.ensures.value in
    room.1

pub slice_bounds-copy_from_slice-end-2 : goal.slice_bounds-copy_from_slice-end-2
slice_bounds-copy_from_slice-end-2 c =
    let p = c.in_ok-problem.ensures in
    let room = fits c.args.b.now c.args.m c.args.rule c.in_ok-problem.problem p.answer p.problem c.args.entries.now (length c.args.plan.now) c.in_ok-bytes.bytes c.in_ok-bytes.ensures.value in
    sym (length-take-le c.in_ok-bytes.bytes c.args.plan.now room.1)

pub slice_bounds-vertices-end : goal.slice_bounds-vertices-end
slice_bounds-vertices-end c =
    let p = c.in_ok-problem.ensures in
    let room = fits c.args.b.now c.args.m c.args.rule c.in_ok-problem.problem p.answer p.problem c.args.entries.now (length c.args.plan.now) c.in_ok-bytes.bytes c.in_ok-bytes.ensures.value in
    omega (arith, c.in_ok-bytes.ensures.vertices_len, room)

pub slice_bounds-copy_from_slice-end-3 : goal.slice_bounds-copy_from_slice-end-3
slice_bounds-copy_from_slice-end-3 c =
    let p = c.in_ok-problem.ensures in
    let room = fits c.args.b.now c.args.m c.args.rule c.in_ok-problem.problem p.answer p.problem c.args.entries.now (length c.args.plan.now) c.in_ok-bytes.bytes c.in_ok-bytes.ensures.value in
    sym (length-take-le c.in_ok-bytes.bytes c.ask_entries.new.vertices (omega (arith, c.in_ok-bytes.ensures.vertices_len, room)))

pub copy_from_slice-requires : goal.copy_from_slice-requires
copy_from_slice-requires c =
    let p = c.in_ok-problem.ensures in
    let room = fits c.args.b.now c.args.m c.args.rule c.in_ok-problem.problem p.answer p.problem c.args.entries.now (length c.args.plan.now) c.in_ok-bytes.bytes c.in_ok-bytes.ensures.value in
    copy_fits c.ask_entries.new.vertices c.args.plan.now c.in_ok-bytes.bytes (omega (arith, c.in_ok-bytes.ensures.vertices_len, room)) room.1

pub returns : goal.returns
unfolding decode_answer decode_slice
returns c =
    let p = c.in_ok-problem.ensures in
    let w = is c.args.b.now c.args.m c.args.rule c.in_ok-problem.problem p.answer p.problem in
    let o = c.in_ok-bytes.ensures.value _ (shown _ _ w) (graph _ _ w) in
    let room = fits c.args.b.now c.args.m c.args.rule c.in_ok-problem.problem p.answer p.problem c.args.entries.now (length c.args.plan.now) c.in_ok-bytes.bytes c.in_ok-bytes.ensures.value in
    let e = call_answers c.args.b.now c.args.m c.args.rule _ _ p.answer p.problem (asks c.args.entries.now (length c.args.plan.now)) count refl (accept c.in_ok-bytes.bytes) o.0 in
    let same = sizes_same _ _ w ∙ ap (λ (J : Instance). J.sizes) (horizon c.args.b.now c.args.m c.args.rule _ _ p.answer p.problem refl) in
    record {
      value = e;
      plan_after =
          copied c.ask_entries.new.vertices c.args.plan.now c.in_ok-bytes.bytes (omega (arith, c.in_ok-bytes.ensures.vertices_len, room)) room.1 c.copy_from_slice.ensures.after
          ∙ ap (λ (l : List ℕ). filled l c.args.plan.now) (rw o.1.0 o.1.1)
          ∙ ap (λ (s : Sizes). filled (named_plan s c.args.entries.now) c.args.plan.now) same
          ∙ slice_filled _ (accept c.in_ok-bytes.bytes) e _ c.args.plan.now refl;
    }
