-- `ceiling_decoder::decode_ceiling` meets its contract: the check decides, or the questions of the entries, or the plan is written. Assumes nothing.
use mathlib.Core.Path.{◌≡◌, refl, sym, ◌∙◌, ap}
use mathlib.Core.List.{List}
use Prim.Native.Nat.{ℕ, ◌≤◌}
use native.Mathlib.Omega.{arith}
use lib.ListN.{length}
use lib.Seq.{length-take-le}
use lib.IntN.{ℤ}
use Rattle.lists.specs.Slice.{filled}
use Rattle.answers.specs.Answers.{Question, accept, decide}
use Rattle.answers.specs.Returned.{refused}
use Rattle.answers.proofs.Returned.{passed_on, refused_lent, refusal_numbered}
use Rattle.instance.specs.declared.Sizes.{Sizes}
use Rattle.instance.specs.declared.problem.Problem.{Problem}
use Rattle.instance.specs.Instance.{Instance, Edges, Endpoints}
use Rattle.instance.specs.Problem.{checked_of, ShowsAll}
use Rattle.instance.specs.Questions.{instance_checked}
use Rattle.instance.specs.Accepted.{Accepted, instance_of}
use Rattle.instance.proofs.Accepted.{sizes_same, graph, shown, endpoints_known}
use Rattle.instance.proofs.Call.{slice_filled}
use Rattle.ceiling.specs.Ceiling.{under_ceiling}
use Rattle.ceiling_size.proofs.Laws.{known}
use Rattle.plan.specs.Plan.{plan_bytes}
use Rattle.valuation.specs.Valuation.{named_plan}
use Rattle.calls.specs.Calls.{decode_rest}
use Rattle.calls.specs.Ceiling.{ceiling_answer, ceiling_decode_answer, ceiling_decode_slice}
use Rattle.calls.proofs.Ceiling.{horizon, ceiling_refuses, call_answers}
use Rattle.decoder.proofs.Laws.{room, copy_fits, copied}
use Rattle.ceiling_decoder.proofs.decode_ceiling.Goals as goal

-- the questions after 1 to 10, 31 and 32, and the count
abbrev asks : ℕ → List ℤ → ℕ → Instance → List Question
asks c es size I = decode_rest I (under_ceiling c I) es size

abbrev count : Instance → ℕ
count I = plan_bytes I.sizes

-- the instance is accepted, and n is the acceptance of what was asked of the entries: there is room for the plan
module _ (b : List ℕ) (m rule c : ℕ) (p : Problem) (ea : accept 0 ≡ ceiling_answer b m rule c) (ec : checked_of p ≡ instance_checked b m rule) where
  is : Accepted b (checked_of p)
  is = known b m rule c p ea ec

  fits : (es : List ℤ) (size n : ℕ) {A : Type 0} → ((I : Instance) → ShowsAll I p → Endpoints I → Edges I → (accept n ≡ decide (asks c es size I) (count I)) × ((n ≡ plan_bytes p.shape.sizes) × A))
      → (n ≤ 528) × (n ≤ size)
  fits es size n {A} h =
      let o = h _ (shown _ _ is) (endpoints_known _ _ is) (graph _ _ is) in
      let I = instance_of b (checked_of p) in
      room I (under_ceiling c I) _ (sizes_same _ _ is) es size p.shape.limits n o.0 o.1.0

pub returns-in_err-problem : goal.returns-in_err-problem
unfolding ceiling_decode_answer ceiling_decode_slice
returns-in_err-problem c =
    let e = ceiling_refuses c.args.b.now c.args.m c.args.rule c.args.c (refused c.in_err-problem.field-0.0) (instance_checked c.args.b.now c.args.m c.args.rule) c.in_err-problem.ensures.answer refl (asks c.args.c c.args.entries.now (length c.args.plan.now)) count (refusal_numbered c.in_err-problem.field-0.0) in
    record { value = passed_on _ _ c.from_residual.result c.from_residual.ensures.1 e; plan_after = refused_lent c.in_err-problem.field-0.0 _ c.args.plan.now e }

pub ask_entries-requires-clause-shown : goal.ask_entries-requires-clause-shown
ask_entries-requires-clause-shown c =
    let p = c.in_ok-problem.ensures in
    let w = is c.args.b.now c.args.m c.args.rule c.args.c c.in_ok-problem.problem p.answer p.found.0 in
    record { instance = instance_of c.args.b.now (checked_of c.in_ok-problem.problem); shows = shown _ _ w; ends = endpoints_known _ _ w; edges = graph _ _ w }

-- `o`: what was asked of the entries, and the plan that was read
pub returns-in_err-bytes : goal.returns-in_err-bytes
unfolding ceiling_decode_answer ceiling_decode_slice
returns-in_err-bytes c =
    let p = c.in_ok-problem.ensures in
    let w = is c.args.b.now c.args.m c.args.rule c.args.c c.in_ok-problem.problem p.answer p.found.0 in
    let o = (rw p.found.1 at c.in_err-bytes.ensures.value) _ (shown _ _ w) (endpoints_known _ _ w) (graph _ _ w) in
    let e = call_answers c.args.b.now c.args.m c.args.rule c.args.c _ _ p.answer p.found.0 (asks c.args.c c.args.entries.now (length c.args.plan.now)) count refl (refused c.in_err-bytes.field-0.0) o.0 in
    record { value = passed_on _ _ c.from_residual-in_err-bytes.result c.from_residual-in_err-bytes.ensures.1 e; plan_after = refused_lent c.in_err-bytes.field-0.0 _ c.args.plan.now e }

pub slice_bounds-copy_from_slice-end : goal.slice_bounds-copy_from_slice-end
slice_bounds-copy_from_slice-end c =
    let p = c.in_ok-problem.ensures in
    let room = fits c.args.b.now c.args.m c.args.rule c.args.c c.in_ok-problem.problem p.answer p.found.0 c.args.entries.now (length c.args.plan.now) c.in_ok-bytes.bytes (rw p.found.1 at c.in_ok-bytes.ensures.value) in
    room.1

pub slice_bounds-copy_from_slice-end-2 : goal.slice_bounds-copy_from_slice-end-2
slice_bounds-copy_from_slice-end-2 c =
    let p = c.in_ok-problem.ensures in
    let room = fits c.args.b.now c.args.m c.args.rule c.args.c c.in_ok-problem.problem p.answer p.found.0 c.args.entries.now (length c.args.plan.now) c.in_ok-bytes.bytes (rw p.found.1 at c.in_ok-bytes.ensures.value) in
    sym (length-take-le c.in_ok-bytes.bytes c.args.plan.now room.1)

pub slice_bounds-vertices-end : goal.slice_bounds-vertices-end
slice_bounds-vertices-end c =
    let p = c.in_ok-problem.ensures in
    let room = fits c.args.b.now c.args.m c.args.rule c.args.c c.in_ok-problem.problem p.answer p.found.0 c.args.entries.now (length c.args.plan.now) c.in_ok-bytes.bytes (rw p.found.1 at c.in_ok-bytes.ensures.value) in
    omega (arith, c.in_ok-bytes.ensures.vertices_len_2, room)

pub slice_bounds-copy_from_slice-end-3 : goal.slice_bounds-copy_from_slice-end-3
slice_bounds-copy_from_slice-end-3 c =
    let p = c.in_ok-problem.ensures in
    let room = fits c.args.b.now c.args.m c.args.rule c.args.c c.in_ok-problem.problem p.answer p.found.0 c.args.entries.now (length c.args.plan.now) c.in_ok-bytes.bytes (rw p.found.1 at c.in_ok-bytes.ensures.value) in
    sym (length-take-le c.in_ok-bytes.bytes c.ask_entries.new.vertices (omega (arith, c.in_ok-bytes.ensures.vertices_len_2, room)))

pub copy_from_slice-requires : goal.copy_from_slice-requires
copy_from_slice-requires c =
    let p = c.in_ok-problem.ensures in
    let room = fits c.args.b.now c.args.m c.args.rule c.args.c c.in_ok-problem.problem p.answer p.found.0 c.args.entries.now (length c.args.plan.now) c.in_ok-bytes.bytes (rw p.found.1 at c.in_ok-bytes.ensures.value) in
    copy_fits c.ask_entries.new.vertices c.args.plan.now c.in_ok-bytes.bytes (omega (arith, c.in_ok-bytes.ensures.vertices_len_2, room)) room.1

pub returns : goal.returns
unfolding ceiling_decode_answer ceiling_decode_slice
returns c =
    let p = c.in_ok-problem.ensures in
    let w = is c.args.b.now c.args.m c.args.rule c.args.c c.in_ok-problem.problem p.answer p.found.0 in
    let o = (rw p.found.1 at c.in_ok-bytes.ensures.value) _ (shown _ _ w) (endpoints_known _ _ w) (graph _ _ w) in
    let room = fits c.args.b.now c.args.m c.args.rule c.args.c c.in_ok-problem.problem p.answer p.found.0 c.args.entries.now (length c.args.plan.now) c.in_ok-bytes.bytes (rw p.found.1 at c.in_ok-bytes.ensures.value) in
    let e = call_answers c.args.b.now c.args.m c.args.rule c.args.c _ _ p.answer p.found.0 (asks c.args.c c.args.entries.now (length c.args.plan.now)) count refl (accept c.in_ok-bytes.bytes) o.0 in
    let same = sizes_same _ _ w ∙ ap (λ (J : Instance). J.sizes) (horizon c.args.b.now c.args.m c.args.rule c.args.c _ _ p.answer p.found.0 refl) in
    record {
      value = e;
      plan_after =
          copied c.ask_entries.new.vertices c.args.plan.now c.in_ok-bytes.bytes (omega (arith, c.in_ok-bytes.ensures.vertices_len_2, room)) room.1 c.copy_from_slice.ensures.after
          ∙ ap (λ (l : List ℕ). filled l c.args.plan.now) (rw o.1.0 o.1.1)
          ∙ ap (λ (s : Sizes). filled (named_plan s c.args.entries.now) c.args.plan.now) same
          ∙ slice_filled _ (accept c.in_ok-bytes.bytes) e _ c.args.plan.now refl;
    }
