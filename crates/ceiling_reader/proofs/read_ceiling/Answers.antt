-- `ceiling_reader::read_ceiling` meets its contract: the check decides, or 16 and 27 to 29 over all variables. Assumes nothing.
use mathlib.Core.Path.{refl, ◌∙◌, ap, ap₂}
use mathlib.Core.List.{List}
use Prim.Native.Nat.{ℕ}
use lib.ListN.{length}
use Rattle.answers.specs.declared.Answer.{Answer}
use Rattle.answers.specs.Answers.{Question, decide, lent}
use Rattle.answers.proofs.Returned.{passed_on, refused_lent, refusal_numbered}
use Rattle.instance.specs.Instance.{Instance}
use Rattle.instance.specs.Questions.{instance_checked}
use Rattle.instance.proofs.Accepted.{sizes_same}
use Rattle.ceiling.specs.Ceiling.{ceiling_variables, under_ceiling}
use Rattle.solver_text.specs.Form.{given, in_order}
use Rattle.calls.specs.Calls.{read_rest}
use Rattle.calls.specs.Ceiling.{ceiling_read_answer, ceiling_read_slice}
use Rattle.calls.proofs.Ceiling.{horizon, ceiling_refuses, call_answers}
use Rattle.ceiling_size.proofs.Laws.{known}
use Rattle.ceiling_reader.proofs.read_ceiling.Goals as goal

pub returns-in_err-problem : goal.returns-in_err-problem
unfolding ceiling_read_answer ceiling_read_slice
returns-in_err-problem c =
    let a = c.args in
    let asks : Instance → List Question = λ I. read_rest (under_ceiling a.c I).variables a.text.now (length a.z.now) in
    let count : Instance → ℕ = λ I. (under_ceiling a.c I).variables in
    let e = ceiling_refuses a.b.now a.m a.rule a.c _ (instance_checked a.b.now a.m a.rule) c.in_err-problem.ensures.answer refl asks count (refusal_numbered c.in_err-problem.field-0.0) in
    record { value = passed_on _ _ c.from_residual.result c.from_residual.ensures.1 e; z_after = refused_lent _ _ a.z.now e }

pub read_entries-requires : goal.read_entries-requires
read_entries-requires c = c.variables-n.ensures.1

pub returns : goal.returns
unfolding ceiling_read_answer ceiling_read_slice
returns c =
    let a = c.args in
    let ok = c.in_ok-problem in
    let found = ok.ensures.found in
    let asks : Instance → List Question = λ I. read_rest (under_ceiling a.c I).variables a.text.now (length a.z.now) in
    let count : Instance → ℕ = λ I. (under_ceiling a.c I).variables in
    let n =
    c.variables-n.ensures.0
    ∙ ap₂ ceiling_variables (sizes_same _ _ (known a.b.now a.m a.rule a.c ok.problem ok.ensures.answer found.0)) found.1 in
    let same = horizon a.b.now a.m a.rule a.c _ _ ok.ensures.answer found.0 refl in
    let e = call_answers a.b.now a.m a.rule a.c _ _ ok.ensures.answer found.0 asks count refl _ (c.read_entries.ensures.value ∙ ap (λ (N : ℕ). decide (read_rest N a.text.now (length a.z.now)) N) n) in
    record {
      value = e;
      z_after = c.read_entries.ensures.z_after
          ∙ ap₂ (λ (x : Answer) (N : ℕ). lent x (in_order N (given a.text.now)) a.z.now) e (n ∙ ap (λ (J : Instance). (under_ceiling a.c J).variables) same);
    }
