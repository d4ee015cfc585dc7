-- `ceiling_writer::write_ceiling` meets its contract: the check decides, or 12, or the words are written. Assumes nothing.
use mathlib.Core.Path.{◌∙◌, ap}
use Rattle.answers.proofs.Returned.{passed_on}
use Rattle.ceiling.specs.Ceiling.{ceiling_words}
use Rattle.ceiling_writer.proofs.Laws.{refuses, stops, room, writes}
use Rattle.ceiling_writer.proofs.write_ceiling.Goals as goal

pub returns-in_err-problem : goal.returns-in_err-problem
returns-in_err-problem c =
    let (a, w) = refuses c.args.b.now c.args.m c.args.rule c.args.c c.args.f.now _ c.in_err-problem.ensures.answer in
    record { value = passed_on _ _ c.from_residual.result c.from_residual.ensures.1 a; f_after = w }

pub returns-in_err-ask_room : goal.returns-in_err-ask_room
returns-in_err-ask_room c =
    let found = c.in_ok-problem.ensures.found in
    let (a, w) = stops c.args.b.now c.args.m c.args.rule c.args.c c.args.f.now c.in_ok-problem.problem c.in_ok-problem.ensures.answer found.0 c.words-needed.result
    (c.words-needed.ensures ∙ ap (ceiling_words c.in_ok-problem.problem.shape.sizes) found.1) _ c.in_err-ask_room.ensures in
    record { value = passed_on _ _ c.from_residual-in_err-ask_room.result c.from_residual-in_err-ask_room.ensures.1 a; f_after = w }

pub write_all-requires : goal.write_all-requires
write_all-requires c =
    let found = c.in_ok-problem.ensures.found in
    let fits = room c.args.b.now c.args.m c.args.rule c.args.c c.args.f.now c.in_ok-problem.problem c.in_ok-problem.ensures.answer found.0 c.words-needed.result
    (c.words-needed.ensures ∙ ap (ceiling_words c.in_ok-problem.problem.shape.sizes) found.1) c.in_ok-ask_room.ensures in
    rw (← found.1) at fits

pub returns : goal.returns
returns c =
    let found = c.in_ok-problem.ensures.found in
    let (a, w) = writes c.args.b.now c.args.m c.args.rule c.args.c c.args.f.now c.in_ok-problem.problem c.in_ok-problem.ensures.answer found.0 c.words-needed.result
    (c.words-needed.ensures ∙ ap (ceiling_words c.in_ok-problem.problem.shape.sizes) found.1) c.in_ok-ask_room.ensures _ (rw found.1 at c.write_all.ensures) in
    record { value = a; f_after = w }
