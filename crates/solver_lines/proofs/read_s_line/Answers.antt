-- `solver_lines::read_s_line` meets its contract. Assumes nothing.
use Rattle.std.proofs.Common.{◌≡◌, sym, ◌∙◌, refl, ap, arith}
use denote.Enum.Bare.{sameb}
use Rattle.solver_tokens.specs.Token.{line}
use Rattle.solver_tokens.proofs.Laws.{byte_in}
use Rattle.solver_lines.specs.declared.Status.{Status}
use Rattle.solver_lines.specs.declared.Status.TheVariants.{Satisfiable, Unsatisfiable, Unknown}
use Rattle.solver_lines.specs.contracts.Status.{the_type}
use Rattle.solver_lines.specs.Lines.{status_of}
use Rattle.solver_lines.proofs.TextLines.{status_start, line_s_again, line_s_none, line_s, is_satisfiable}
use Rattle.solver_lines.proofs.read_s_line.Goals as goal

same_status : (s : Status) → sameb the_type s Satisfiable ≡ is_satisfiable s
same_status Satisfiable = refl
same_status Unsatisfiable = refl
same_status Unknown = refl

pub returns-then-is_some : goal.returns-then-is_some
returns-then-is_some c = λ N. line_s_again c.args.text.now N c.args.from c.args.said c.requires (sym c.is_some.ensures ∙ c.if-is_some.true)

pub line_start-requires : goal.line_start-requires
line_start-requires c = omega (arith, byte_in c.args.text.now c.args.from (λ e. omega (arith, c.requires)))

pub line_end-requires : goal.line_end-requires
line_end-requires c = omega (arith, byte_in c.args.text.now c.args.from (λ e. omega (arith, c.requires)))

pub returns-in_err-status : goal.returns-in_err-status
returns-in_err-status c = λ N.
    c.from_residual.ensures
    ∙ line_s_none c.args.text.now N c.args.from c.args.said c.requires
    (c.in_err-status.ensures ∙ ap status_of c.line_start.ensures ∙ status_start (line c.args.text.now c.args.from))

pub returns : goal.returns
returns c = λ N.
    rw (c.line_end.ensures, c.eq.ensures ∙ same_status c.in_ok-status.status)
    (line_s c.args.text.now N c.args.from c.args.said c.requires c.in_ok-status.status
    (c.in_ok-status.ensures ∙ ap status_of c.line_start.ensures ∙ status_start (line c.args.text.now c.args.from))
    (sym c.is_some.ensures ∙ c.if-is_some.false))
