-- `ceiling_decoder::clause_fault` meets its contract: the base formula's clauses are asked of the first entries, the added ones behind them. Assumes nothing.
use mathlib.Core.Path.{◌≡◌, sym, ◌∙◌, ap}
use Prim.Native.Nat.{ℕ}
use native.Mathlib.Omega.{arith}
use lib.ListN.{length}
use Rattle.std.specs.Prelude.{Option, None, Some}
use Rattle.lists.specs.Loop.{for}
use Rattle.instance.specs.declared.problem.Problem.{Problem}
use Rattle.instance.specs.Problem.{checked_of, ShowsAll}
use Rattle.instance.specs.Instance.{Instance, Edges}
use Rattle.instance.proofs.Accepted.{shown_counted}
use Rattle.formula.specs.Formula.{clauses}
use Rattle.formula.specs.Blocks.{family, held}
use Rattle.formula.specs.Counts.{clause_count}
use Rattle.formula.proofs.Counts.{clause_count_lem}
use Rattle.formula.proofs.Limits.{clauses_most}
use Rattle.satisfaction.specs.Rows.{Failing}
use Rattle.satisfaction.proofs.Families.{whole}
use Rattle.ceiling.proofs.Counts.{added_count_lem}
use Rattle.ceiling_size.proofs.Laws.{added_most}
use Rattle.ceiling_decoder.proofs.Laws.{stops_base, passes_base, fails_behind, passes_behind, places_read}
use Rattle.ceiling_decoder.proofs.clause_fault.Goals as goal

-- for an instance that is shown: what was found among the base formula's clauses, and how many there are
module _ (p : Problem) (I : Instance) (g : ShowsAll I p) where
  among : Edges I → (es : _) (r : Option ℕ) → Failing es (for 7 (family (held (checked_of p)))) r → Failing es (clauses I) r
  among h es r f = whole I p.shape.sizes p.starts p.goals p.near g h es r f

  counted : clause_count p.shape.sizes ≡ length (clauses I)
  counted = ap clause_count g.graph.sizes ∙ sym (clause_count_lem I (shown_counted I p.shape.sizes p.starts p.goals p.near g p.ready))

pub returns-in-Some : goal.returns-in-Some
returns-in-Some c =
    let p = c.args.problem.now in
    λ I g e h. stops_base I p.shape.sizes g.graph.sizes e h c.args.ceiling.c c.args.entries.now c.requires.valuation.0 c.in-Some.fault (among p I g h _ (Some c.in-Some.fault) (rw c.variable_count-n.ensures.0 at c.in-Some.ensures))

pub added_fault-requires-clause-p_len : goal.added_fault-requires-clause-p_len
added_fault-requires-clause-p_len c =
    let p = c.args.problem.now in
    let i = c.requires.shown in
    let q = passes_base i.instance p.shape.sizes i.shows.graph.sizes i.ends i.edges c.args.ceiling.c c.args.entries.now c.requires.valuation.0 (among p i.instance i.shows i.edges _ None (rw c.variable_count-n.ensures.0 at c.in_default.ensures)) in
    (c.requires.valuation.1.size, places_read i.instance p.shape.sizes i.shows.graph.sizes i.ends i.edges c.args.ceiling.c c.args.entries.now c.requires.valuation.0 q c.args.p.now c.requires.valuation.1)

pub overflow_add-result : goal.overflow_add-result
overflow_add-result c =
    let s = c.args.problem.now.shape in
    let f = c.in-Err.ensures.within in
    omega (arith, c.clause_count-count.ensures, clauses_most _ s.limits, added_count_lem s.sizes c.args.ceiling.c, added_most s.sizes s.limits c.args.ceiling.c c.args.ceiling.c_most)

pub returns-in-Ok : goal.returns-in-Ok
returns-in-Ok c =
    let p = c.args.problem.now in
    λ I g e h. passes_behind I p.shape.sizes g.graph.sizes e h c.args.ceiling.c c.args.entries.now c.requires.valuation.0 (among p I g h _ None (rw c.variable_count-n.ensures.0 at c.in_default.ensures)) c.in-Ok.field-0 c.in-Ok.ensures

pub returns-in-Err : goal.returns-in-Err
returns-in-Err c =
    let p = c.args.problem.now in
    λ I g e h. fails_behind I p.shape.sizes g.graph.sizes e h c.args.ceiling.c c.args.entries.now c.requires.valuation.0 (among p I g h _ None (rw c.variable_count-n.ensures.0 at c.in_default.ensures))
    c.clause_count-count.result c.in-Err.place (c.clause_count-count.ensures ∙ counted p I g) c.in-Err.ensures
