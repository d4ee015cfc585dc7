-- `edges::bit_at` meets its contract: the library's filter gives the bits that are set, in their order. Assumes nothing.
use mathlib.Core.Path.{sym}
use native.Mathlib.Omega.{arith}
use borrow.Author.Tests.{tests}
use Rattle.std.proofs.Common.{rules}
use Rattle.std.proofs.lemmas.Iterator.{YieldsList-from_range}
use Rattle.std.proofs.lemmas.Iterator.Consumers.{YieldsList-from_filter, nth_from_yields_List}
use Rattle.lists.proofs.Passing.{among_at, among_none}
use Rattle.bits.specs.Bits.{set?}
use Rattle.edges.proofs.bit_at.Goals as goal

pub unreachable-requires : goal.unreachable-requires
unreachable-requires c =
    let test = set? c.args.word in
    let n = c.args.n in
    let e = nth_from_yields_List c.nth.result c.nth.new.self c.args.place c.nth.ensures.ran (YieldsList-from_filter _ test (YieldsList-from_range 0 n n c.filter.ensures.source (omega arith)) c.filter.ensures.closure (λ x r q k. search (rules, tests))) in
    among_none test n c.args.place (rw c.in_default.is at (sym e)) c.requires.1

pub returns : goal.returns
returns c =
    let test = set? c.args.word in
    let n = c.args.n in
    let e = nth_from_yields_List c.nth.result c.nth.new.self c.args.place c.nth.ensures.ran (YieldsList-from_filter _ test (YieldsList-from_range 0 n n c.filter.ensures.source (omega arith)) c.filter.ensures.closure (λ x r q k. search (rules, tests))) in
    among_at test n c.args.place c.in-Some.w (rw c.in-Some.is at (sym e))
