-- `edges::bits_below` meets its contract: the library's filter, counted. Assumes nothing.
use mathlib.Core.Path.{◌∙◌}
use native.Mathlib.Omega.{arith}
use borrow.Author.Tests.{tests}
use Rattle.std.proofs.Common.{rules}
use Rattle.std.proofs.lemmas.Iterator.{YieldsList-from_range}
use Rattle.std.proofs.lemmas.Iterator.Consumers.{YieldsList-from_filter, count_from_yields_List}
use Rattle.lists.proofs.Passing.{among_count}
use Rattle.lists.proofs.Sums.{when_count, count_most}
use Rattle.bits.specs.Bits.{set?}
use Rattle.edges.proofs.bits_below.Goals as goal

pub returns : goal.returns
returns c =
    let test = set? c.args.word in
    let v = c.args.v in
    let e = count_from_yields_List c.filter.result c.count.result c.count.ensures.ran (YieldsList-from_filter _ test (YieldsList-from_range 0 v v c.filter.ensures.source (omega arith)) c.filter.ensures.closure (λ x r q k. search (rules, tests))) ∙ among_count test v in
    (e, omega (arith, e, when_count v test (λ w. w), count_most v test))
