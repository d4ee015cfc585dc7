-- `goals::count` meets its contract: the library's filter, counted. Assumes nothing.
use mathlib.Core.Path.{◌∙◌}
use Prim.Native.Nat.{ℕ}
use native.Mathlib.Omega.{arith}
use borrow.Author.Tests.{tests}
use lib.ListN.{get_or}
use Rattle.std.proofs.Common.{rules}
use Rattle.std.proofs.lemmas.Iterator.{YieldsList-from_range}
use Rattle.std.proofs.lemmas.Iterator.Consumers.{YieldsList-from_filter, count_from_yields_List}
use Rattle.lists.proofs.Passing.{among_count}
use Rattle.lists.proofs.Sums.{when_count, count_most}
use Rattle.instance.specs.Instance.{goal_count}
use Rattle.instance.proofs.Goals.{has}
use Rattle.goals.proofs.count.Goals as goal

pub returns : goal.returns
unfolding goal_count
returns c =
    let test = has λ (i : ℕ). get_or c.args.goals.now i 0 in
    let k = c.args.k in
    let e = count_from_yields_List c.filter.result c.count.result c.count.ensures.ran (YieldsList-from_filter _ test (YieldsList-from_range 0 k k c.filter.ensures.source (omega arith)) c.filter.ensures.closure (λ x r q k. search (rules, tests))) ∙ among_count test k in
    (e, omega (arith, e, when_count k test (λ w. w), count_most k test))
