-- `goals::agent_at` meets its contract: the library's filter gives the agents that have a goal, in their order. Assumes nothing.
use mathlib.Core.Path.{sym}
use Prim.Native.Nat.{ℕ}
use native.Mathlib.Omega.{arith}
use borrow.Author.Tests.{tests}
use lib.ListN.{get_or}
use Rattle.std.proofs.Common.{rules}
use Rattle.std.proofs.lemmas.Iterator.{YieldsList-from_range}
use Rattle.std.proofs.lemmas.Iterator.Consumers.{YieldsList-from_filter, nth_from_yields_List}
use Rattle.lists.proofs.Passing.{among_at, among_none}
use Rattle.instance.specs.Instance.{goal_count}
use Rattle.instance.proofs.Goals.{has, has_goal}
use Rattle.goals.proofs.agent_at.Goals as goal

pub unreachable-requires : goal.unreachable-requires
unfolding goal_count
unreachable-requires c =
    let test = has λ (i : ℕ). get_or c.args.goals.now i 0 in
    let k = c.args.k in
    let e = nth_from_yields_List c.nth.result c.nth.new.self c.args.place c.nth.ensures.ran (YieldsList-from_filter _ test (YieldsList-from_range 0 k k c.filter.ensures.source (omega arith)) c.filter.ensures.closure (λ x r q k. search (rules, tests))) in
    among_none test k c.args.place (rw c.in_default.is at (sym e)) c.requires.1

pub returns : goal.returns
unfolding goal_count
returns c =
    let test = has λ (i : ℕ). get_or c.args.goals.now i 0 in
    let k = c.args.k in
    let e = nth_from_yields_List c.nth.result c.nth.new.self c.args.place c.nth.ensures.ran (YieldsList-from_filter _ test (YieldsList-from_range 0 k k c.filter.ensures.source (omega arith)) c.filter.ensures.closure (λ x r q k. search (rules, tests))) in
    let (l, t, h) = among_at test k c.args.place c.in-Some.a (rw c.in-Some.is at (sym e)) in
    (l, has_goal (get_or c.args.goals.now c.in-Some.a 0) t, h)
