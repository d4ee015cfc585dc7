-- `added_writer::write_chain` meets its contract: link i says the B that are i and i + k after the first. Assumes nothing.
use mathlib.Core.Path.{ap}
use Prim.Native.Nat.{ℕ, ◌+◌, ◌*◌, ◌-◌, ◌≤◌}
use native.Mathlib.Nat.{mul-le-mul}
use native.Mathlib.Omega.{arith}
use borrow.Author.Rules.{rules}
use Rattle.added_writer.proofs.Laws.{chain_run}
use Rattle.added_writer.proofs.write_chain.Goals as goal

pub write_each-requires : goal.write_each-requires
write_each-requires c =
    let few : (c.args.s.sizes.m - 1) * c.args.s.sizes.k ≤ 512 = mul-le-mul {n₂ = 32} {m₂ = 16} (omega (arith, c.args.s.limits.m_most)) c.args.s.limits.k_most in
    let room = rw (chain_run c.args.s.sizes (ap (λ (x : ℕ). x + 1) c.variable_count.ensures.0)) at c.requires.s_in_bounds in
    search rules

pub returns : goal.returns
returns c =
    let few : (c.args.s.sizes.m - 1) * c.args.s.sizes.k ≤ 512 = mul-le-mul {n₂ = 32} {m₂ = 16} (omega (arith, c.args.s.limits.m_most)) c.args.s.limits.k_most in
    let run = chain_run c.args.s.sizes (ap (λ (x : ℕ). x + 1) c.variable_count.ensures.0) in
    let room = rw run at c.requires.s_in_bounds in
    rw run (search rules)
