use Rattle.std.proofs.Common.{rules, tests}
use Rattle.batch.specs.Entries.{counts, counter_in, counter_among}
use Rattle.ids.proofs.Chains.{any-ran}
use Rattle.batch.proofs.op_entries.counter_among.Goals as goal

pub returns-then-any : goal.returns-then-any
unfolding counter_among counter_in
returns-then-any c =
    let a = c.args in
    let e = any-ran (counts a.id) a.rows.now c.iter.ensures.same c.any.ensures.ran (λ x b q k. search (rules, tests)) in
    rw (← e, c.if-any.true)

pub returns-else-any : goal.returns-else-any
unfolding counter_among counter_in
returns-else-any c =
    let a = c.args in
    let e = any-ran (counts a.id) a.rows.now c.iter.ensures.same c.any.ensures.ran (λ x b q k. search (rules, tests)) in
    rw (← e, c.if-any.false) (any-ran (counts a.id) a.ops.now c.iter-else-any.ensures.same c.any-else-any.ensures.ran (λ x b q k. search (rules, tests)))
