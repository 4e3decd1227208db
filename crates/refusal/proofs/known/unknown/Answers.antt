use Rattle.std.proofs.Common.{rules, tests}
use mathlib.Core.Path.{sym, ap, ◌∙◌}
use mathlib.Core.Bool.{not}
use lib.ListN.{get_or}
use Rattle.ids.proofs.Chains.{any-ran}
use Rattle.refusal.specs.TakenIds.{word_in}
use Rattle.refusal.specs.Known.{meets, unknown}
use Rattle.refusal.proofs.known.unknown.Goals as goal

pub returns-then-not-any : goal.returns-then-not-any
unfolding unknown meets
returns-then-not-any c =
    let a = c.args in
    let of-row = any-ran (λ p. word_in 0 (get_or p 0 0) a.ops.now) a.rows.now c.iter.ensures.same c.any.ensures.ran (λ x b q k. search (rules, tests)) in
    let of-succ = any-ran (λ p. word_in 0 (get_or p 1 0) a.ops.now) a.succs.now c.iter-then-not-any.ensures.same c.any-then-not-any.ensures.ran (λ x b q k. search (rules, tests)) in
    rw (sym of-row ∙ c.if-not-any.true) (ap not of-succ)

pub returns-else-not-any : goal.returns-else-not-any
unfolding unknown meets
returns-else-not-any c =
    let a = c.args in
    let of-row = any-ran (λ p. word_in 0 (get_or p 0 0) a.ops.now) a.rows.now c.iter.ensures.same c.any.ensures.ran (λ x b q k. search (rules, tests)) in
    rw (sym of-row ∙ c.if-not-any.false) (ap not c.if-not-any.false)
