use Rattle.std.proofs.Common.{rules, tests}
use mathlib.Core.Path.{sym, ◌∙◌}
use lib.Dec.{eqb}
use lib.ListN.{get_or}
use Rattle.ids.proofs.Chains.{any-ran}
use Rattle.refusal.specs.TakenIds.{has_word, word_in}
use Rattle.refusal.proofs.taken.document_has.Goals as goal

pub returns-then-any : goal.returns-then-any
unfolding word_in has_word
returns-then-any c =
    let of-row = any-ran (λ p. eqb c.args.id (get_or p 0 0)) _ c.iter.ensures.same c.any.ensures.ran (λ x b q k. search (rules, tests)) in
    rw (sym of-row ∙ c.if-any.true) c.if-any.true

pub returns-else-any : goal.returns-else-any
unfolding word_in has_word
returns-else-any c =
    let of-row = any-ran (λ p. eqb c.args.id (get_or p 0 0)) _ c.iter.ensures.same c.any.ensures.ran (λ x b q k. search (rules, tests)) in
    let of-succ = any-ran (λ p. eqb c.args.id (get_or p 1 0)) _ c.iter-else-any.ensures.same c.any-else-any.ensures.ran (λ x b q k. search (rules, tests)) in
    rw (sym of-row ∙ c.if-any.false) of-succ
