use Rattle.std.proofs.Common.{rules, tests}
use mathlib.Core.Path.{sym, ◌∙◌}
use Rattle.std.proofs.lemmas.Iterator.Adapters.{option_map_id}
use Rattle.std.proofs.lemmas.Iterator.Consumers.{YieldsList-from_first}
use Rattle.std.proofs.lemmas.Iterator.Search.{find_from_yields_List}
use Rattle.ids.specs.Words.{starts_with}
use Rattle.ids.proofs.Chains.{found_first, found_second}
use Rattle.ids.proofs.op.Table+OP_WORDS.with_id.Goals as goal

pub returns-then-is_some : goal.returns-then-is_some
returns-then-is_some c =
    let p = starts_with c.args.id in
    let first = sym (option_map_id c.find-found.result) ∙ find_from_yields_List p _ _ _ c.find-found.ensures.ran (YieldsList-from_first (λ x. x) (λ s. s) _ c.iter.ensures.same) (λ x b q k. search (rules, tests)) in
    found_first p _ _ c.parted-parts.ensures first (sym c.is_some.ensures ∙ c.if-is_some.true)

pub returns : goal.returns
returns c =
    let p = starts_with c.args.id in
    let first = sym (option_map_id c.find-found.result) ∙ find_from_yields_List p _ _ _ c.find-found.ensures.ran (YieldsList-from_first (λ x. x) (λ s. s) _ c.iter.ensures.same) (λ x b q k. search (rules, tests)) in
    let second = sym (option_map_id c.find.result) ∙ find_from_yields_List p _ _ _ c.find.ensures.ran (YieldsList-from_first (λ x. x) (λ s. s) _ c.iter-2.ensures.same) (λ x b q k. search (rules, tests)) in
    found_second p _ _ c.parted-parts.ensures first (sym c.is_some.ensures ∙ c.if-is_some.false) second
