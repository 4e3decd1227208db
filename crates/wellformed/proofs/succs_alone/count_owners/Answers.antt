use Rattle.std.proofs.Common.{rules, tests, ap, ◌∙◌}
use lib.ListN.{length}
use Rattle.std.proofs.lemmas.Iterator.Consumers.{YieldsList-from_first, YieldsList-from_filter, count_from_yields_List}
use Rattle.ids.proofs.Chains.{filter-same}
use Rattle.wellformed.specs.Rules.{is_succ}
use Rattle.wellformed.proofs.succs_alone.count_owners.Goals as goal

pub returns : goal.returns
unfolding is_succ
returns c =
    count_from_yields_List _ _ c.count.ensures.ran
    (YieldsList-from_filter _ (is_succ c.args.id) (YieldsList-from_first (λ x. x) (λ s. s) c.args.succs.now (c.filter.ensures.source ∙ c.iter.ensures.same)) c.filter.ensures.closure (λ x b q k. search (rules, tests)))
    ∙ ap length (filter-same (is_succ c.args.id) c.args.succs.now)
