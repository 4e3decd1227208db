use Rattle.std.proofs.Common.{rules, tests}
use mathlib.Core.Path.{◌∙◌}
use mathlib.Core.Bool.{not}
use lib.Dec.{eqb}
use Rattle.std.proofs.lemmas.Iterator.Consumers.{YieldsList-from_first, YieldsList-from_filter, count_from_yields_List}
use Rattle.model.specs.Kinds.{delete}
use Rattle.model.specs.Row.{action_of, row_of}
use Rattle.refusal.proofs.Sums.{kept-are}
use Rattle.refusal.proofs.counts.new_rows.Goals as goal

pub returns : goal.returns
returns c =
    let b = c.args.ops.now in
    let all = YieldsList-from_first (λ x. x) (λ s. s) b (c.filter.ensures.source ∙ c.iter.ensures.same) in
    count_from_yields_List _ _ c.count.ensures.ran (YieldsList-from_filter _ (λ o. not (eqb (action_of (row_of o)) delete)) all c.filter.ensures.closure (λ x b q k. search (rules, tests)))
    ∙ kept-are b
