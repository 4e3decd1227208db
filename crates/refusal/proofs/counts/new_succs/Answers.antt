use Rattle.std.proofs.Common.{rules, arith}
use mathlib.Core.Path.{◌∙◌}
use Rattle.std.proofs.lemmas.Iterator.{YieldsList-from_map}
use Rattle.std.proofs.lemmas.Iterator.Consumers.{YieldsList-from_first, sum_by_from_yields_List, fits_by_from_yields_list}
use Rattle.refusal.specs.OpAt.{readable}
use Rattle.refusal.proofs.Sums.{summed}
use Rattle.refusal.proofs.counts.new_succs.Goals as goal

pub sum-requires-clause-fits : goal.sum-requires-clause-fits
unfolding readable
sum-requires-clause-fits c =
    let b = c.args.ops.now in
    fits_by_from_yields_list readable b _ _ (YieldsList-from_map _ readable (YieldsList-from_first (λ x. x) (λ s. s) b (c.map.ensures.source ∙ c.iter.ensures.same)) c.map.ensures.closure (λ x r q k. search rules)) (omega (arith, summed readable b, c.requires))

pub returns : goal.returns
unfolding readable
returns c =
    let b = c.args.ops.now in
    sum_by_from_yields_List readable b _ _ c.sum.ensures.ran (YieldsList-from_map _ readable (YieldsList-from_first (λ x. x) (λ s. s) b (c.map.ensures.source ∙ c.iter.ensures.same)) c.map.ensures.closure (λ x r q k. search rules))
    ∙ summed readable b
