use Rattle.std.proofs.Common.{rules, tests, ◌∙◌}
use Rattle.ids.proofs.Chains.{all-ran}
use Rattle.model.specs.WellFormed.{increments_stand}
use Rattle.wellformed.specs.Rules.{increment_stands}
use Rattle.wellformed.proofs.increments.increments_stand.Goals as goal

pub returns : goal.returns
unfolding increments_stand increment_stands
returns c = all-ran (increment_stands c.args.succs.now) _ (c.iter.ensures.same ∙ c.rows.view_is) c.all.ensures.ran (λ x b q k. search (rules, tests))
