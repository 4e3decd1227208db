use Rattle.std.proofs.Common.{rules, tests, ◌∙◌}
use Rattle.ids.proofs.Chains.{all-ran}
use Rattle.model.specs.WellFormed.{rows_pass}
use Rattle.wellformed.specs.Rules.{passes}
use Rattle.wellformed.proofs.rows_pass.rows_pass.Goals as goal

pub returns : goal.returns
unfolding rows_pass passes
returns c = all-ran (passes c.args.rows.now) _ (c.iter.ensures.same ∙ c.rows.view_is) c.all.ensures.ran (λ x b q k. search (rules, tests))
