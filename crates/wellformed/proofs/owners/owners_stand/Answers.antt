use Rattle.std.proofs.Common.{rules, tests}
use Rattle.ids.proofs.Chains.{all-ran}
use Rattle.model.specs.WellFormed.{owners_stand}
use Rattle.wellformed.specs.Rules.{owner_stands}
use Rattle.wellformed.proofs.owners.owners_stand.Goals as goal

pub returns : goal.returns
unfolding owners_stand owner_stands
returns c = all-ran (owner_stands c.args.rows.now) _ c.iter.ensures.same c.all.ensures.ran (λ x b q k. search (rules, tests))
