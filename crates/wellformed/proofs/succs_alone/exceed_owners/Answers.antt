use Rattle.std.proofs.Common.{rules, tests}
use Rattle.ids.proofs.Chains.{all-ran}
use Rattle.wellformed.specs.Rules.{exceeds}
use Rattle.wellformed.proofs.succs_alone.exceed_owners.Goals as goal

pub returns : goal.returns
unfolding exceeds
returns c = all-ran (exceeds) _ c.iter.ensures.same c.all.ensures.ran (λ x b q k. search (rules, tests))
