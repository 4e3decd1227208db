use Rattle.std.proofs.Common.{rules, tests}
use Rattle.ids.proofs.Chains.{all-ran}
use Rattle.model.specs.WellFormed.{succs_few}
use Rattle.wellformed.specs.Rules.{is_succ, few}
use Rattle.wellformed.proofs.succs_alone.succs_few.Goals as goal

pub returns : goal.returns
unfolding succs_few few is_succ
returns c = all-ran (few c.args.succs.now) _ c.iter.ensures.same c.all.ensures.ran (λ x b q k. search (rules, tests))
