use Rattle.std.proofs.Common.{rules, tests}
use Rattle.ids.proofs.Chains.{any-ran}
use Rattle.wellformed.specs.Rules.{is_succ}
use Rattle.wellformed.proofs.succs_alone.has_succ.Goals as goal

pub returns : goal.returns
unfolding is_succ
returns c = any-ran (is_succ c.args.id) _ c.iter.ensures.same c.any.ensures.ran (λ x b q k. search (rules, tests))
