use Rattle.std.proofs.Common.{rules, tests}
use Rattle.insert.specs.Lists.{makes}
use Rattle.ids.proofs.Chains.{any-ran}
use Rattle.insert.proofs.list.is_list.Goals as goal

pub returns : goal.returns
returns c = any-ran (makes c.args.list) _ c.iter.ensures.same c.any.ensures.ran (λ x b q k. search (rules, tests))
