use Rattle.std.proofs.Common.{rules, tests}
use Rattle.ids.proofs.Chains.{any-ran}
use Rattle.checks.specs.Find.{has_id}
use Rattle.wellformed.proofs.rows_alone.has_id.Goals as goal

pub returns : goal.returns
returns c = any-ran (has_id c.args.id) _ c.iter.ensures.same c.any.ensures.ran (λ x b q k. search (rules, tests))
