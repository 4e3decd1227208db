use Rattle.std.proofs.Common.{rules, tests}
use Rattle.ids.proofs.Chains.{any-ran}
use Rattle.visible.specs.Scope.{overwrites}
use Rattle.visible.proofs.scope.overwritten.Goals as goal

pub returns : goal.returns
returns c = any-ran (overwrites c.args.clock.now c.args.id) _ c.iter.ensures.same c.any.ensures.ran (λ x b q k. search (rules, tests))
