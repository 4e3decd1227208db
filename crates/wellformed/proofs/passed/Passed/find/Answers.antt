use mathlib.Core.Path.{ap, ◌∙◌}
use Rattle.model.specs.Row.{rows_with}
use Rattle.wellformed.proofs.Found.{found_with, found_plain}
use Rattle.wellformed.proofs.passed.Passed.find.Goals as goal

pub returns-clause-same : goal.returns-clause-same
returns-clause-same c = found_with _ c.self.invariant.differing c.args.id c.find.ensures ∙ ap (λ rs. rows_with rs c.args.id) c.self.view_is

pub returns-clause-plain : goal.returns-clause-plain
returns-clause-plain c = found_plain _ c.self.invariant c.args.id c.find.ensures
