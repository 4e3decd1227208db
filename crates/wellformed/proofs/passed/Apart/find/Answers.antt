use mathlib.Core.Path.{ap, ◌∙◌}
use Rattle.model.specs.Row.{rows_with}
use Rattle.wellformed.proofs.Found.{found_with}
use Rattle.wellformed.proofs.passed.Apart.find.Goals as goal

pub returns : goal.returns
returns c = found_with _ c.self.invariant c.args.id c.find.ensures ∙ ap (λ rs. rows_with rs c.args.id) c.self.view_is
