use Rattle.std.proofs.Common.{rules, tests}
use Rattle.ids.proofs.Chains.{all-ran}
use mathlib.Core.Bool.{not}
use Rattle.model.specs.Row.{is_delete}
use Rattle.model.specs.WellFormed.{no_delete}
use Rattle.wellformed.proofs.rows_alone.no_delete.Goals as goal

pub returns : goal.returns
unfolding no_delete
returns c = all-ran (λ r. not (is_delete r)) _ c.iter.ensures.same c.all.ensures.ran (λ x b q k. search (rules, tests))
