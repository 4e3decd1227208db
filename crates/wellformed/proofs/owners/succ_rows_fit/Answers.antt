use Rattle.std.proofs.Common.{rules, tests}
use Rattle.ids.proofs.Chains.{all-ran}
use Rattle.model.specs.WellFormed.{succ_rows_fit}
use Rattle.wellformed.specs.Rules.{succ_row_fits}
use Rattle.wellformed.proofs.owners.succ_rows_fit.Goals as goal

pub returns : goal.returns
unfolding succ_rows_fit succ_row_fits
returns c = all-ran (succ_row_fits c.args.rows.now) _ c.iter.ensures.same c.all.ensures.ran (λ x b q k. search (rules, tests))
