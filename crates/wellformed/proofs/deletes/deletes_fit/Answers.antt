use Rattle.std.proofs.Common.{rules, tests}
use Rattle.ids.proofs.Chains.{all-ran}
use Rattle.model.specs.WellFormed.{deletes_fit}
use Rattle.wellformed.specs.Rules.{delete_fits}
use Rattle.wellformed.specs.Document.{document_of}
use Rattle.wellformed.proofs.deletes.deletes_fit.Goals as goal

pub returns : goal.returns
unfolding deletes_fit delete_fits
returns c = all-ran (delete_fits (document_of c.args.rows.now c.args.succs.now)) _ c.iter.ensures.same c.all.ensures.ran (λ x b q k. search (rules, tests))
