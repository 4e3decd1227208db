use Rattle.std.proofs.Common.{rules, tests}
use Rattle.ids.proofs.Chains.{all-ran}
use mathlib.Core.List.{[]}
use Rattle.model.specs.WellFormed.{one_key}
use Rattle.wellformed.specs.Document.{document_of}
use Rattle.wellformed.proofs.deletes.all_agree.Goals as goal

pub returns : goal.returns
returns c = all-ran (one_key (document_of c.args.rows.now []) c.args.entry.now) _ c.iter.ensures.same c.all.ensures.ran (λ x b q k. search (rules, tests))
