use Rattle.std.proofs.Common.{rules, tests}
use Rattle.ids.proofs.Chains.{all-ran}
use mathlib.Core.List.{[]}
use Rattle.model.specs.WellFormed.{carries_right, increments_right}
use Rattle.wellformed.specs.Document.{document_of}
use Rattle.wellformed.proofs.increments.increments_right.Goals as goal

pub returns : goal.returns
unfolding increments_right carries_right
returns c = all-ran (carries_right (document_of c.args.rows.now [])) _ c.iter.ensures.same c.all.ensures.ran (λ x b q k. search (rules, tests))
