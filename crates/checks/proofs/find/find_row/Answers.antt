use Rattle.std.proofs.Common.{rules, tests}
use Rattle.std.proofs.lemmas.Iterator.Consumers.{YieldsList-from_first}
use Rattle.std.proofs.lemmas.Iterator.Search.{position_from_yields_List}
use Rattle.checks.specs.Find.{has_id, first_row}
use Rattle.checks.proofs.find.find_row.Goals as goal

pub returns : goal.returns
unfolding first_row
returns c =
    position_from_yields_List (has_id c.args.id) _ _ _ c.position.ensures.ran (YieldsList-from_first (λ x. x) (λ s. s) c.args.rows.now c.iter.ensures.same) (λ x b q k. search (rules, tests))
