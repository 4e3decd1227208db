use Rattle.std.proofs.Common.{rules, tests}
use mathlib.Core.Path.{◌∙◌}
use Rattle.std.proofs.lemmas.Iterator.{YieldsList-from_slice}
use Rattle.std.proofs.lemmas.Iterator.Search.{all_from_yields_List}
use Rattle.model.specs.Id.{is_id}
use Rattle.ids.proofs.Chains.{all-same}
use Rattle.refusal.proofs.preds.are_ids.Goals as goal

pub returns : goal.returns
returns c =
    all_from_yields_List is_id _ _ _ c.all.ensures.ran (YieldsList-from_slice c.args.preds.now cc) (λ x b q k. search (rules, tests)) ∙ all-same is_id c.args.preds.now
