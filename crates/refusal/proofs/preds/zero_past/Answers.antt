use Rattle.std.proofs.Common.{rules, tests}
use mathlib.Core.Path.{◌∙◌}
use lib.Dec.{eqb}
use lib.ListN.{drop}
use Rattle.std.proofs.lemmas.Iterator.{YieldsList-from_slice}
use Rattle.std.proofs.lemmas.Iterator.Adapters.{YieldsList-from_skip}
use Rattle.std.proofs.lemmas.Iterator.Search.{all_from_yields_List}
use Rattle.model.specs.Row.{pred_count_of, pred_room_of}
use Rattle.ids.proofs.Chains.{all-same}
use Rattle.refusal.proofs.preds.zero_past.Goals as goal

pub returns : goal.returns
returns c =
    let o = c.args.op.now in
    all_from_yields_List (eqb 0) _ _ _ c.all.ensures.ran (YieldsList-from_skip (pred_count_of o) (YieldsList-from_slice (pred_room_of o) cc) cc) (λ x b q k. search (rules, tests))
    ∙ all-same (eqb 0) (drop (pred_count_of o) (pred_room_of o))
