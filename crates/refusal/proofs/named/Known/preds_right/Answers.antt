use Rattle.std.proofs.Common.{rules, tests}
use mathlib.Core.Path.{◌∙◌}
use Rattle.std.proofs.lemmas.Iterator.{YieldsList-from_slice}
use Rattle.std.proofs.lemmas.Iterator.Search.{all_from_yields_List}
use Rattle.model.specs.Row.{row_of, preds_of}
use Rattle.ids.proofs.Chains.{all-same}
use Rattle.refusal.specs.Bearing.{refers_well, preds_right}
use Rattle.refusal.proofs.named.Known.preds_right.Goals as goal

pub returns : goal.returns
unfolding preds_right
returns c =
    let k = c.args.self.now in
    let o = c.args.op.now in
    all_from_yields_List (refers_well 8 k.rows k.ops (row_of o)) _ _ _ c.all.ensures.ran (YieldsList-from_slice (preds_of o) cc) (λ x b q k. search (rules, tests))
    ∙ all-same (refers_well 8 k.rows k.ops (row_of o)) (preds_of o)
