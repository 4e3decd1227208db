use Rattle.std.proofs.Common.{rules, tests, sym, ◌∙◌}
use Rattle.std.proofs.lemmas.Iterator.{YieldsList-from_zip}
use Rattle.std.proofs.lemmas.Iterator.Consumers.{YieldsList-from_first}
use Rattle.std.proofs.lemmas.Iterator.Search.{all_from_yields_List}
use Rattle.model.specs.Document.{succ_before}
use Rattle.wellformed.proofs.Lists.{ascends-pairs, behind-is}
use Rattle.wellformed.proofs.succs_alone.ascend.Goals as goal

pub returns : goal.returns
returns c =
    all_from_yields_List (λ q. succ_before q.0 q.1) _ _ _ c.all.ensures.ran
    (YieldsList-from_zip (YieldsList-from_first (λ x. x) (λ s. s) c.args.succs.now (c.zip.ensures.first ∙ c.iter.ensures.same)) (YieldsList-from_first (λ x. x) (λ s. s) _ (c.zip.ensures.second ∙ behind-is _ c.len.ensures c.part-behind.ensures)))
    (λ x b q k. search (rules, tests))
    ∙ sym (ascends-pairs succ_before c.args.succs.now)
