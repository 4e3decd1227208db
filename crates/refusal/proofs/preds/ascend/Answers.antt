use Rattle.std.proofs.Common.{rules, tests}
use lib.Dec.{ltb}
use Rattle.std.proofs.lemmas.List.Sorted.{answers_always}
use Rattle.refusal.proofs.Ascends.{ascends-from}
use Rattle.refusal.proofs.preds.ascend.Goals as goal

pub returns : goal.returns
returns c =
    ascends-from c.args.preds.now _ (c.is_sorted_by.ensures.cases ltb (answers_always _ _ _ (λ f a r g h. search (rules, tests))))
