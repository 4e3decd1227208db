use Rattle.std.proofs.Common.{rules, tests, ◌∙◌}
use lib.Dec.{eqb}
use Rattle.std.proofs.lemmas.Iterator.Search.{all_from_yields_List}
use Rattle.std.proofs.lemmas.Iterator.{YieldsList-from_slice}
use Rattle.std.proofs.lemmas.Iterator.Adapters.{YieldsList-from_skip}
use Rattle.checks.proofs.BytesPast.{past_bytes}
use Rattle.checks.proofs.bytes.zero_past.Goals as goal

pub returns : goal.returns
returns c =
    all_from_yields_List (λ b. eqb b 0) _ _ _ c.all.ensures.ran (YieldsList-from_skip c.args.n (YieldsList-from_slice c.to_be_bytes.result (search rules)) c.skip.ensures.count) (λ x b q k. search (rules, tests))
    ∙ past_bytes c.args.n c.args.w _ c.to_be_bytes.ensures
