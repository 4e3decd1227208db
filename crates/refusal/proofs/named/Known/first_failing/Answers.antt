use Rattle.std.proofs.Common.{rules, tests}
use mathlib.Core.Path.{refl, sym, ap, ◌∙◌}
use native.Mathlib.Omega.{arith}
use lib.ListN.{length}
use Rattle.std.proofs.lemmas.Iterator.{YieldsList-from_range}
use Rattle.std.proofs.lemmas.Iterator.Adapters.{option_map_id}
use Rattle.std.proofs.lemmas.Iterator.Search.{find_from_yields_List}
use Rattle.refusal.specs.Checks.{check_number}
use Rattle.refusal.specs.Failing.{fails, refused_at}
use Rattle.refusal.specs.CheckedBatch.{ops_refusal}
use Rattle.refusal.proofs.Firsts.{failing, find-first}
use Rattle.refusal.proofs.named.Known.first_failing.Goals as goal

pub returns : goal.returns
unfolding ops_refusal
returns c =
    let k = c.args.self.now in
    let n = check_number c.args.check in
    let f = fails n k.rows k.succs k.ops in
    let found = find_from_yields_List (failing n f k.ops) _ _ c.find.result c.find.ensures.ran (YieldsList-from_range 0 c.len.result (length k.ops) refl (omega (arith, c.len.ensures))) (λ x b q k. search (rules, tests)) in
    ap (refused_at n) (sym (option_map_id c.find.result) ∙ found) ∙ find-first n f k.ops
