use mathlib.Core.Path.{◌≡◌}
use Rattle.std.proofs.Common.{rules, tests, get_or, []}
use Rattle.std.proofs.lemmas.Iterator.{first_from_Range}
use Rattle.model.specs.Row.{object_of}
use Rattle.insert.proofs.Lists.{list_ends}
use Rattle.insert.proofs.list.list_end.Goals as goal

pub returns : goal.returns
returns c =
    let a = c.args in
    list_ends a.rows.now a.first a.list c.find.result c.requires c.len-n.ensures c.unwrap_or.ensures
    (first_from_Range _ _ _ c.find.result (λ i. object_of (get_or a.rows.now i []) ≡ a.list → ⊥) (λ i. object_of (get_or a.rows.now i []) ≡ a.list)
    c.find.ensures.ran (λ x q k. search (rules, tests)) (λ x q k. search (rules, tests)))
