use mathlib.Core.Path.{sym, ◌∙◌}
use Rattle.insert.proofs.Answers.{at_head}
use Rattle.insert.proofs.FromFormed.{first_place_is, walkable}
use Rattle.insert.proofs.spot.insertion_spot.Goals as goal

pub returns-then-target-eq0 : goal.returns-then-target-eq0
returns-then-target-eq0 c =
    let a = c.args in
    let e = sym c.is_list.ensures ∙ c.if-not-is_list.false in
    at_head a.rows.now a.succs.now a.list a.clock.now a.target e c.if-target-eq0.true (first_place_is a.rows.now a.succs.now a.list _ c.requires e c.first_place-first.ensures)

pub walk-spot-requires-clause-walkable : goal.walk-spot-requires-clause-walkable
walk-spot-requires-clause-walkable c =
    let a = c.args in
    walkable a.rows.now a.succs.now a.list _ _ c.requires (sym c.is_list.ensures ∙ c.if-not-is_list.false) c.first_place-first.ensures c.list_end-end.ensures
