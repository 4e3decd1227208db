use Rattle.std.proofs.Common.{◌∙◌, ap}
use Rattle.model.specs.Basic.{concat_map}
use Rattle.found_op.specs.Group.{row_shown, group_shown}
use Rattle.found_op.specs.Page.{page, writes}
use Rattle.found_op.proofs.Shows.{row-few, showing-turn, showing-end}
use Rattle.found_op.proofs.picture.show_group.Goals as goal

pub loop-row-preserved : goal.loop-row-preserved
loop-row-preserved c = showing-turn c.loop-row.invariant c.in-Some.ensures.steps (row-few _ _ _ _) c.show_row-next.ensures

pub returns : goal.returns
unfolding group_shown
returns c =
    let a = c.args in
    showing-end c.loop-row.invariant c.in-None.ensures.steps.0
    ∙ ap (λ f. writes (page a.out.now a.k) (concat_map (row_shown a.clock.now a.succs.now f) a.group.now)) c.found_in-found.ensures
