use mathlib.Core.Path.{sym, ap, ◌∙◌}
use Rattle.model.specs.Row.{object_of}
use Rattle.batch.proofs.NewRows.{new-at}
use Rattle.batch.proofs.Columns.{numbers-start, numbers-turn, numbers-end}
use Rattle.batch.proofs.group_words.write_objects.Goals as goal

pub loop-j-init : goal.loop-j-init
loop-j-init c = numbers-start c.requires

pub loop-j-preserved : goal.loop-j-preserved
loop-j-preserved c =
    let a = c.args in
    numbers-turn c.loop-j.invariant c.loop-j-test.true _ (c.object.ensures ∙ ap object_of (c.op_row.ensures ∙ sym (new-at a.ops.now a.group.now c.loop-j.j c.loop-j-test.true)))

pub returns : goal.returns
returns c = numbers-end c.loop-j.invariant c.loop-j-test.false
