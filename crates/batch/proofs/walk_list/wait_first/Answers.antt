use mathlib.Core.Path.{sym, ap, ◌∙◌}
use Rattle.model.specs.Row.{is_insert}
use Rattle.batch.proofs.WalkTests.{wait-none, wait-last, wait-other, wait-ids}
use Rattle.batch.proofs.walk_list.wait_first.Goals as goal

pub returns-then-depth-eq0 : goal.returns-then-depth-eq0
returns-then-depth-eq0 c =
    let a = c.args in
    wait-none a.list.now.rows.now a.list.now.z a.d a.list.now.ops.now a.list.now.group.now a.stack.now a.depth c.if-depth-eq0.true

pub returns-then-list-d : goal.returns-then-list-d
returns-then-list-d c =
    let a = c.args in
    wait-last a.list.now.rows.now a.list.now.z a.d a.list.now.ops.now a.list.now.group.now a.stack.now a.depth c.if-depth-eq0.false c.if-list-d.true

pub returns-then-is_insert : goal.returns-then-is_insert
returns-then-is_insert c =
    let a = c.args in
    let e = sym (c.is_insert.ensures ∙ ap is_insert c.nth-row.ensures) ∙ c.if-is_insert.true in
    rw (c.id.ensures, c.nth-row.ensures, c.id-then-is_insert.ensures, c.op_row.ensures, c.top.ensures) (wait-ids a.list.now.rows.now a.list.now.z a.d a.list.now.ops.now a.list.now.group.now a.stack.now a.depth c.if-depth-eq0.false c.requires.1 c.if-list-d.false e)

pub returns-else-is_insert : goal.returns-else-is_insert
returns-else-is_insert c =
    let a = c.args in
    let e = sym (c.is_insert.ensures ∙ ap is_insert c.nth-row.ensures) ∙ c.if-is_insert.false in
    rw c.if-is_insert.false (wait-other a.list.now.rows.now a.list.now.z a.d a.list.now.ops.now a.list.now.group.now a.stack.now a.depth c.if-list-d.false e)
