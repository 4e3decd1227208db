use mathlib.Core.Path.{sym, ap, ◌∙◌}
use Prim.Native.Nat.{◌*◌}
use Rattle.model.specs.Sizes.{row_words, op_words}
use Rattle.model.specs.Row.{is_insert}
use Rattle.batch.specs.Parts.{part}
use Rattle.batch.proofs.WalkTests.{first-none, first-insert, first-ids}
use Rattle.batch.proofs.walk_list.row_first.Goals as goal

pub returns-then-list-d : goal.returns-then-list-d
returns-then-list-d c =
    let a = c.args in
    first-none a.list.now.rows.now a.list.now.z a.d (part row_words a.list.now.ops.now (a.x * op_words)) c.if-list-d.true

pub returns-then-not-is_insert : goal.returns-then-not-is_insert
returns-then-not-is_insert c =
    let a = c.args in
    let e = sym (c.is_insert.ensures ∙ ap is_insert c.nth-row.ensures) ∙ c.if-not-is_insert.true in
    rw (c.id.ensures, c.nth-row.ensures, c.id-then-not-is_insert.ensures, c.op_row.ensures) (first-ids a.list.now.rows.now a.list.now.z a.d (part row_words a.list.now.ops.now (a.x * op_words)) c.if-list-d.false e)

pub returns-else-not-is_insert : goal.returns-else-not-is_insert
returns-else-not-is_insert c =
    let a = c.args in
    let e = sym (c.is_insert.ensures ∙ ap is_insert c.nth-row.ensures) ∙ c.if-not-is_insert.false in
    rw c.if-not-is_insert.false (first-insert a.list.now.rows.now a.list.now.z a.d (part row_words a.list.now.ops.now (a.x * op_words)) c.if-list-d.false e)
