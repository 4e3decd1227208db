use mathlib.Core.Path.{sym, ◌∙◌}
use native.Mathlib.Omega.{arith}
use Rattle.wellformed.proofs.Refusal.{tells, leaves}
use Rattle.batch.proofs.MergeCalls.{misfit-document, misfit-batch, not-formed, fit-to-merge, cleared-twice, call_ends}
use Rattle.batch.proofs.call.merge.Goals as goal

pub returns-then-not-document_sized : goal.returns-then-not-document_sized
returns-then-not-document_sized c =
    let a = c.args in
    rw c.into.ensures (misfit-document a.row_count a.rows.now a.succ_count a.succs.now a.op_count a.batch.now a.room.now (sym c.document_sized.ensures ∙ c.if-not-document_sized.true))

pub returns-then-not-batch_sized : goal.returns-then-not-batch_sized
returns-then-not-batch_sized c =
    let a = c.args in
    rw c.into-then-not-batch_sized.ensures (misfit-batch a.row_count a.rows.now a.succ_count a.succs.now a.op_count a.batch.now a.room.now (sym c.document_sized.ensures ∙ c.if-not-document_sized.false) (sym c.batch_sized.ensures ∙ c.if-not-batch_sized.true))

pub returns-then-not-check_document : goal.returns-then-not-check_document
returns-then-not-check_document c =
    let a = c.args in
    let s = sym c.document_sized.ensures ∙ c.if-not-document_sized.false in
    let k = c.check_document.ensures in
    rw c.into-then-not-check_document.ensures (not-formed a.row_count a.rows.now a.succ_count a.succs.now a.op_count a.batch.now a.room.now s (sym c.batch_sized.ensures ∙ c.if-not-batch_sized.false)
    (sym (tells a.row_count a.rows.now a.succ_count a.succs.now a.room.now s k) ∙ c.if-not-check_document.true)
    (leaves a.row_count a.rows.now a.succ_count a.succs.now a.room.now s k))

pub merge_or_refuse-requires : goal.merge_or_refuse-requires
merge_or_refuse-requires c =
    let a = c.args in
    let s = sym c.document_sized.ensures ∙ c.if-not-document_sized.false in
    let k = c.check_document.ensures in (
      fit-to-merge a.row_count a.rows.now a.succ_count a.succs.now a.op_count a.batch.now a.room.now s (sym c.batch_sized.ensures ∙ c.if-not-batch_sized.false) (sym (tells a.row_count a.rows.now a.succ_count a.succs.now a.room.now s k) ∙ c.if-not-check_document.false) (omega arith),
      rw (leaves a.row_count a.rows.now a.succ_count a.succs.now a.room.now s k) (cleared-twice a.room.now),
    )

pub returns : goal.returns
returns c =
    let a = c.args in
    let s = sym c.document_sized.ensures ∙ c.if-not-document_sized.false in
    let k = c.check_document.ensures in
    call_ends a.row_count a.rows.now a.succ_count a.succs.now a.op_count a.batch.now a.room.now s (sym c.batch_sized.ensures ∙ c.if-not-batch_sized.false)
    (sym (tells a.row_count a.rows.now a.succ_count a.succs.now a.room.now s k) ∙ c.if-not-check_document.false)
    (leaves a.row_count a.rows.now a.succ_count a.succs.now a.room.now s k) c.merge_or_refuse.ensures
