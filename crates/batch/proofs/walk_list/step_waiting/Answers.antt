use native.Mathlib.Omega.{arith}
use borrow.Author.Rules.{rules}
use Rattle.batch.specs.Walk.{stacked, top_of, doc_from, new_rows_of}
use Rattle.batch.proofs.Stacked.{top_in}
use Rattle.batch.proofs.Walking.{some-waits, op-small, Opened, puts-waiting}
use Rattle.batch.proofs.walk_list.step_waiting.Goals as goal

pub top-x-requires : goal.top-x-requires
top-x-requires c =
    let s = c in
    let a = s.args in
    (some-waits (new_rows_of a.list.now.ops.now a.list.now.group.now) a.stack.now a.at.depth (doc_from a.list.now.rows.now a.list.now.z a.at.row) s.requires.4, omega (arith, s.requires.1.stack-room), s.requires.1.stack-in)

pub pop-left-requires : goal.pop-left-requires
pop-left-requires c =
    let s = c in
    let a = s.args in
    (some-waits (new_rows_of a.list.now.ops.now a.list.now.group.now) a.stack.now a.at.depth (doc_from a.list.now.rows.now a.list.now.z a.at.row) s.requires.4, omega (arith, s.requires.1.stack-room))

pub open_element-opened-requires : goal.open_element-opened-requires
open_element-opened-requires c =
    let s = c in
    let a = s.args in (
      s.requires.0.rising,
      rw (c.id.ensures, c.op_row.ensures, c.top-x.ensures) (op-small s.requires.0 (top_of a.stack.now a.at.depth) (top_in a.stack.now a.at.depth _ (some-waits (new_rows_of a.list.now.ops.now a.list.now.group.now) a.stack.now a.at.depth (doc_from a.list.now.rows.now a.list.now.z a.at.row) s.requires.4) s.requires.1.stack-in)),
      omega (arith, s.requires.1.stack-room, s.requires.2, c.pop-left.ensures.1),
    )

pub returns : goal.returns
returns c =
    let s = c in
    let a = s.args in
    let t = c.top-x.ensures in
    let p = c.pop-left.ensures in
    let o = rw (c.id.ensures, c.op_row.ensures) at c.open_element-opened.ensures in
    let r = c.open_element-opened.result in
    let k : Opened a.list.now.rows.now a.list.now.a a.list.now.z a.list.now.ops.now a.list.now.group.now a.list.now.tags.now s.requires.0 s.requires.1 s.requires.2 (stacked c.pop-left.new.stack c.pop-left.result) c.open_element-opened.new.stack r.first r.end r.depth _ =
    record { updates-from = o.0; updates-to = o.1; on-top = o.2; kept = search rules } in
    (puts-waiting a.list.now.rows.now a.list.now.a a.list.now.z a.list.now.ops.now a.list.now.group.now a.list.now.tags.now s.requires.0 s.requires.1 s.requires.2 s.requires.3 s.requires.4 c.pop-left.new.stack c.open_element-opened.new.stack c.pop-left.result r.first r.end r.depth c.top-x.result t p.0 p.1 k o.3, omega (arith, s.requires.2))
