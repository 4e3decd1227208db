use native.Mathlib.Omega.{arith}
use mathlib.Core.Path.{sym, ap, ◌∙◌}
use borrow.Author.Rules.{rules}
use Rattle.model.specs.Sizes.{row_words}
use Rattle.model.specs.Row.{id_of, is_insert}
use Rattle.batch.specs.Walk.{stacked}
use Rattle.batch.proofs.Copies.{piece-part}
use Rattle.batch.proofs.Walking.{row_small, row-left, Opened, opens, passes}
use Rattle.batch.proofs.walk_list.step_row.Goals as goal

pub open_element-opened-requires : goal.open_element-opened-requires
open_element-opened-requires c =
    let s = c in
    let a = s.args in
    let k = row-left a.list.now.rows.now a.list.now.a a.list.now.z a.list.now.ops.now a.list.now.group.now a.list.now.tags.now s.requires.0 s.requires.1 s.requires.2 s.requires.3 s.requires.4 in
    let e = c.id.ensures ∙ ap id_of (c.nth-next.ensures ∙ piece-part row_words a.list.now.rows.now a.at.row) in
    (s.requires.0.rising, rw e (row_small s.requires.0 s.requires.1.row_from k), omega (arith, s.requires.1.stack-room, k))

pub returns-then-is_insert : goal.returns-then-is_insert
returns-then-is_insert c =
    let s = c in
    let a = s.args in
    let h = row-left a.list.now.rows.now a.list.now.a a.list.now.z a.list.now.ops.now a.list.now.group.now a.list.now.tags.now s.requires.0 s.requires.1 s.requires.2 s.requires.3 s.requires.4 in
    let e = c.nth-next.ensures ∙ piece-part row_words a.list.now.rows.now a.at.row in
    let o = rw (c.id.ensures, e) at c.open_element-opened.ensures in
    let r = c.open_element-opened.result in
    let k : Opened a.list.now.rows.now a.list.now.a a.list.now.z a.list.now.ops.now a.list.now.group.now a.list.now.tags.now s.requires.0 s.requires.1 s.requires.2 (stacked a.stack.now a.at.depth) c.open_element-opened.new.stack r.first r.end r.depth _ =
    record { updates-from = o.0; updates-to = o.1; on-top = o.2; kept = search rules } in
    (opens a.list.now.rows.now a.list.now.a a.list.now.z a.list.now.ops.now a.list.now.group.now a.list.now.tags.now s.requires.0 s.requires.1 s.requires.2 s.requires.3 h s.requires.4 (sym (c.is_insert.ensures ∙ ap is_insert e) ∙ c.if-is_insert.true) c.open_element-opened.new.stack r.first r.end r.depth k o.3, omega (arith, h))

pub returns : goal.returns
returns c =
    let s = c in
    let a = s.args in
    let h = row-left a.list.now.rows.now a.list.now.a a.list.now.z a.list.now.ops.now a.list.now.group.now a.list.now.tags.now s.requires.0 s.requires.1 s.requires.2 s.requires.3 s.requires.4 in
    let e = c.nth-next.ensures ∙ piece-part row_words a.list.now.rows.now a.at.row in
    (passes a.list.now.rows.now a.list.now.a a.list.now.z a.list.now.ops.now a.list.now.group.now a.list.now.tags.now s.requires.0 s.requires.1 s.requires.2 s.requires.3 h (sym (c.is_insert.ensures ∙ ap is_insert e) ∙ c.if-is_insert.false), omega (arith, h))
