use Rattle.batch.proofs.SuccsWritten.{entries-room, t-few, entries_fit, succs-written}
use borrow.Author.Rules.{rules}
use Rattle.batch.proofs.write_succs.write_succs.Goals as goal

pub write_entries-t-requires : goal.write_entries-t-requires
write_entries-t-requires c =
    let a = c.args in
    let p = c.requires in
    rw (c.new.ensures, c.new-2.ensures) (entries-room a.n a.rows.now a.m a.succs.now a.k a.ops.now p.5 _ p.3)

pub merge_entries-requires : goal.merge_entries-requires
merge_entries-requires c =
    let a = c.args in
    let p = c.requires in
    let e = rw (c.new.ensures, c.new-2.ensures) at c.write_entries-t.ensures in
    (entries_fit a.n a.rows.now a.m a.succs.now a.k a.ops.now p.5 e.0 _ e.1 p.2 (search rules), t-few a.n a.rows.now a.m a.succs.now a.k a.ops.now p.5 e.0)

pub returns : goal.returns
returns c =
    let a = c.args in
    let p = c.requires in
    let e = rw (c.new.ensures, c.new-2.ensures) at c.write_entries-t.ensures in
    succs-written a.n a.rows.now a.m a.succs.now a.k a.ops.now p.5 e.0 _ e.1 p.4 p.2 (search rules) c.merge_entries.ensures
