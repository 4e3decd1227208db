use mathlib.Core.Path.{sym, ◌∙◌}
use Rattle.batch.proofs.EntryWords.{entry_plain}
use Rattle.batch.specs.Entries.{counter_among}
use Rattle.batch.proofs.op_entries.counter_for.Goals as goal

pub returns-else-does : goal.returns-else-does
returns-else-does c =
    let a = c.args in
    rw c.if-does.false (entry_plain a.op.now a.p (counter_among a.rows.now a.ops.now a.p) (rw c.row.ensures at (sym c.does.ensures ∙ c.if-does.false)))
