use Rattle.batch.proofs.AllEntries.{all_start, all_room, all-turn, all_end}
use borrow.Author.Rules.{rules}
use native.Mathlib.Omega.{arith}
use Rattle.batch.proofs.write_entries.write_entries.Goals as goal

pub loop-i-init : goal.loop-i-init
loop-i-init c = all_start c.requires

pub op_entries-t-requires : goal.op_entries-t-requires
op_entries-t-requires c = rw c.get.ensures (all_room c.loop-i.invariant (omega arith))

pub loop-i-preserved : goal.loop-i-preserved
loop-i-preserved c =
    let e = rw c.get.ensures at c.op_entries-t.ensures in
    all-turn c.loop-i.invariant (omega arith) (search rules) e.0 e.1 e.2

pub returns : goal.returns
returns c = all_end c.loop-i.invariant (omega arith)
