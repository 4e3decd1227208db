use Rattle.batch.specs.Entries.{counter_among}
use Rattle.batch.proofs.AllEntries.{AllEntering}
use Rattle.batch.proofs.write_entries.write_entries.Given as goal

abbrev pub invariant-loop-i : goal.invariant-loop-i
invariant-loop-i l = AllEntering (counter_among l.rows l.ops) l.ops l.initial.out l.out l.i l.t
