use Rattle.model.specs.Sizes.{succ_words}
use Rattle.batch.specs.Entries.{counter_among, entries_of}
use Rattle.batch.proofs.Adding.{Adding}
use Rattle.batch.proofs.op_entries.op_entries.Given as goal

abbrev pub invariant-loop-q : goal.invariant-loop-q
invariant-loop-q l = Adding succ_words l.t (entries_of (counter_among l.rows l.ops) l.op) l.initial.out l.out l.q
