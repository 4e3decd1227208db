use Rattle.batch.specs.Walk.{tag_of}
use Rattle.batch.proofs.Columns.{Numbered}
use Rattle.batch.proofs.group_words.write_tags.Given as goal

abbrev pub invariant-loop-j : goal.invariant-loop-j
invariant-loop-j l = Numbered tag_of l.ops l.group l.initial.tags l.tags l.j
