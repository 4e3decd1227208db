use Rattle.model.specs.Row.{object_of}
use Rattle.batch.proofs.Columns.{Numbered}
use Rattle.batch.proofs.group_words.write_objects.Given as goal

abbrev pub invariant-loop-j : goal.invariant-loop-j
invariant-loop-j l = Numbered object_of l.ops l.group l.initial.objects l.objects l.j
