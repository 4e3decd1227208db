use Rattle.visible.specs.Scope.{seen_in}
use Rattle.found_op.proofs.Counts.{Counting}
use Rattle.found_op.proofs.group.found_in.Given as goal

abbrev pub invariant-loop-row : goal.invariant-loop-row
invariant-loop-row l = Counting (seen_in l.clock l.succs) l.group l.row-iterator l.found
