use Rattle.visible.specs.Scope.{covers}
use Rattle.visible.proofs.Totals.{Summing}
use Rattle.visible.proofs.sum.counter_total.Given as goal

abbrev pub invariant-loop-entry : goal.invariant-loop-entry
invariant-loop-entry l = Summing (covers l.clock l.id) l.initial.sum l.succs l.entry-iterator l.sum
