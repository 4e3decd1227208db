use Rattle.refusal.proofs.Marks.{Marking}
use Rattle.refusal.proofs.known.mark.Given as goal

abbrev pub invariant-loop-i : goal.invariant-loop-i
invariant-loop-i l = Marking l.marks l.ops l.i
