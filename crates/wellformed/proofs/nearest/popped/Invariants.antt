use Rattle.wellformed.proofs.StackWalk.{Popping}
use Rattle.wellformed.proofs.nearest.popped.Given as goal

abbrev pub invariant-loop-k : goal.invariant-loop-k
invariant-loop-k l = Popping l.id l.room l.depth l.k

abbrev pub decreases-loop-k : goal.decreases-loop-k
decreases-loop-k l = l.k
