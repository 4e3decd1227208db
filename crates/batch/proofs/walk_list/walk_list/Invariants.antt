use Rattle.batch.specs.Walks.{At, left}
use Rattle.batch.proofs.walk_list.walk_list.Given as goal

abbrev pub invariant-loop-at : goal.invariant-loop-at
invariant-loop-at l = At l.list l.stack l.order l.places l.at

abbrev pub decreases-loop-at : goal.decreases-loop-at
decreases-loop-at l = left l.list l.at
