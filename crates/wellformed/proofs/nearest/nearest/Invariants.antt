use lib.ListN.{length}
use Rattle.wellformed.proofs.StackWalk.{Walking}
use Rattle.wellformed.proofs.nearest.nearest.Given as goal

abbrev pub invariant-loop-row : goal.invariant-loop-row
invariant-loop-row l = Walking l.rows (length l.initial.room) l.room l.last l.depth l.row-iterator
