use Rattle.std.proofs.Common.{length}
use Rattle.found_op.specs.Showable.{document}
use Rattle.found_op.proofs.Picturing.{Picturing}
use Rattle.found_op.proofs.picture.show.Given as goal

abbrev pub invariant-loop-rest : goal.invariant-loop-rest
invariant-loop-rest l = Picturing l.clock (document l.rows l.succs) l.initial.out l.rest l.out l.k

abbrev pub decreases-loop-rest : goal.decreases-loop-rest
decreases-loop-rest l = length l.rest
