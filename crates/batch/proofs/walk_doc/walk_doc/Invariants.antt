use Prim.Native.Nat.{◌-◌}
use lib.ListN.{length}
use Rattle.batch.specs.Walks.{Between}
use Rattle.batch.proofs.walk_doc.walk_doc.Given as goal

abbrev pub invariant-loop-lo : goal.invariant-loop-lo
invariant-loop-lo l = Between l.news l.order l.places l.lo

abbrev pub decreases-loop-lo : goal.decreases-loop-lo
decreases-loop-lo l = length l.news.sorted.now - l.lo
