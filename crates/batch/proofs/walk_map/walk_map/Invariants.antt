use Prim.Native.Nat.{◌+◌, ◌-◌}
use lib.ListN.{length}
use Rattle.batch.proofs.MapWalking.{Mapping}
use Rattle.batch.proofs.walk_map.walk_map.Given as goal

abbrev pub invariant-loop-o : goal.invariant-loop-o
invariant-loop-o l = Mapping l.rows l.a l.z l.ops l.group l.order l.places l.d l.o

abbrev pub decreases-loop-o : goal.decreases-loop-o
decreases-loop-o l = length l.group - l.o + (l.z - l.d)
