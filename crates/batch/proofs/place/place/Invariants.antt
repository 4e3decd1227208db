use Prim.Native.Nat.{◌+◌}
use Rattle.batch.proofs.PlacedWords.{Inserting}
use Rattle.batch.proofs.place.place.Given as goal

abbrev pub invariant-loop-j : goal.invariant-loop-j
invariant-loop-j l = Inserting l.w l.n l.stride l.initial.table l.src l.order l.places l.table l.s l.j

abbrev pub decreases-loop-j : goal.decreases-loop-j
decreases-loop-j l = l.s + l.j
