use Prim.Native.Nat.{◌+◌, ◌-◌}
use lib.ListN.{length}
use Rattle.batch.proofs.FoundWords.{FindingWords}
use Rattle.batch.proofs.find_places.find_places.Given as goal

abbrev pub invariant-loop-j : goal.invariant-loop-j
invariant-loop-j l = FindingWords l.w l.n l.key l.old l.new l.order l.initial.places l.places l.s l.j

abbrev pub decreases-loop-j : goal.decreases-loop-j
decreases-loop-j l = l.n + length l.order - (l.s + l.j)
