use Prim.Native.Nat.{◌-◌}
use Rattle.visible.proofs.Searches.{Halving}
use Rattle.visible.proofs.entries.first_of.Given as goal

abbrev pub invariant-loop-low : goal.invariant-loop-low
invariant-loop-low l = Halving l.id l.succs l.low l.high

abbrev pub decreases-loop-low : goal.decreases-loop-low
decreases-loop-low l = l.high - l.low
