use Rattle.insert.proofs.Walking.{Rows, Walking}
use Prim.Native.Nat.{◌-◌}
use mathlib.Core.Path.{◌≡◌}
use Rattle.insert.proofs.spot.walk.Given as goal

abbrev pub invariant-loop-place : goal.invariant-loop-place
invariant-loop-place l = Rows l.clock l.rows l.succs l.list l.end l.start l.shows l.place × (l.left ≡ l.initial.left)

abbrev pub decreases-loop-place : goal.decreases-loop-place
decreases-loop-place l = l.end - l.place

abbrev pub invariant-walk : goal.invariant-walk
invariant-walk l = Walking l.clock l.rows l.succs l.list l.first l.end l.target l.element l.left l.place

abbrev pub decreases-walk : goal.decreases-walk
decreases-walk l = l.end - l.place
