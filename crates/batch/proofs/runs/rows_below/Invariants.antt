use mathlib.Core.List.{map}
use Prim.Native.Nat.{◌-◌}
use Rattle.model.specs.Row.{object_of}
use Rattle.batch.specs.Walk.{doc_from}
use Rattle.batch.proofs.Halving.{Halving}
use Rattle.batch.proofs.runs.rows_below.Given as goal

abbrev pub invariant-loop-from : goal.invariant-loop-from
invariant-loop-from l = Halving l.object (map object_of (doc_from l.rows l.n 0)) l.from l.to

abbrev pub decreases-loop-from : goal.decreases-loop-from
decreases-loop-from l = l.to - l.from
