use Rattle.wellformed.proofs.Differ.{Differs}
use Rattle.wellformed.proofs.rows_alone.ids_differ.Given as goal

abbrev pub invariant-loop-row : goal.invariant-loop-row
invariant-loop-row l = Differs l.rows l.rest
