-- What check 4 asks of an operation's predecessors, in part.
use Rattle.std.specs.Prelude.{ℕ, Bool, ◌&&◌, ◌||◌, ltb, eqb, length}
use Rattle.model.specs.Basic.{◌implies◌}
use Rattle.model.specs.Row.{Op, is_insert, is_delete, is_increment, pred_count_of, preds_of}

-- how many predecessors can be read: the count, or all slots
unfoldable pub readable : Op → ℕ
readable o = length (preds_of o)

-- an insert has none; a Delete or an Increment has some
unfoldable pub count_fits : Op → Bool
count_fits o = (is_insert o implies eqb (pred_count_of o) 0) && ((is_delete o || is_increment o) implies ltb 0 (pred_count_of o))
