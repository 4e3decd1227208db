-- Checks 4 to 8 of one operation by their numbers, and the counts of check 9.
use Rattle.std.specs.Prelude.{ℕ, ◌+◌, Bool, not, ◌&&◌, List, [], ◌∷◌, Option, None, Some, eqb, if◌then◌else◌}
use Rattle.model.specs.Basic.{flag}
use Rattle.model.specs.Row.{Row, Op, Succ, id_of, is_delete, row_of, preds_of}
use Rattle.model.specs.Malformed.{row_fits, preds_fit}
use Rattle.model.specs.Answer.{Answer, accepted, refused}
use Rattle.refusal.specs.TakenIds.{taken}
use Rattle.refusal.specs.Bearing.{object_right, element_right, preds_right}

unfoldable pub malformed : Op → Bool
malformed o = not (row_fits o && preds_fit o)

unfoldable pub fails : ℕ → List Row → List Succ → List Op → List Op → Op → Bool
fails number rs ss b earlier o =
    if eqb number 4 then malformed o
    else if eqb number 5 then taken earlier rs ss (id_of o)
    else if eqb number 6 then not (object_right rs b (row_of o))
    else if eqb number 7 then not (element_right rs b (row_of o))
    else not (preds_right rs b (row_of o) (preds_of o))

-- by the place of the first that fails, if one does
abbrev pub refused_at : ℕ → Option ℕ → Answer
refused_at number None = accepted []
refused_at number (Some place) = refused number place

-- ---- what a batch adds

-- a row, or none
unfoldable pub adds : Op → ℕ
adds o = flag (not (is_delete o))

abbrev pub total_of : (Op → ℕ) → List Op → ℕ
total_of f [] = 0
total_of f (o ∷ b) = f o + total_of f b

unfoldable pub sum_of : (Op → ℕ) → List Op → ℕ
sum_of f b = total_of f b
