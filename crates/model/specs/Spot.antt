-- The insertion spot (01, "The rules", Insertion spot; "What comes back", 10 and 12).
use Rattle.std.specs.Prelude.{ℕ, ◌+◌, ◌-◌, Bool, not, ◌&&◌, List, [], ◌∷◌, leb, ltb, eqb, length, if◌then◌else◌}
use Rattle.model.specs.Basic.{flag, any, filter, up_to_last}
use Rattle.model.specs.Id.{head}
use Rattle.model.specs.Row.{Row, object_of, is_make_sequence, rows_with, element_of}
use Rattle.model.specs.Order.{elements}
use Rattle.model.specs.Document.{Document}
use Rattle.model.specs.Visible.{visible}
use Rattle.model.specs.Answer.{Answer, ◌otherwise◌, refuse}

-- is o a list of the document, whatever became of its Make row?
unfoldable pub is_list_of : Document → ℕ → Bool
is_list_of d o = any is_make_sequence (rows_with d.rows o)

-- is r a row of element e of list o?
unfoldable pub row_at : ℕ → ℕ → Row → Bool
row_at o e r = eqb (object_of r) o && eqb (element_of r) e

-- how far element e of list o counts towards a target: 1 where it has a visible row
unfoldable pub width : List ℕ → Document → ℕ → ℕ → ℕ
width clock d o e = flag (any (λ r. row_at o e r && visible clock d r) d.rows)

-- the width of all elements, "the number of visible elements"
abbrev pub widths : (ℕ → ℕ) → List ℕ → ℕ
widths w [] = 0
widths w (e ∷ es) = w e + widths w es

-- the first element whose running width reaches the target: "the n-th visible element"
abbrev pub reaching : (ℕ → ℕ) → ℕ → List ℕ → ℕ
reaching w target [] = head
reaching w target (e ∷ es) = if leb target (w e) then e else reaching w (target - w e) es

-- "the place of the list's first row, or where that row would stand": behind the rows of all objects before it
unfoldable pub first_place : Document → ℕ → ℕ
first_place d o = length (filter (λ r. ltb (object_of r) o) d.rows)

-- "the place just after all its rows"
unfoldable pub place_after : Document → ℕ → ℕ → ℕ
place_after d o e = length (up_to_last (row_at o e) d.rows)

-- "target 0 gives HEAD .. Target n .. gives the n-th visible element"
unfoldable pub spot_element : List ℕ → Document → ℕ → ℕ → ℕ
spot_element clock d o target =
    if eqb target 0 then head else reaching (width clock d o) target (elements d.rows o)

unfoldable pub spot_place : Document → ℕ → ℕ → ℕ
spot_place d o e = if eqb e head then first_place d o else place_after d o e

-- 12: "object is no list of the document". 10: "target above the visible elements".
unfoldable pub spot_refusal : List ℕ → Document → ℕ → ℕ → Answer
spot_refusal clock d o target =
    refuse 12 (not (is_list_of d o))
    otherwise refuse 10 (ltb (widths (width clock d o) (elements d.rows o)) target)
