-- What a group of rows shows, by one pass that finds its visible rows and one that shows them.
use Rattle.std.specs.Prelude.{ℕ, List, [], ◌∷◌, map, length, get_or, Option, Some, None, Result, Ok, Err}
use Rattle.std.specs.List.{prefix_len}
use Rattle.model.specs.Basic.{filter, concat_map, last}
use Rattle.model.specs.Row.{Row, Succ, id_of}
use Rattle.ids.specs.Words.{same_words}
use Rattle.visible.specs.declared.sum.Outgrown.{Outgrown}
use Rattle.visible.specs.Scope.{scope, owned, seen_in}
use Rattle.visible.specs.Scoped.{scoped}
use Rattle.found_op.specs.declared.group.Found.{Found}
use Rattle.found_op.specs.Entry.{entry_of}

-- how many rows at the start have the first one's key
unfoldable pub group_length : List Row → ℕ
group_length rows = prefix_len (same_words (get_or rows 0 [])) rows

-- how many rows are visible, and the id of the last
abbrev pub found_in : List Row → Found
found_in vs = record { count = length vs; winner = last (map id_of vs) }

-- the entries of a row: one, or none where it is hidden
abbrev pub entries_of : Found → Row → Result (Option ℕ) Outgrown → List (List ℕ)
entries_of f r (Ok None) = []
entries_of f r (Ok (Some value)) = entry_of r f (Ok value) ∷ []
entries_of f r (Err o) = entry_of r f (Err o) ∷ []

unfoldable pub row_shown : List ℕ → List Succ → Found → Row → List (List ℕ)
row_shown clock succs f r = entries_of f r (scoped clock (scope (owned succs r)) r)

unfoldable pub group_shown : List ℕ → List Succ → List Row → List (List ℕ)
group_shown clock succs group = concat_map (row_shown clock succs (found_in (filter (seen_in clock succs) group))) group
