-- The first of a document's rows that has an id: its index, where it starts, and the row itself.
use Rattle.std.specs.Prelude.{ℕ, Bool, List, Option, Some, None, eqb, find, position}
use Rattle.model.specs.Row.{Row, id_of}
use Rattle.ids.specs.Words.{place_of}

abbrev pub has_id : ℕ → Row → Bool
has_id id r = eqb (id_of r) id

unfoldable pub first_row : List Row → ℕ → Option ℕ
first_row rows id = position (has_id id) rows

unfoldable pub found : List Row → ℕ → Option Row
found rows id = find (has_id id) rows

abbrev pub placed : List ℕ → Option ℕ → Option ℕ
placed rows (Some i) = Some (place_of rows i)
placed rows None = None
