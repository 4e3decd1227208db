-- Where a list's rows lie.
use Rattle.std.specs.Prelude.{ℕ, suc, ◌≤◌, ◌<◌, ◌≡◌, Bool, false, ◌&&◌, eqb, List, [], length, get_or, map}
use Rattle.model.specs.Row.{Row, Succ, id_of, is_make_sequence, object_of, is_insert, element_of}
use Rattle.model.specs.Order.{inserts, elements}
use Rattle.model.specs.Document.{Document}
use Rattle.visible.specs.Scope.{Ascends}

-- the document of two tables
abbrev pub document : List Row → List Succ → Document
document rows succs = record { rows = rows; succs = succs }

-- the row that makes a list
unfoldable pub makes : ℕ → Row → Bool
makes list r = eqb (id_of r) list && is_make_sequence r

-- r is the place of the list's first row
pub record ListStart (rows : List Row) (list r : ℕ) : Type 0 where
  pub within : r ≤ length rows
  pub below : (j : ℕ) → j < r → object_of (get_or rows j []) < list
  pub ends : r < length rows → list ≤ object_of (get_or rows r [])

-- r is the end of the rows of the list that start at `first`
pub record ListEnd (rows : List Row) (first list r : ℕ) : Type 0 where
  pub after : first ≤ r
  pub within : r ≤ length rows
  pub own : (j : ℕ) → first ≤ j → j < r → object_of (get_or rows j []) ≡ list
  pub ends : r < length rows → object_of (get_or rows r []) ≡ list → ⊥

-- What the walk goes by, of a list of a well-formed document. Objects ascend; a row that is no insert has the element of the row before it; ids tell
-- rows apart, and none is HEAD; the insert rows stand as the elements do.
pub record Listed (rows : List Row) (list : ℕ) : Type 0 where
  pub rising : (i j : ℕ) → i < j → j < length rows → object_of (get_or rows i []) ≤ object_of (get_or rows j [])
  pub follows : (j : ℕ) → j < length rows → object_of (get_or rows j []) ≡ list → is_insert (get_or rows j []) ≡ false
      → (i : ℕ) × (j ≡ suc i) × (object_of (get_or rows i []) ≡ list) × (element_of (get_or rows j []) ≡ element_of (get_or rows i []))
  pub apart : (i j : ℕ) → i < length rows → j < length rows → id_of (get_or rows i []) ≡ id_of (get_or rows j []) → i ≡ j
  pub no-head : (i : ℕ) → i < length rows → 0 < id_of (get_or rows i [])
  pub preordered : elements rows list ≡ map id_of (inserts rows list)

-- The list, its rows, and its document's successors.
pub record Walkable (rows : List Row) (succs : List Succ) (list first end : ℕ) : Type 0 where
  pub listed : Listed rows list
  pub start : ListStart rows list first
  pub finish : ListEnd rows first list end
  pub ascend : Ascends succs
