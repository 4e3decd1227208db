-- The document check as one function, from all that is lent and claimed to the answer and the working room.
use Rattle.std.specs.Prelude.{ℕ, Bool, false, not, ◌&&◌, ◌||◌, List, ltb, if◌then◌else◌}
use Rattle.model.specs.Sizes.{max_rows, max_succs}
use Rattle.model.specs.Row.{Row, Succ}
use Rattle.model.specs.Document.{Document}
use Rattle.model.specs.Calls.{document_in, document_sized, cleared}
use Rattle.model.specs.WellFormed.{no_delete, rows_pass, ids_differ, in_order, succs_ascend, owners_stand, succ_rows_fit, deletes_fit, succs_few, increments_stand, increments_right, well_formed}

-- a document of these rows and successors
abbrev pub document_of : List Row → List Succ → Document
document_of rows succs = record { rows = rows; succs = succs }

-- ---- the rules, in the code's order

unfoldable pub rows_right : Document → Bool
rows_right d = no_delete d && ids_differ d && rows_pass d

unfoldable pub succs_right : Document → Bool
succs_right d =
    succs_ascend d
    && owners_stand d
    && succ_rows_fit d
    && deletes_fit d
    && succs_few d
    && increments_stand d
    && increments_right d

unfoldable pub rules_hold : Document → Bool
rules_hold d = rows_right d && succs_right d && in_order d

-- ---- the check

-- the claims as numbers, then the document
unfoldable pub fits_claims : (n : ℕ) (rows : List ℕ) (m : ℕ) (succs : List ℕ) → Bool
fits_claims n rows m succs = not (ltb max_rows n || ltb max_succs m) && well_formed (document_in n rows m succs)

pub record CheckBack : Type 0 where
  pub answer : Bool
  pub room : List ℕ

abbrev pub back : Bool → List ℕ → CheckBack
back answer room = record { answer = answer; room = room }

-- lent slices of other sizes stay as they are
unfoldable pub check_call : (n : ℕ) (rows : List ℕ) (m : ℕ) (succs room : List ℕ) → CheckBack
check_call n rows m succs room =
    if not (document_sized rows succs room)
    then back false room
    else back (fits_claims n rows m succs) (cleared room)
