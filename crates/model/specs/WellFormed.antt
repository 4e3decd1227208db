-- Well-formed documents (01, the section of that name; refusal 2): a rule for each of its sentences, in 01's order.
use Rattle.std.specs.Prelude.{Bool, not, ◌&&◌, List, map, leb, ltb, eqb, length, if◌then◌else◌}
use Rattle.model.specs.Basic.{◌implies◌, any, all, filter, member, distinct, ascends, same_all}
use Rattle.model.specs.Sizes.{max_rows, max_succs, max_preds}
use Rattle.model.specs.Id.{is_id}
use Rattle.model.specs.Row.{Row, Succ, id_of, value_of, is_insert, is_delete, is_increment, is_set_or_make, is_counter, owner_of, succ_of, carries_of, carried_of, rows_with}
use Rattle.model.specs.Key.{same_key}
use Rattle.model.specs.Order.{order}
use Rattle.model.specs.Document.{Document, succ_before}
use Rattle.model.specs.Malformed.{row_fits}
use Rattle.model.specs.Refusal.{object_fits, element_fits}

-- the row that an entry belongs to; the row that its successor has
abbrev pub owner_rows : Document → Succ → List Row
owner_rows d s = rows_with d.rows (owner_of s)

abbrev pub succ_rows : Document → Succ → List Row
succ_rows d s = rows_with d.rows (succ_of s)

-- "Counts within limits"
unfoldable pub counts_fit : Document → Bool
counts_fit d = leb (length d.rows) max_rows && leb (length d.succs) max_succs

-- "no row is a Delete"
unfoldable pub no_delete : Document → Bool
no_delete d = all (λ r. not (is_delete r)) d.rows

-- "each row passes checks 4, 6 and 7 against the rows"
unfoldable pub rows_pass : Document → Bool
rows_pass d = all (λ r. row_fits r && object_fits d.rows r && element_fits d.rows r) d.rows

-- "row ids differ"
unfoldable pub ids_differ : Document → Bool
ids_differ d = distinct (map id_of d.rows)

-- "rows stand in order"
unfoldable pub in_order : Document → Bool
in_order d = same_all (order d.rows) d.rows

-- "Successors strictly ascend and exceed their row's id"
unfoldable pub succs_ascend : Document → Bool
succs_ascend d = ascends succ_before d.succs && all (λ s. ltb (owner_of s) (succ_of s)) d.succs

-- "Increment rows have none": those that have some are Set or Make rows
unfoldable pub owners_stand : Document → Bool
owners_stand d = all (λ s. any is_set_or_make (owner_rows d s)) d.succs

-- "A successor that has a row is a non-insert row of the same object and key."
unfoldable pub succ_rows_fit : Document → Bool
succ_rows_fit d = all (λ s. all (λ r. not (is_insert r) && all (same_key r) (owner_rows d s)) (succ_rows d s)) d.succs

-- "One that has none (a Delete) has an id in range and stands only in rows of one object and key."
unfoldable pub one_key : Document → Succ → Succ → Bool
one_key d s t = eqb (succ_of s) (succ_of t) implies all (λ r. all (same_key r) (owner_rows d t)) (owner_rows d s)

unfoldable pub deletes_fit : Document → Bool
deletes_fit d = all (λ s. not (member (succ_of s) (map id_of d.rows)) implies (is_id (succ_of s) && all (one_key d s) d.succs)) d.succs

-- "No id is a successor of more than 16 rows."
unfoldable pub succs_few : Document → Bool
succs_few d = all (λ s. leb (length (filter (λ t. eqb (succ_of t) (succ_of s)) d.succs)) max_preds) d.succs

-- "Every Increment row is a successor of some row."
unfoldable pub increments_stand : Document → Bool
increments_stand d = all (λ r. is_increment r implies member (id_of r) (map succ_of d.succs)) d.rows

-- "The increment is present exactly for a counter's Increment successor, with its number; where absent its field is zero."
unfoldable pub carries_right : Document → Succ → Bool
carries_right d s =
    if any is_counter (owner_rows d s) && any is_increment (succ_rows d s)
    then eqb (carries_of s) 1 && any (λ r. eqb (value_of r) (carried_of s)) (succ_rows d s)
    else eqb (carries_of s) 0 && eqb (carried_of s) 0

unfoldable pub increments_right : Document → Bool
increments_right d = all (carries_right d) d.succs

unfoldable pub well_formed : Document → Bool
well_formed d =
    counts_fit d
    && no_delete d
    && rows_pass d
    && ids_differ d
    && in_order d
    && succs_ascend d
    && owners_stand d
    && succ_rows_fit d
    && deletes_fit d
    && succs_few d
    && increments_stand d
    && increments_right d
