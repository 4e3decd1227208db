-- A document, and what merging a batch makes of it (01, "The rules", Successors and Order).
use Rattle.std.specs.Prelude.{ℕ, Bool, not, ◌&&◌, ◌||◌, List, [], ◌∷◌, ◌++◌, map, ltb, eqb, if◌then◌else◌}
use Rattle.model.specs.Basic.{any, filter, sort, concat_map}
use Rattle.model.specs.Row.{Row, Op, Succ, id_of, value_of, is_delete, is_increment, is_counter, rows_with, row_of, preds_of, owner_of, succ_of}
use Rattle.model.specs.Order.{order}

pub record Document : Type 0 where
  pub rows : List Row
  pub succs : List Succ

abbrev pub empty : Document
empty = record { rows = []; succs = [] }

-- "A Delete leaves successors and no row."
unfoldable pub new_rows : List Op → List Row
new_rows b = map row_of (filter (λ o. not (is_delete o)) b)

-- the rows of document and batch together
unfoldable pub all_rows : Document → List Op → List Row
all_rows d b = d.rows ++ new_rows b

-- "An Increment's successor entry carries its number if the predecessor's value is a counter, otherwise none"
unfoldable pub entry : List Row → Op → ℕ → Succ
entry rs o p =
    if is_increment o && any is_counter (rows_with rs p)
    then p ∷ id_of o ∷ 1 ∷ value_of o ∷ []
    else p ∷ id_of o ∷ 0 ∷ 0 ∷ []

-- "Every operation becomes a successor of each of its predecessors"
unfoldable pub new_succs : List Row → List Op → List Succ
new_succs rs b = concat_map (λ o. map (entry rs o) (preds_of o)) b

-- the successors of document and batch together
unfoldable pub all_succs : Document → List Op → List Succ
all_succs d b = d.succs ++ new_succs (all_rows d b) b

-- "successors ascend by id"; a row's stand together
unfoldable pub succ_before : Succ → Succ → Bool
succ_before s t = ltb (owner_of s) (owner_of t) || eqb (owner_of s) (owner_of t) && ltb (succ_of s) (succ_of t)

unfoldable pub merged : Document → List Op → Document
merged d b = record { rows = order (all_rows d b); succs = sort succ_before (all_succs d b) }
