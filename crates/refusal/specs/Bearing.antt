-- Checks 6 to 8 by the rows that an operation names: each asks that the id is smaller than the operation's and that some row of document or
-- batch has it and bears what the check wants.
use Rattle.std.specs.Prelude.{ℕ, Bool, not, ◌&&◌, ◌||◌, List, ltb, eqb, if◌then◌else◌}
use Rattle.model.specs.Basic.{any, all}
use Rattle.model.specs.Id.{root, head}
use Rattle.model.specs.Kinds.{make_map, make_list}
use Rattle.model.specs.Row.{Row, Op, id_of, object_of, on_list, named_of, is_insert, action_of, is_set_or_make, row_of}
use Rattle.ids.specs.Words.{same_words}

-- the kind of object that a key of x is a key of; an insert of x's object; a Set or Make of x's object and key, by words
unfoldable pub makes_for : Row → Row → Bool
makes_for r x = eqb (action_of r) (if on_list x then make_list else make_map)

unfoldable pub insert_for : Row → Row → Bool
insert_for r x = is_insert r && eqb (object_of r) (object_of x)

unfoldable pub stands_for : Row → Row → Bool
stands_for r x = is_set_or_make r && same_words r x

-- what the check of a number asks of the row r that x names
unfoldable pub bears : ℕ → Row → Row → Bool
bears number r x = if eqb number 6 then makes_for r x else if eqb number 7 then insert_for r x else stands_for r x

unfoldable pub bearing : ℕ → Row → ℕ → Row → Bool
bearing number x id r = eqb (id_of r) id && bears number r x

-- of rows
unfoldable pub bearer_in : ℕ → Row → ℕ → List Row → Bool
bearer_in number x id rs = any (bearing number x id) rs

-- of operations, each by its row
abbrev pub op_bears : ℕ → Row → ℕ → List Op → Bool
op_bears number x id b = any (λ o. bearing number x id (row_of o)) b

-- a row's, or an operation's row
unfoldable pub refers_well : ℕ → List Row → List Op → Row → ℕ → Bool
refers_well number rs b x id = ltb id (id_of x) && (bearer_in number x id rs || op_bears number x id b)

unfoldable pub object_right : List Row → List Op → Row → Bool
object_right rs b x =
    if on_list x
    then refers_well 6 rs b x (object_of x)
    else not (is_insert x) && (eqb (object_of x) root || refers_well 6 rs b x (object_of x))

unfoldable pub element_right : List Row → List Op → Row → Bool
element_right rs b x = eqb (named_of x) head || refers_well 7 rs b x (named_of x)

unfoldable pub preds_right : List Row → List Op → Row → List ℕ → Bool
preds_right rs b x ps = all (refers_well 8 rs b x) ps
