-- Checks 6 and 7 over the rows found for the object and for the element: `object_fits rs r` is `object_in (rows_with rs (object_of r)) r`, and so is
-- `element_fits`.
use Rattle.std.specs.Prelude.{ℕ, Bool, not, ◌&&◌, ◌||◌, List, [], ◌∷◌, Option, Some, None, ltb, eqb, if◌then◌else◌}
use Rattle.model.specs.Basic.{any}
use Rattle.model.specs.Id.{root, head}
use Rattle.model.specs.Kinds.{make_map, make_list}
use Rattle.model.specs.Row.{Row, id_of, object_of, on_list, named_of, is_insert, action_of}

abbrev pub found_rows : Option Row → List Row
found_rows (Some r) = r ∷ []
found_rows None = []

abbrev pub makes : ℕ → Row → Bool
makes action r = eqb (action_of r) action

unfoldable pub makes_object : ℕ → List Row → Row → Bool
makes_object action ms r = ltb (object_of r) (id_of r) && any (makes action) ms

unfoldable pub object_in : List Row → Row → Bool
object_in ms r =
    if on_list r
    then makes_object make_list ms r
    else not (is_insert r) && (eqb (object_of r) root || makes_object make_map ms r)

unfoldable pub insert_on : ℕ → Row → Bool
insert_on object e = is_insert e && eqb (object_of e) object

unfoldable pub element_in : List Row → Row → Bool
element_in es r =
    eqb (named_of r) head || ltb (named_of r) (id_of r) && any (insert_on (object_of r)) es
