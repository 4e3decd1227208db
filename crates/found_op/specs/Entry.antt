-- An entry of the picture, from a row, from what is found in its group and from what the row shows: a value, or a total that does not fit.
use Rattle.std.specs.Prelude.{ℕ, List, [], ◌∷◌, Result, Ok, Err, leb, eqb, get_or, if◌then◌else◌}
use Rattle.model.specs.Basic.{flag}
use Rattle.model.specs.Row.{Row, id_of, object_of, key_kind_of, on_list, key_length_of, action_of, value_kind_of, element_of}
use Rattle.model.specs.Picture.{outgrown_mark}
use Rattle.visible.specs.declared.sum.Outgrown.{Outgrown}
use Rattle.found_op.specs.declared.group.Found.{Found}

abbrev pub element_shown : Row → ℕ
element_shown r = if on_list r then element_of r else 0

abbrev pub value_shown : Result ℕ Outgrown → ℕ
value_shown (Ok value) = value
value_shown (Err o) = 0

abbrev pub mark_shown : Result ℕ Outgrown → ℕ
mark_shown (Ok value) = 0
mark_shown (Err o) = outgrown_mark

unfoldable pub entry_of : Row → Found → Result ℕ Outgrown → List ℕ
entry_of r f shown =
    id_of r ∷ object_of r ∷ key_kind_of r ∷ element_shown r ∷ key_length_of r ∷ get_or r 5 0 ∷ get_or r 6 0 ∷ get_or r 7 0
    ∷ action_of r ∷ value_kind_of r ∷ value_shown shown ∷ flag (eqb (id_of r) f.winner) ∷ flag (leb 2 f.count) ∷ mark_shown shown ∷ []
