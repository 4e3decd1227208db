-- The parts of check 4 under names of their own (model, Malformed: `row_fits`).
use Rattle.std.specs.Prelude.{ℕ, Bool, true, not, ◌&&◌, ◌||◌, [], ◌∷◌, leb, eqb, drop, if◌then◌else◌}
use Rattle.model.specs.Basic.{member, zeros}
use Rattle.model.specs.Sizes.{word_bytes}
use Rattle.model.specs.Id.{is_id, root}
use Rattle.model.specs.Kinds.{map_key, list_key, make_map, set, make_list, delete, increment}
use Rattle.model.specs.Row.{Row, id_of, object_of, key_kind_of, on_list, key_length_of, key_words_of, insert_of, is_insert, action_of, is_delete, is_increment}
use Rattle.model.specs.Key.{bytes, key_room_of}
use Rattle.model.specs.Malformed.{list_key_fits, map_key_fits}
use Rattle.ids.specs.declared.kinds.ValueKind.{ValueKind}
use Rattle.ids.specs.declared.kinds.ValueKind.TheVariants.{Null, Boolean, Unsigned, Signed, Float, Counter, Timestamp}

unfoldable pub is_object : ℕ → Bool
is_object o = eqb o root || is_id o

unfoldable pub is_key_kind : ℕ → Bool
is_key_kind k = member k (map_key ∷ list_key ∷ [])

unfoldable pub is_action : ℕ → Bool
is_action a = member a (make_map ∷ set ∷ make_list ∷ delete ∷ increment ∷ [])

-- the values of each kind
abbrev pub is_value : ValueKind → ℕ → Bool
is_value Null v = eqb v 0
is_value Boolean v = leb v 1
is_value Unsigned v = true
is_value Signed v = true
is_value Float v = true
is_value Counter v = true
is_value Timestamp v = true

-- the bytes of a word are zero past its first n
unfoldable pub zero_past : ℕ → ℕ → Bool
zero_past n w = zeros (drop n (bytes word_bytes w))

-- the places for a key's bytes are zero past its length; all of them are
unfoldable pub key_zero_past : Row → Bool
key_zero_past r = zeros (drop (key_length_of r) (key_room_of r))

unfoldable pub key_zero : Row → Bool
key_zero r = zeros (key_words_of r)

unfoldable pub key_fits : Row → Bool
key_fits r = if on_list r then list_key_fits r else map_key_fits r

unfoldable pub insert_fits : Row → Bool
insert_fits r = not (is_insert r && (is_delete r || is_increment r))

unfoldable pub start_fits : Row → Bool
start_fits r = is_id (id_of r) && is_object (object_of r) && is_key_kind (key_kind_of r) && leb (insert_of r) 1 && is_action (action_of r)
