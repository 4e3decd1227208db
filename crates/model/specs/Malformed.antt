-- Check 4 (01, "What comes back"): malformed operations. First what a row shows, then the predecessors.
use Rattle.std.specs.Prelude.{Bool, not, ◌&&◌, ◌||◌, [], ◌∷◌, leb, ltb, eqb, drop, if◌then◌else◌}
use Rattle.model.specs.Basic.{◌implies◌, all, member, zeros, ascends}
use Rattle.model.specs.Sizes.{max_preds, max_key}
use Rattle.model.specs.Id.{is_id, root, head}
use Rattle.model.specs.Kinds.{map_key, list_key, make_map, set, make_list, delete, increment, null_kind, boolean_kind, unsigned_kind, signed_kind, float_kind, counter_kind, timestamp_kind}
use Rattle.model.specs.Row.{Row, Op, id_of, object_of, key_kind_of, on_list, named_of, key_length_of, key_words_of, insert_of, is_insert, action_of, value_kind_of, value_of, is_set, is_delete, is_increment, pred_count_of, pred_room_of, preds_of}
use Rattle.model.specs.Key.{key_room_of}

-- "a key (map: 0 to 24 bytes; list: an element id, or HEAD for an insert only)"; "a field its .. kind of key doesn't use, a key byte past
-- the key's length .. not zero"; "HEAD without insert"
unfoldable pub list_key_fits : Row → Bool
list_key_fits r = zeros (key_length_of r ∷ key_words_of r) && (if eqb (named_of r) head then is_insert r else is_id (named_of r))

unfoldable pub map_key_fits : Row → Bool
map_key_fits r = eqb (named_of r) 0 && leb (key_length_of r) max_key && zeros (drop (key_length_of r) (key_room_of r))

-- "each in 64 bits; null is 0, a boolean 0 or 1"
unfoldable pub set_value_fits : Row → Bool
set_value_fits r =
    eqb (value_kind_of r) null_kind && eqb (value_of r) 0
    || eqb (value_kind_of r) boolean_kind && leb (value_of r) 1
    || member (value_kind_of r) (unsigned_kind ∷ signed_kind ∷ float_kind ∷ counter_kind ∷ timestamp_kind ∷ [])

-- "An Increment carries a signed number." The other actions use neither word.
unfoldable pub value_fits : Row → Bool
value_fits r =
    if is_set r then set_value_fits r
    else if is_increment r then eqb (value_kind_of r) signed_kind
    else eqb (value_kind_of r) null_kind && eqb (value_of r) 0

-- "a field out of range; a field its action or kind of key doesn't use .. not zero; Delete or Increment .. as an insert"
unfoldable pub row_fits : Row → Bool
row_fits r =
    is_id (id_of r)
    && (eqb (object_of r) root || is_id (object_of r))
    && member (key_kind_of r) (map_key ∷ list_key ∷ [])
    && leb (insert_of r) 1
    && member (action_of r) (make_map ∷ set ∷ make_list ∷ delete ∷ increment ∷ [])
    && (if on_list r then list_key_fits r else map_key_fits r)
    && value_fits r
    && not (is_insert r && (is_delete r || is_increment r))

-- "predecessors over 16 or not strictly ascending"; "a predecessor slot past their count, not zero"; "an insert with predecessors"; "Delete or
-- Increment with no predecessor"
unfoldable pub preds_fit : Op → Bool
preds_fit o =
    leb (pred_count_of o) max_preds
    && zeros (drop (pred_count_of o) (pred_room_of o))
    && all is_id (preds_of o)
    && ascends ltb (preds_of o)
    && (is_insert o implies eqb (pred_count_of o) 0)
    && ((is_delete o || is_increment o) implies ltb 0 (pred_count_of o))
