-- The words of rows, operations and successor entries, by name (01, "What is merged"; docs/LAYOUT.md has the tables).
use Rattle.std.specs.Prelude.{ℕ, suc, Bool, ◌||◌, List, eqb, get_or, take, drop, if◌then◌else◌}
use Rattle.model.specs.Basic.{filter}
use Rattle.model.specs.Sizes.{row_words}
use Rattle.model.specs.Kinds.{list_key, make_map, set, make_list, delete, increment, counter_kind}

-- ---- a row: the list of its words

abbrev pub Row : Type 0
Row = List ℕ

abbrev pub id_of : Row → ℕ
id_of r = get_or r 0 0

abbrev pub object_of : Row → ℕ
object_of r = get_or r 1 0

abbrev pub key_kind_of : Row → ℕ
key_kind_of r = get_or r 2 0

abbrev pub named_of : Row → ℕ
named_of r = get_or r 3 0

abbrev pub key_length_of : Row → ℕ
key_length_of r = get_or r 4 0

abbrev pub key_words_of : Row → List ℕ
key_words_of r = take 3 (drop 5 r)

abbrev pub insert_of : Row → ℕ
insert_of r = get_or r 8 0

abbrev pub action_of : Row → ℕ
action_of r = get_or r 9 0

abbrev pub value_kind_of : Row → ℕ
value_kind_of r = get_or r 10 0

abbrev pub value_of : Row → ℕ
value_of r = get_or r 11 0

abbrev pub on_list : Row → Bool
on_list r = eqb (key_kind_of r) list_key

abbrev pub is_insert : Row → Bool
is_insert r = eqb (insert_of r) 1

abbrev pub is_make_map : Row → Bool
is_make_map r = eqb (action_of r) make_map

abbrev pub is_set : Row → Bool
is_set r = eqb (action_of r) set

-- makes an object whose keys are elements
abbrev pub is_make_sequence : Row → Bool
is_make_sequence r = eqb (action_of r) make_list

abbrev pub is_delete : Row → Bool
is_delete r = eqb (action_of r) delete

abbrev pub is_increment : Row → Bool
is_increment r = eqb (action_of r) increment

abbrev pub is_set_or_make : Row → Bool
is_set_or_make r = is_set r || is_make_map r || is_make_sequence r

abbrev pub is_counter : Row → Bool
is_counter r = eqb (value_kind_of r) counter_kind

-- the rows with an id: none or one, where row ids differ
abbrev pub rows_with : List Row → ℕ → List Row
rows_with rs i = filter (λ r. eqb (id_of r) i) rs

-- "A list insert's element is its own id, any other list row's the one it names."
unfoldable pub element_of : Row → ℕ
element_of r = if is_insert r then id_of r else named_of r

-- ---- an operation: its row's words, so that what is said of a row can be said of it, and its predecessors

abbrev pub Op : Type 0
Op = List ℕ

abbrev pub row_of : Op → Row
row_of o = take row_words o

abbrev pub pred_count_of : Op → ℕ
pred_count_of o = get_or o row_words 0

abbrev pub pred_room_of : Op → List ℕ
pred_room_of o = drop (suc row_words) o

abbrev pub preds_of : Op → List ℕ
preds_of o = take (pred_count_of o) (pred_room_of o)

-- ---- a successor entry: the id of its row, the successor's id, 1 if it carries an increment, the increment

abbrev pub Succ : Type 0
Succ = List ℕ

abbrev pub owner_of : Succ → ℕ
owner_of s = get_or s 0 0

abbrev pub succ_of : Succ → ℕ
succ_of s = get_or s 1 0

abbrev pub carries_of : Succ → ℕ
carries_of s = get_or s 2 0

abbrev pub carried_of : Succ → ℕ
carried_of s = get_or s 3 0

abbrev pub carries : Succ → Bool
carries s = eqb (carries_of s) 1
