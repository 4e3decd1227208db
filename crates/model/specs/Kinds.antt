-- The numbers of key kinds, actions and kinds of value: the published Automerge binary format's, where it has one (docs/LAYOUT.md).
use Rattle.std.specs.Prelude.{ℕ}

abbrev pub map_key : ℕ
map_key = 0

abbrev pub list_key : ℕ
list_key = 1

-- "Actions: Set, Make map, Make list, Delete, Increment."
abbrev pub make_map : ℕ
make_map = 0

abbrev pub set : ℕ
set = 1

abbrev pub make_list : ℕ
make_list = 2

abbrev pub delete : ℕ
delete = 3

abbrev pub increment : ℕ
increment = 5

-- "Value kinds: null, boolean, unsigned, signed, f64 (as bits, never computed with), counter, timestamp"
abbrev pub null_kind : ℕ
null_kind = 0

abbrev pub boolean_kind : ℕ
boolean_kind = 1

abbrev pub unsigned_kind : ℕ
unsigned_kind = 3

abbrev pub signed_kind : ℕ
signed_kind = 4

abbrev pub float_kind : ℕ
float_kind = 5

abbrev pub counter_kind : ℕ
counter_kind = 8

abbrev pub timestamp_kind : ℕ
timestamp_kind = 9
