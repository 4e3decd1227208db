-- The documented sizes (01, "What is merged", "What comes back"; docs/LAYOUT.md). Limits are shut, so that no proof leans on their numbers
-- unnoticed: later requests raise them. Widths of the layout are open.
use Rattle.std.specs.Prelude.{ℕ, ◌+◌, ◌^◌}

-- "An id is a counter, 1 to 4,294,967,295, and an actor number, 0 to 63"; a clock has a word for each actor
unfoldable pub max_counter : ℕ
max_counter = 4_294_967_295

abbrev pub actors : ℕ
actors = 64

-- "A document is up to 4,096 rows with up to 8,192 successors."
unfoldable pub max_rows : ℕ
max_rows = 4096

unfoldable pub max_succs : ℕ
max_succs = 8192

-- refusals 3 and 4: "batch over 256 operations", "predecessors over 16"
unfoldable pub max_batch : ℕ
max_batch = 256

abbrev pub max_preds : ℕ
max_preds = 16

-- "a key (map: 0 to 24 bytes; ..)", 8 bytes a word
abbrev pub max_key : ℕ
max_key = 24

abbrev pub word_bytes : ℕ
word_bytes = 8

-- what a byte and a lent word can hold
abbrev pub byte_range : ℕ
byte_range = 256

abbrev pub word_range : ℕ
word_range = 2 ^ 64

-- words of a row, of an operation (a row, a count of predecessors, their slots), of a successor entry, of a picture entry
abbrev pub row_words : ℕ
row_words = 12

abbrev pub op_words : ℕ
op_words = row_words + 1 + max_preds

abbrev pub succ_words : ℕ
succ_words = 4

abbrev pub entry_words : ℕ
entry_words = 14

-- words of an exported call's answer
abbrev pub answer_width : ℕ
answer_width = 3

-- the working room of a call
unfoldable pub room_words : ℕ
room_words = 65536
