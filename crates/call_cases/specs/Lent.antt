-- What is lent to the calls of the table, at its documented size. Slots that are not in use hold 9, so that what must stay can be told from what must
-- be zero.
use Rattle.std.specs.Prelude.{ℕ, ◌*◌, ◌-◌, List, [], ◌∷◌, ◌++◌, length, replicate}
use Rattle.model.specs.Basic.{concat_map}
use Rattle.model.specs.Sizes.{max_rows, max_succs, row_words, succ_words, room_words}
use Rattle.model.specs.Id.{root, head}
use Rattle.model.specs.Kinds.{unsigned_kind, counter_kind}
use Rattle.model.specs.Row.{Op, row_of}
use Rattle.model.specs.Write.{◌#◌, key, at, makes_list, sets, inserts}

-- words in use at the start of a slice of some size
abbrev pub lent : ℕ → List ℕ → List ℕ
lent size used = used ++ replicate (size - length used) 9

abbrev pub in_rows : List ℕ → List ℕ
in_rows used = lent (max_rows * row_words) used

abbrev pub in_succs : List ℕ → List ℕ
in_succs used = lent (max_succs * succ_words) used

unfoldable pub room : List ℕ
room = lent room_words []

unfoldable pub no_room : List ℕ
no_room = replicate room_words 0

-- The document: list 1@0 at ROOT key "r", in it counter 2@0, overwritten by 3@0.
abbrev pub L : ℕ
L = 1 # 0

abbrev pub the_list : Op
the_list = makes_list L root (key 114)

abbrev pub the_counter : Op
the_counter = inserts (2 # 0) L head counter_kind 10

abbrev pub the_set : Op
the_set = sets (3 # 0) L (at (2 # 0)) unsigned_kind 7 (2 # 0 ∷ [])

unfoldable pub rows : List ℕ
rows = in_rows (concat_map row_of (the_list ∷ the_counter ∷ the_set ∷ []))

unfoldable pub succs : List ℕ
succs = in_succs (2 # 0 ∷ 3 # 0 ∷ 0 ∷ 0 ∷ [])
