-- The picture (01, "The rules", Picture; "What comes back", 11).
use Rattle.std.specs.Prelude.{ℕ, Bool, not, ◌&&◌, List, [], ◌∷◌, ◌++◌, map, leb, eqb, length, get_or, if◌then◌else◌}
use Rattle.model.specs.Basic.{flag, filter, last}
use Rattle.model.specs.Row.{Row, id_of, object_of, key_kind_of, on_list, key_length_of, key_words_of, action_of, value_kind_of, value_of, is_counter, element_of}
use Rattle.model.specs.Key.{same_key}
use Rattle.model.specs.Document.{Document}
use Rattle.model.specs.Visible.{visible, total, fits, word}

-- "All visible rows of every object, in document order"
unfoldable pub seen : List ℕ → Document → List Row
seen clock d = filter (visible clock d) d.rows

-- those of them that share r's key or element
unfoldable pub rivals : List ℕ → Document → Row → List Row
rivals clock d r = filter (same_key r) (seen clock d)

-- "The last visible row of a key or element wins"
unfoldable pub wins : List ℕ → Document → Row → Bool
wins clock d r = eqb (id_of r) (last (map id_of (rivals clock d r)))

-- "conflict is set on all its rows where two or more are visible"
unfoldable pub in_conflict : List ℕ → Document → Row → Bool
in_conflict clock d r = leb 2 (length (rivals clock d r))

-- 11: "a visible counter's total doesn't fit: a mark in its picture entry, value 0, no refusal"
abbrev pub outgrown_mark : ℕ
outgrown_mark = 11

unfoldable pub outgrown : List ℕ → Document → Row → Bool
outgrown clock d r = is_counter r && not (fits (total clock d r))

unfoldable pub shown_value : List ℕ → Document → Row → ℕ
shown_value clock d r =
    if outgrown clock d r then 0
    else if is_counter r then word (total clock d r)
    else value_of r

-- an entry: "object, key or element, id, action, value, winner, conflict, mark (11 or 0)", laid out as in docs/LAYOUT.md
unfoldable pub picture_entry : List ℕ → Document → Row → List ℕ
picture_entry clock d r =
    id_of r ∷ object_of r ∷ key_kind_of r ∷ (if on_list r then element_of r else 0) ∷ key_length_of r ∷ key_words_of r
    ++ action_of r ∷ value_kind_of r ∷ shown_value clock d r
    ∷ flag (wins clock d r) ∷ flag (in_conflict clock d r) ∷ (if outgrown clock d r then outgrown_mark else 0) ∷ []

-- the words of an entry that a reader of the picture looks at
abbrev pub entry_id : List ℕ → ℕ
entry_id e = get_or e 0 0

abbrev pub entry_value : List ℕ → ℕ
entry_value e = get_or e 10 0

abbrev pub entry_winner : List ℕ → ℕ
entry_winner e = get_or e 11 0

abbrev pub entry_conflict : List ℕ → ℕ
entry_conflict e = get_or e 12 0

abbrev pub entry_mark : List ℕ → ℕ
entry_mark e = get_or e 13 0

unfoldable pub picture : List ℕ → Document → List (List ℕ)
picture clock d = map (picture_entry clock d) (seen clock d)
