-- The merge's answers: accepted, and refused with each number from 1 to 9.
use Rattle.std.specs.Prelude.{ℕ, zero, suc, ◌+◌, ◌*◌, ◌-◌, ◌≡◌, refl, Bool, true, List, [], ◌∷◌, length, drop}
use Rattle.model.specs.Basic.{all, concat, concat_map}
use Rattle.model.specs.Sizes.{max_rows, max_succs, max_batch, op_words, word_range}
use Rattle.model.specs.Id.{root, head}
use Rattle.model.specs.Kinds.{set, null_kind, unsigned_kind}
use Rattle.model.specs.Row.{Row, Op, Succ, row_of}
use Rattle.model.specs.Document.{Document}
use Rattle.model.specs.Answer.{accepted, refused, same_answer}
use Rattle.model.specs.Refusal.{batch_refusal}
use Rattle.model.specs.Calls.{merge_call}
use Rattle.model.specs.Write.{◌#◌, key, at, sets, inserts, deletes, op}
use Rattle.model.specs.CallCases.{same_merge}
use Rattle.model.specs.Rules.{computes}
use Rattle.call_cases.specs.Lent.{lent, in_rows, in_succs, room, no_room, L, the_list, the_counter, the_set, rows, succs}

-- refused with this number and place: nothing lent changes, but the room is as said
abbrev refuses : ℕ → List ℕ → ℕ → List ℕ → ℕ → List ℕ → List ℕ → ℕ → ℕ → List ℕ → Bool
refuses n rows m succs k batch room number place room_after =
    same_merge (merge_call n rows m succs k batch room) (refused number place) rows succs batch room_after

-- of a batch on the document
abbrev batch_refused : List Op → ℕ → ℕ → Bool
batch_refused b number place = refuses 3 rows 1 succs (length b) (concat b) room number place no_room

-- operations that pass, with ids 4@0 and 5@0
abbrev fourth : Op
fourth = inserts (4 # 0) L head null_kind 0

abbrev fifth : Op
fifth = deletes (5 # 0) L (at (2 # 0)) (3 # 0 ∷ [])

-- operations that fail, with id 6@0
abbrev insert_with_pred : Op
insert_with_pred = op (6 # 0) L (at (2 # 0)) 1 set null_kind 0 (2 # 0 ∷ [])

abbrev in_no_list : Op
in_no_list = inserts (6 # 0) (2 # 0) head null_kind 0

abbrev on_no_element : Op
on_no_element = inserts (6 # 0) L (3 # 0) null_kind 0

abbrev of_other_key : Op
of_other_key = deletes (6 # 0) L (at (2 # 0)) (4 # 0 ∷ [])

unfoldable pub merge_cases : List Bool
merge_cases =
    -- accepted: a row comes between, a successor at the end; the Delete has no row
    same_merge (merge_call 3 rows 1 succs 2 (concat (fifth ∷ fourth ∷ [])) room) (accepted (4 ∷ 2 ∷ []))
    (in_rows (concat_map row_of (the_list ∷ fourth ∷ the_counter ∷ the_set ∷ [])))
    (in_succs (2 # 0 ∷ 3 # 0 ∷ 0 ∷ 0 ∷ 3 # 0 ∷ 5 # 0 ∷ 0 ∷ 0 ∷ []))
    (concat (fifth ∷ fourth ∷ []))
    no_room
    -- 1: each slice one word short
    ∷ refuses 3 (drop 1 rows) 1 succs 1 fourth room 1 0 room
    ∷ refuses 3 rows 1 (drop 1 succs) 1 fourth room 1 0 room
    ∷ refuses 3 rows 1 succs 1 (drop 1 fourth) room 1 0 room
    ∷ refuses 3 rows 1 succs 1 fourth (drop 1 room) 1 0 (drop 1 room)
    -- 2: claims over the limits; a fourth row, which is none
    ∷ refuses (max_rows + 1) rows 1 succs 1 fourth room 2 0 no_room
    ∷ refuses (word_range - 1) rows 1 succs 1 fourth room 2 0 no_room
    ∷ refuses 3 rows (max_succs + 1) succs 1 fourth room 2 0 no_room
    ∷ refuses 4 rows 1 succs 1 fourth room 2 0 no_room
    -- 3
    ∷ refuses 3 rows 1 succs (max_batch + 1) (lent ((max_batch + 1) * op_words) []) room 3 0 no_room
    -- 4 to 8, at the first operation that fails so
    ∷ batch_refused (fourth ∷ insert_with_pred ∷ insert_with_pred ∷ []) 4 1
    ∷ batch_refused (fifth ∷ fourth ∷ fourth ∷ []) 5 2
    ∷ batch_refused (fourth ∷ in_no_list ∷ []) 6 1
    ∷ batch_refused (on_no_element ∷ fourth ∷ []) 7 0
    ∷ batch_refused (fifth ∷ fourth ∷ of_other_key ∷ []) 8 2
    -- the smallest number, wherever it comes
    ∷ batch_refused (of_other_key ∷ fourth ∷ the_set ∷ []) 5 2
    ∷ []

pub merge-right : all (λ t. t) merge_cases ≡ true
unfolding merge_cases rows succs room no_room computes
merge-right = refl

-- 9. A full document is too dear to be checked for 2 by computing: its row ids are compared by pairs. So here the checks of a batch are asked directly, of
-- a document with that many rows of ROOT key "c" or successors of one row.
abbrev set_row : ℕ → Op
set_row c = sets (c # 0) root (key 99) unsigned_kind 7 []

abbrev rows_up_to : ℕ → List Row → List Row
rows_up_to zero rs = rs
rows_up_to (suc n) rs = rows_up_to n (row_of (set_row (suc n)) ∷ rs)

abbrev succs_up_to : ℕ → List Succ → List Succ
succs_up_to zero ss = ss
succs_up_to (suc n) ss = succs_up_to n ((1 # 0 ∷ suc n # 1 ∷ 0 ∷ 0 ∷ []) ∷ ss)

abbrev with : ℕ → ℕ → Document
with n m = record { rows = rows_up_to n []; succs = succs_up_to m [] }

abbrev last_set : Op
last_set = set_row 10_000

abbrev last_delete : Op
last_delete = deletes (10_000 # 0) root (key 99) (1 # 0 ∷ [])

unfoldable pub full_cases : List Bool
full_cases =
    -- a row less, and it is accepted; a Delete needs none
    same_answer (batch_refusal (with (max_rows - 1) 0) (last_set ∷ [])) (accepted [])
    ∷ same_answer (batch_refusal (with max_rows 0) (last_set ∷ [])) (refused 9 0)
    ∷ same_answer (batch_refusal (with max_rows 0) (last_delete ∷ [])) (accepted [])
    -- a Delete needs a successor
    ∷ same_answer (batch_refusal (with 1 (max_succs - 1)) (last_delete ∷ [])) (accepted [])
    ∷ same_answer (batch_refusal (with 1 max_succs) (last_delete ∷ [])) (refused 9 0)
    ∷ []

pub full-right : all (λ t. t) full_cases ≡ true
unfolding full_cases computes
full-right = refl
