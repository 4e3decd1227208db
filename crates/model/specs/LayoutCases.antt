-- The numbers and places of docs/LAYOUT.md: limits and widths, kinds, the words of rows, operations and entries, ids and keys. The claim compares by
-- `refl` alone, with numbers written out, since the other tables write operations with the names.
use Rattle.std.specs.Prelude.{ℕ, ◌+◌, ◌*◌, ◌-◌, ◌^◌, ◌≡◌, refl, Bool, List, [], ◌∷◌, ◌++◌, map, replicate}
use Rattle.model.specs.Basic.{flag, concat}
use Rattle.model.specs.Sizes.{max_counter, actors, max_rows, max_succs, max_batch, max_preds, max_key, word_bytes, byte_range, word_range, row_words, op_words, succ_words, entry_words, answer_width, room_words}
use Rattle.model.specs.Kinds.{map_key, list_key, make_map, set, make_list, delete, increment, null_kind, boolean_kind, unsigned_kind, signed_kind, float_kind, counter_kind, timestamp_kind}
use Rattle.model.specs.Id.{counter, actor, is_id, root, head, covered}
use Rattle.model.specs.Row.{Op, id_of, object_of, key_kind_of, named_of, key_length_of, key_words_of, insert_of, action_of, value_kind_of, value_of, on_list, is_insert, is_make_map, is_set, is_make_sequence, is_delete, is_increment, is_set_or_make, is_counter, rows_with, element_of, row_of, pred_count_of, pred_room_of, preds_of, owner_of, succ_of, carries_of, carried_of, carries}
use Rattle.model.specs.Key.{bytes, key_room_of, key_bytes_of, same_key}
use Rattle.model.specs.Exports.{size_of}
use Rattle.model.specs.Write.{◌#◌, put}
use Rattle.model.specs.Rules.{computes}

-- an operation whose words are 100 to 128, but for two predecessors counted
abbrev hundreds : Op
hundreds =
    100 ∷ 101 ∷ 102 ∷ 103 ∷ 104 ∷ 105 ∷ 106 ∷ 107 ∷ 108 ∷ 109 ∷ 110 ∷ 111
    ∷ 2 ∷ 113 ∷ 114 ∷ 115 ∷ 116 ∷ 117 ∷ 118 ∷ 119 ∷ 120 ∷ 121 ∷ 122 ∷ 123 ∷ 124 ∷ 125 ∷ 126 ∷ 127 ∷ 128 ∷ []

-- a test of operations that have each of these numbers as the word at a place
abbrev tested : (Op → Bool) → ℕ → List ℕ
tested test place = map (λ n. flag (test (put place n hundreds))) (0 ∷ 1 ∷ 2 ∷ 3 ∷ 4 ∷ 5 ∷ 8 ∷ 9 ∷ [])

-- the same row but for these words: does it still have the same object and key?
abbrev map_row : Op
map_row = 64 ∷ 128 ∷ 0 ∷ 0 ∷ 9 ∷ 7 ∷ 256 ^ 7 ∷ 0 ∷ 0 ∷ []

abbrev update_row : Op
update_row = 64 ∷ 128 ∷ 1 ∷ 192 ∷ 0 ∷ 0 ∷ 0 ∷ 0 ∷ 0 ∷ []

abbrev insert_row : Op
insert_row = 192 ∷ 128 ∷ 1 ∷ 0 ∷ 0 ∷ 0 ∷ 0 ∷ 0 ∷ 1 ∷ []

abbrev same_as : Op → List Op → List ℕ
same_as r rs = map (λ s. flag (same_key r s)) rs

-- a clock of 7 for actor 0, 8 for actor 63
abbrev clock : List ℕ
clock = 7 ∷ replicate 62 0 ++ 8 ∷ []

unfoldable pub layout : List (List ℕ)
layout =
    (max_counter ∷ actors ∷ max_rows ∷ max_succs ∷ max_batch ∷ max_preds ∷ max_key ∷ word_bytes ∷ byte_range ∷ word_range ∷ [])
    ∷ (row_words ∷ op_words ∷ succ_words ∷ entry_words ∷ answer_width ∷ room_words ∷ [])
    -- `gantrysnip_size(which)`; "Any other number gives 0"
    ∷ map size_of (0 ∷ 1 ∷ 2 ∷ 3 ∷ 4 ∷ 5 ∷ 6 ∷ 7 ∷ 8 ∷ 9 ∷ (2 ^ 64 - 1) ∷ [])
    ∷ (map_key ∷ list_key ∷ [])
    ∷ (make_map ∷ set ∷ make_list ∷ delete ∷ increment ∷ [])
    ∷ (null_kind ∷ boolean_kind ∷ unsigned_kind ∷ signed_kind ∷ float_kind ∷ counter_kind ∷ timestamp_kind ∷ [])
    -- the words of a row, an operation, an entry
    ∷ map (λ word. word hundreds) (id_of ∷ object_of ∷ key_kind_of ∷ named_of ∷ key_length_of ∷ insert_of ∷ action_of ∷ value_kind_of ∷ value_of ∷ pred_count_of ∷ [])
    ∷ key_words_of hundreds
    ∷ row_of hundreds
    ∷ pred_room_of hundreds
    ∷ preds_of hundreds
    ∷ map (λ word. word hundreds) (owner_of ∷ succ_of ∷ carries_of ∷ carried_of ∷ [])
    -- a missing word reads as 0
    ∷ map (λ word. word []) (id_of ∷ object_of ∷ key_kind_of ∷ named_of ∷ key_length_of ∷ insert_of ∷ action_of ∷ value_kind_of ∷ value_of ∷ pred_count_of ∷ [])
    ∷ map (λ word. word []) (owner_of ∷ succ_of ∷ carries_of ∷ carried_of ∷ [])
    -- what they say
    ∷ tested on_list 2
    ∷ tested is_insert 8
    ∷ tested is_make_map 9
    ∷ tested is_set 9
    ∷ tested is_make_sequence 9
    ∷ tested is_delete 9
    ∷ tested is_increment 9
    ∷ tested is_set_or_make 9
    ∷ tested is_counter 10
    ∷ tested carries 2
    ∷ map element_of (hundreds ∷ put 8 1 hundreds ∷ [])
    ∷ concat (rows_with ((1 ∷ 2 ∷ []) ∷ (2 ∷ 1 ∷ []) ∷ (1 ∷ 3 ∷ []) ∷ []) 1)
    -- ids: "a counter, 1 to 4,294,967,295, and an actor number, 0 to 63"; ROOT and HEAD are none
    ∷ (counter 456 ∷ actor 456 ∷ root ∷ head ∷ [])
    ∷ map (λ i. flag (is_id i)) (0 ∷ 1 ∷ 63 ∷ 64 ∷ (2 ^ 38 - 1) ∷ 2 ^ 38 ∷ (2 ^ 64 - 1) ∷ [])
    -- "it covers an id whose counter is not above its actor's"; 0 for none; no clock; a word too few; 64 zeros
    ∷ map (λ i. flag (covered clock i)) (1 # 0 ∷ 7 # 0 ∷ 8 # 0 ∷ 1 # 1 ∷ 8 # 63 ∷ 9 # 63 ∷ [])
    ∷ (flag (covered [] (2 ^ 38 - 1)) ∷ flag (covered (7 ∷ []) (1 # 1)) ∷ flag (covered (replicate 64 0) 64) ∷ flag (covered (replicate 64 (2 ^ 64 - 1)) (2 ^ 38 - 1)) ∷ [])
    -- bytes of a key: 8 a word, the first byte highest
    ∷ bytes 3 (256 * 256 * 256 * 9 + 256 * 256 * 1 + 256 * 2 + 3)
    ∷ key_room_of (put 5 (256 ^ 7 + 2) (put 6 (256 ^ 7 * 3) (put 7 4 hundreds)))
    ∷ key_bytes_of (put 4 9 (put 5 (256 ^ 7 + 2) (put 6 (256 ^ 7 * 3) (put 7 4 hundreds))))
    -- "of the same object and key": another id, object, length, byte within it, kind of key
    ∷ same_as map_row (map_row ∷ put 0 65 map_row ∷ put 1 129 map_row ∷ put 4 10 map_row ∷ put 5 8 map_row ∷ put 6 (256 ^ 7 * 2) map_row ∷ put 2 1 map_row ∷ [])
    -- "for list rows "key" means this element": another id, object, element, kind of key; the insert row itself, and one of another id
    ∷ same_as update_row (update_row ∷ put 0 65 update_row ∷ put 1 129 update_row ∷ put 3 193 update_row ∷ put 2 0 update_row ∷ insert_row ∷ put 0 193 insert_row ∷ [])
    ∷ same_as insert_row (insert_row ∷ update_row ∷ put 3 5 insert_row ∷ put 3 193 update_row ∷ put 0 193 insert_row ∷ [])
    ∷ []

pub layout-right :
    layout
    ≡ (4_294_967_295 ∷ 64 ∷ 4_096 ∷ 8_192 ∷ 256 ∷ 16 ∷ 24 ∷ 8 ∷ 256 ∷ 2 ^ 64 ∷ [])
    ∷ (12 ∷ 29 ∷ 4 ∷ 14 ∷ 3 ∷ 65_536 ∷ [])
    ∷ (4_096 ∷ 8_192 ∷ 256 ∷ 12 ∷ 4 ∷ 29 ∷ 14 ∷ 65_536 ∷ 64 ∷ 0 ∷ 0 ∷ [])
    ∷ (0 ∷ 1 ∷ [])
    ∷ (0 ∷ 1 ∷ 2 ∷ 3 ∷ 5 ∷ [])
    ∷ (0 ∷ 1 ∷ 3 ∷ 4 ∷ 5 ∷ 8 ∷ 9 ∷ [])
    ∷ (100 ∷ 101 ∷ 102 ∷ 103 ∷ 104 ∷ 108 ∷ 109 ∷ 110 ∷ 111 ∷ 2 ∷ [])
    ∷ (105 ∷ 106 ∷ 107 ∷ [])
    ∷ (100 ∷ 101 ∷ 102 ∷ 103 ∷ 104 ∷ 105 ∷ 106 ∷ 107 ∷ 108 ∷ 109 ∷ 110 ∷ 111 ∷ [])
    ∷ (113 ∷ 114 ∷ 115 ∷ 116 ∷ 117 ∷ 118 ∷ 119 ∷ 120 ∷ 121 ∷ 122 ∷ 123 ∷ 124 ∷ 125 ∷ 126 ∷ 127 ∷ 128 ∷ [])
    ∷ (113 ∷ 114 ∷ [])
    ∷ (100 ∷ 101 ∷ 102 ∷ 103 ∷ [])
    ∷ (0 ∷ 0 ∷ 0 ∷ 0 ∷ 0 ∷ 0 ∷ 0 ∷ 0 ∷ 0 ∷ 0 ∷ [])
    ∷ (0 ∷ 0 ∷ 0 ∷ 0 ∷ [])
    -- of 0, 1, 2, 3, 4, 5, 8, 9
    ∷ (0 ∷ 1 ∷ 0 ∷ 0 ∷ 0 ∷ 0 ∷ 0 ∷ 0 ∷ [])
    ∷ (0 ∷ 1 ∷ 0 ∷ 0 ∷ 0 ∷ 0 ∷ 0 ∷ 0 ∷ [])
    ∷ (1 ∷ 0 ∷ 0 ∷ 0 ∷ 0 ∷ 0 ∷ 0 ∷ 0 ∷ [])
    ∷ (0 ∷ 1 ∷ 0 ∷ 0 ∷ 0 ∷ 0 ∷ 0 ∷ 0 ∷ [])
    ∷ (0 ∷ 0 ∷ 1 ∷ 0 ∷ 0 ∷ 0 ∷ 0 ∷ 0 ∷ [])
    ∷ (0 ∷ 0 ∷ 0 ∷ 1 ∷ 0 ∷ 0 ∷ 0 ∷ 0 ∷ [])
    ∷ (0 ∷ 0 ∷ 0 ∷ 0 ∷ 0 ∷ 1 ∷ 0 ∷ 0 ∷ [])
    ∷ (1 ∷ 1 ∷ 1 ∷ 0 ∷ 0 ∷ 0 ∷ 0 ∷ 0 ∷ [])
    ∷ (0 ∷ 0 ∷ 0 ∷ 0 ∷ 0 ∷ 0 ∷ 1 ∷ 0 ∷ [])
    ∷ (0 ∷ 1 ∷ 0 ∷ 0 ∷ 0 ∷ 0 ∷ 0 ∷ 0 ∷ [])
    ∷ (103 ∷ 100 ∷ [])
    ∷ (1 ∷ 2 ∷ 1 ∷ 3 ∷ [])
    ∷ (7 ∷ 8 ∷ 0 ∷ 0 ∷ [])
    ∷ (0 ∷ 0 ∷ 0 ∷ 1 ∷ 1 ∷ 0 ∷ 0 ∷ [])
    ∷ (1 ∷ 1 ∷ 0 ∷ 0 ∷ 1 ∷ 0 ∷ [])
    ∷ (1 ∷ 0 ∷ 0 ∷ 1 ∷ [])
    ∷ (1 ∷ 2 ∷ 3 ∷ [])
    ∷ (1 ∷ 0 ∷ 0 ∷ 0 ∷ 0 ∷ 0 ∷ 0 ∷ 2 ∷ 3 ∷ 0 ∷ 0 ∷ 0 ∷ 0 ∷ 0 ∷ 0 ∷ 0 ∷ 0 ∷ 0 ∷ 0 ∷ 0 ∷ 0 ∷ 0 ∷ 0 ∷ 4 ∷ [])
    ∷ (1 ∷ 0 ∷ 0 ∷ 0 ∷ 0 ∷ 0 ∷ 0 ∷ 2 ∷ 3 ∷ [])
    ∷ (1 ∷ 1 ∷ 0 ∷ 0 ∷ 0 ∷ 0 ∷ 0 ∷ [])
    ∷ (1 ∷ 1 ∷ 0 ∷ 0 ∷ 0 ∷ 1 ∷ 0 ∷ [])
    ∷ (1 ∷ 1 ∷ 1 ∷ 0 ∷ 0 ∷ [])
    ∷ []
unfolding layout computes
layout-right = refl
