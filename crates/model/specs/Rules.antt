-- Every rule of 01, by its name: a claim that computes with the rules says `unfolding computes`.
use Rattle.model.specs.Sizes.{max_counter, max_rows, max_succs, max_batch, room_words}
use Rattle.model.specs.Id.{is_id, covered}
use Rattle.model.specs.Row.{element_of}
use Rattle.model.specs.Key.{key_room_of, key_bytes_of, same_key}
use Rattle.model.specs.Order.{inserts, children, below, elements, preorder, key_rank, before, order}
use Rattle.model.specs.Document.{new_rows, all_rows, entry, new_succs, all_succs, succ_before, merged}
use Rattle.model.specs.Malformed.{list_key_fits, map_key_fits, set_value_fits, value_fits, row_fits, preds_fit}
use Rattle.model.specs.Refusal.{id_taken, has_make, object_fits, element_fits, pred_fits, preds_exist, too_many, batch_refusal}
use Rattle.model.specs.WellFormed.{counts_fit, no_delete, rows_pass, ids_differ, in_order, succs_ascend, owners_stand, succ_rows_fit, one_key, deletes_fit, succs_few, increments_stand, carries_right, increments_right, well_formed}
use Rattle.model.specs.Visible.{covered_succs, visible, total}
use Rattle.model.specs.Picture.{seen, rivals, wins, in_conflict, outgrown, shown_value, picture_entry, picture}
use Rattle.model.specs.Spot.{is_list_of, row_at, width, first_place, place_after, spot_element, spot_place, spot_refusal}
use Rattle.model.specs.Calls.{document_sized, batch_sized, clock_sized, out_sized, claim_refusal, document_refusal, merge_refusal, merge_call, picture_call, spot_answer, spot_call}
use Rattle.model.specs.Exports.{answer_words, number_of, answer_sized, exported, merge_exported, picture_exported, spot_exported, size_of}
use Rattle.model.specs.Course.{refers_to, refers_within, preds_in, with_preds, delete_at, deleted_by, delete_of, operations_of, covered_ops, closed_clock, shaped}

-- all but the size of a document's slices: a claim about calls on slices of full size has it as a hypothesis
unfoldable pub computes_sized : Unit {0}
unfolding
    max_counter max_rows max_succs max_batch is_id covered element_of key_room_of key_bytes_of same_key inserts children below elements preorder
    key_rank before order new_rows all_rows entry new_succs all_succs succ_before merged list_key_fits map_key_fits set_value_fits value_fits row_fits
    preds_fit id_taken has_make object_fits element_fits pred_fits preds_exist too_many batch_refusal counts_fit no_delete rows_pass ids_differ in_order
    succs_ascend owners_stand succ_rows_fit one_key deletes_fit succs_few increments_stand carries_right increments_right well_formed covered_succs
    visible total seen rivals wins in_conflict outgrown shown_value picture_entry picture is_list_of row_at width first_place place_after
    spot_element spot_place spot_refusal document_refusal merge_refusal spot_answer batch_sized clock_sized out_sized claim_refusal
    merge_call picture_call spot_call room_words refers_to refers_within preds_in with_preds delete_at deleted_by delete_of operations_of covered_ops
    closed_clock shaped answer_words number_of answer_sized exported merge_exported picture_exported spot_exported size_of
computes_sized = tt

unfoldable pub computes : Unit {0}
unfolding computes_sized document_sized
computes = tt
