-- A course of merge calls on lent slices (demand 3): each call is lent what the one before it left, and claims the counts that it gave.
use Rattle.std.specs.Prelude.{ℕ, ◌*◌, Bool, true, ◌&&◌, List, [], ◌∷◌, map, ltb, get_or, take}
use Rattle.model.specs.Basic.{all, concat}
use Rattle.model.specs.Sizes.{row_words, succ_words, word_range}
use Rattle.model.specs.Row.{Op}
use Rattle.model.specs.Answer.{Answer, accepted, refused, is_accepted}
use Rattle.model.specs.Calls.{MergeBack, batch_in, document_sized, batch_sized, merge_call}

-- what is kept from call to call: the document's counts, and the slices that it lies in
pub record Held : Type 0 where
  pub row_count : ℕ
  pub rows : List ℕ
  pub succ_count : ℕ
  pub succs : List ℕ

-- what a call is lent and claims beside it: some operations, and working room
pub record Call : Type 0 where
  pub count : ℕ
  pub batch : List ℕ
  pub room : List ℕ

-- "From the empty document": counts 0 and 0, whatever words stand in the slices
abbrev pub empty_in : List ℕ → List ℕ → Held
empty_in rows succs = record { row_count = 0; rows = rows; succ_count = 0; succs = succs }

abbrev pub back_of : Held → Call → MergeBack
back_of h c = merge_call h.row_count h.rows h.succ_count h.succs c.count c.batch c.room

-- "accepted; the merge gives row and successor counts"; after a refusal the old ones stand
abbrev pub count_now : ℕ → ℕ → Answer → ℕ
count_now which old (accepted values) = get_or values which 0
count_now which old (refused number place) = old

abbrev pub held_of : Held → MergeBack → Held
held_of h back =
    record {
      row_count = count_now 0 h.row_count back.answer;
      rows = back.rows;
      succ_count = count_now 1 h.succ_count back.answer;
      succs = back.succs;
    }

abbrev pub held_after : Held → Call → Held
held_after h c = held_of h (back_of h c)

abbrev pub call_course : Held → List Call → Held
call_course h [] = h
call_course h (c ∷ cs) = call_course (held_after h c) cs

-- none of them refused
abbrev pub call_course_accepted : Held → List Call → Bool
call_course_accepted h [] = true
call_course_accepted h (c ∷ cs) = is_accepted (back_of h c).answer && call_course_accepted (held_after h c) cs

-- the batches, as they are cut from their slices; all operations of them
abbrev pub batches_of : List Call → List (List Op)
batches_of cs = map (λ c. batch_in c.count c.batch) cs

abbrev pub merged_ops : List Call → List Op
merged_ops cs = concat (batches_of cs)

-- the words in use: those of the rows and successors that the counts speak of
abbrev pub rows_in_use : Held → List ℕ
rows_in_use h = take (h.row_count * row_words) h.rows

abbrev pub succs_in_use : Held → List ℕ
succs_in_use h = take (h.succ_count * succ_words) h.succs

-- every lent slice has its documented size
abbrev pub sizes_fit : Held → List Call → Bool
sizes_fit h cs = all (λ c. document_sized h.rows h.succs c.room && batch_sized c.count c.batch) cs

-- the words of a batch are 64-bit words, any of them
abbrev pub words_fit : List Call → Bool
words_fit cs = all (λ c. all (λ w. ltb w word_range) c.batch) cs
