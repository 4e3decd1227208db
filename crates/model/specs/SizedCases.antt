-- Whole calls on slices of full size, whatever stands in the words that are not in use: a list of calls of each kind, and of what comes back of them.
-- Crate call_cases computes such calls with every word written.
use Rattle.std.specs.Prelude.{ℕ, ◌≡◌, refl, true, false, ◌&&◌, List, [], ◌∷◌, ◌++◌, eqb, length, drop, replicate}
use Rattle.model.specs.Basic.{concat}
use Rattle.model.specs.Sizes.{max_rows, max_succs, room_words}
use Rattle.model.specs.Id.{root, head}
use Rattle.model.specs.Row.{row_of}
use Rattle.model.specs.Answer.{Answer, accepted, refused}
use Rattle.model.specs.Calls.{MergeBack, PictureBack, SpotBack, document_sized, batch_sized, clock_sized, out_sized, claim_refusal, merge_call, picture_call, spot_call}
use Rattle.model.specs.Exports.{Exported, merge_exported, picture_exported, spot_exported}
use Rattle.model.specs.Write.{◌#◌, put}
use Rattle.model.specs.CallCases.{the_list, the_counter, batch, nines, out, shown}
use Rattle.model.specs.Rules.{computes_sized}

-- the sizes of docs/LAYOUT.md
pub sizes-right :
    (rows succs room : List ℕ) → document_sized rows succs room ≡ (eqb (length rows) 49_152 && eqb (length succs) 32_768 && eqb (length room) 65_536)
unfolding document_sized max_rows max_succs room_words
sizes-right rows succs room = refl

-- what comes back
abbrev merge : Answer → List ℕ → List ℕ → List ℕ → List ℕ → MergeBack
merge answer rows succs batch room = record { answer = answer; rows = rows; succs = succs; batch = batch; room = room }

abbrev picture : Answer → List ℕ → List ℕ → List ℕ → List ℕ → List ℕ → PictureBack
picture answer rows succs clock out room =
    record { answer = answer; rows = rows; succs = succs; clock = clock; out = out; room = room }

abbrev spot : Answer → List ℕ → List ℕ → List ℕ → List ℕ → SpotBack
spot answer rows succs clock room = record { answer = answer; rows = rows; succs = succs; clock = clock; room = room }

abbrev export : ℕ → List ℕ → List (List ℕ) → Exported
export returned answer lent = record { returned = returned; answer = answer; lent = lent }

-- "working room is zero after every answer except 1"
abbrev cleared : List ℕ → List ℕ
cleared room = replicate (length room) 0

-- a slice whose first row is the list's, with its element behind it, and one whose first row is no id's
abbrev used : List ℕ → List ℕ
used rest = row_of the_list ++ rest

abbrev full : List ℕ → List ℕ
full rest = used (row_of the_counter ++ rest)

abbrev spoilt : List ℕ → List ℕ
spoilt rest = put 0 0 (row_of the_list) ++ rest

-- a slice whose first entry says that 9@0 has deleted the list
abbrev with_entry : List ℕ → List ℕ
with_entry rest = 1 # 0 ∷ 9 # 0 ∷ 0 ∷ 0 ∷ rest

-- the batch's words; words that are no operations; a clock of a wrong size, one that covers every id of the document; an answer's slice that is too short
abbrev ops : List ℕ
ops = concat batch

abbrev no_ops : List ℕ
no_ops = nines 58

abbrev short : List ℕ
short = nines 3

abbrev clock : List ℕ
clock = nines 64

abbrev too_short : List ℕ
too_short = nines 2

-- ---- the merge

pub merge-calls-right :
    (rows succs room : List ℕ)
    → document_sized (used rows) (with_entry succs) room ≡ true
    → document_sized (spoilt rows) (with_entry succs) room ≡ true
    → merge_call 1 (used rows) 0 (with_entry succs) 2 ops room
    ∷ merge_call 1 (used rows) 1 (with_entry succs) 2 ops room
    ∷ merge_call 1 (used rows) 0 (with_entry succs) 2 (the_counter ++ the_list) room
    ∷ merge_call 1 (spoilt rows) 0 (with_entry succs) 2 no_ops room
    ∷ merge_call 4_097 (used rows) 0 (with_entry succs) 2 ops room
    ∷ merge_call 1 (used rows) 8_193 (with_entry succs) 2 ops room
    ∷ merge_call 1 (used rows) 0 (with_entry succs) 1 ops room
    ∷ merge_call 1 (used rows) 0 (with_entry succs) 3 ops room
    ∷ []
    -- accepted: the words past the counts in use are unchanged
    ≡ merge (accepted (2 ∷ 1 ∷ [])) (row_of the_list ++ row_of the_counter ++ drop 12 rows) (2 # 0 ∷ 3 # 0 ∷ 0 ∷ 0 ∷ succs) ops (cleared room)
    ∷ merge (accepted (2 ∷ 2 ∷ [])) (row_of the_list ++ row_of the_counter ++ drop 12 rows) (with_entry (2 # 0 ∷ 3 # 0 ∷ 0 ∷ 0 ∷ drop 4 succs)) ops (cleared room)
    -- 5 at the second operation; 2 before it, for the document and for the claims; 1 for the batch
    ∷ merge (refused 5 1) (used rows) (with_entry succs) (the_counter ++ the_list) (cleared room)
    ∷ merge (refused 2 0) (spoilt rows) (with_entry succs) no_ops (cleared room)
    ∷ merge (refused 2 0) (used rows) (with_entry succs) ops (cleared room)
    ∷ merge (refused 2 0) (used rows) (with_entry succs) ops (cleared room)
    ∷ merge (refused 1 0) (used rows) (with_entry succs) ops room
    ∷ merge (refused 1 0) (used rows) (with_entry succs) ops room
    ∷ []
unfolding computes_sized
merge-calls-right rows succs room sized spoilt-sized = rw (sized, spoilt-sized)

-- ---- the picture

pub picture-calls-right :
    (rows succs room : List ℕ)
    → document_sized (used rows) (with_entry succs) room ≡ true
    → document_sized (spoilt rows) (with_entry succs) room ≡ true
    → picture_call 1 (used rows) 0 (with_entry succs) [] out room
    ∷ picture_call 1 (used rows) 1 (with_entry succs) [] out room
    ∷ picture_call 1 (used rows) 0 (with_entry succs) clock out room
    ∷ picture_call 1 (used rows) 0 (with_entry succs) (replicate 64 0) out room
    ∷ picture_call 1 (spoilt rows) 0 (with_entry succs) [] out room
    ∷ picture_call 4_097 (used rows) 0 (with_entry succs) [] [] room
    ∷ picture_call 1 (used rows) 8_193 (with_entry succs) [] out room
    ∷ picture_call 1 (used rows) 0 (with_entry succs) short out room
    ∷ picture_call 1 (used rows) 0 (with_entry succs) [] (nines 13) room
    ∷ []
    -- accepted: "output past the entries" is unchanged; with the list's entry, and with none
    ≡ picture (accepted (1 ∷ [])) (used rows) (with_entry succs) [] (shown ++ nines 6) (cleared room)
    ∷ picture (accepted (0 ∷ [])) (used rows) (with_entry succs) [] out (cleared room)
    ∷ picture (accepted (1 ∷ [])) (used rows) (with_entry succs) clock (shown ++ nines 6) (cleared room)
    ∷ picture (accepted (0 ∷ [])) (used rows) (with_entry succs) (replicate 64 0) out (cleared room)
    -- 2 for the document and for the claims, however short the output; 1 for clock and output
    ∷ picture (refused 2 0) (spoilt rows) (with_entry succs) [] out (cleared room)
    ∷ picture (refused 2 0) (used rows) (with_entry succs) [] [] (cleared room)
    ∷ picture (refused 2 0) (used rows) (with_entry succs) [] out (cleared room)
    ∷ picture (refused 1 0) (used rows) (with_entry succs) short out room
    ∷ picture (refused 1 0) (used rows) (with_entry succs) [] (nines 13) room
    ∷ []
unfolding computes_sized
picture-calls-right rows succs room sized spoilt-sized = rw (sized, spoilt-sized)

-- ---- the spot

pub spot-calls-right :
    (rows succs room : List ℕ)
    → document_sized (full rows) (with_entry succs) room ≡ true
    → document_sized (spoilt rows) (with_entry succs) room ≡ true
    → spot_call 1 (full rows) 0 (with_entry succs) [] (1 # 0) 0 room
    ∷ spot_call 1 (full rows) 0 (with_entry succs) clock (1 # 0) 1 room
    ∷ spot_call 2 (full rows) 0 (with_entry succs) clock (1 # 0) 1 room
    ∷ spot_call 2 (full rows) 0 (with_entry succs) (replicate 64 0) (1 # 0) 1 room
    ∷ spot_call 1 (full rows) 0 (with_entry succs) clock root 1 room
    ∷ spot_call 1 (spoilt rows) 0 (with_entry succs) [] root 1 room
    ∷ spot_call 4_097 (full rows) 0 (with_entry succs) [] (1 # 0) 0 room
    ∷ spot_call 1 (full rows) 8_193 (with_entry succs) [] (1 # 0) 0 room
    ∷ spot_call 1 (full rows) 0 (with_entry succs) short (1 # 0) 0 room
    ∷ []
    -- accepted: HEAD, behind the list's own row; 10 with no element; its one element, and 10 where a clock covers none; 12 and 2, each before those; 1
    ≡ spot (accepted (head ∷ 1 ∷ [])) (full rows) (with_entry succs) [] (cleared room)
    ∷ spot (refused 10 0) (full rows) (with_entry succs) clock (cleared room)
    ∷ spot (accepted (2 # 0 ∷ 2 ∷ [])) (full rows) (with_entry succs) clock (cleared room)
    ∷ spot (refused 10 0) (full rows) (with_entry succs) (replicate 64 0) (cleared room)
    ∷ spot (refused 12 0) (full rows) (with_entry succs) clock (cleared room)
    ∷ spot (refused 2 0) (spoilt rows) (with_entry succs) [] (cleared room)
    ∷ spot (refused 2 0) (full rows) (with_entry succs) [] (cleared room)
    ∷ spot (refused 2 0) (full rows) (with_entry succs) [] (cleared room)
    ∷ spot (refused 1 0) (full rows) (with_entry succs) short room
    ∷ []
unfolding computes_sized
spot-calls-right rows succs room sized spoilt-sized = rw (sized, spoilt-sized)

-- ---- sizes that are wrong, and the exported calls

-- 1, and nothing lent changes, where a slice of the document has not its size
pub misfits-right :
    (n m k object target : ℕ) (rows succs batch clock out room : List ℕ)
    → document_sized rows succs room ≡ false
    → (merge (refused 1 0) rows succs batch room ≡ merge_call n rows m succs k batch room)
    × (picture (refused 1 0) rows succs clock out room ≡ picture_call n rows m succs clock out room)
    × (spot (refused 1 0) rows succs clock room ≡ spot_call n rows m succs clock object target room)
unfolding computes_sized
misfits-right n m k object target rows succs batch clock out room misfit = (rw misfit, rw misfit, rw misfit)

-- 2 for claims over the limits, before anything is cut: whatever stands in the slices
pub claims-right :
    (n m k object target : ℕ) (rows succs batch clock out room : List ℕ)
    → document_sized rows succs room ≡ true
    → batch_sized k batch ≡ true
    → clock_sized clock ≡ true
    → out_sized n out ≡ true
    → claim_refusal n m ≡ refused 2 0
    → (merge (refused 2 0) rows succs batch (cleared room) ≡ merge_call n rows m succs k batch room)
    × (picture (refused 2 0) rows succs clock out (cleared room) ≡ picture_call n rows m succs clock out room)
    × (spot (refused 2 0) rows succs clock (cleared room) ≡ spot_call n rows m succs clock object target room)
unfolding merge_call picture_call spot_call
claims-right n m k object target rows succs batch clock out room sized batch-sized clock-sized out-sized over =
    (rw (sized, batch-sized, over), rw (sized, clock-sized, out-sized, over), rw (sized, clock-sized, over))

-- the number, the answer's words, and the lent slices in the order of the arguments; a short answer is 1, and nothing is written
pub exports-right :
    (rows succs room : List ℕ)
    → document_sized (used rows) (with_entry succs) room ≡ true
    → merge_exported 1 (used rows) 0 (with_entry succs) 2 ops room (nines 3)
    ∷ merge_exported 1 (used rows) 0 (with_entry succs) 2 (the_counter ++ the_list) room (nines 3)
    ∷ merge_exported 1 (used rows) 0 (with_entry succs) 2 ops room too_short
    ∷ picture_exported 1 (used rows) 0 (with_entry succs) clock out room (nines 3)
    ∷ picture_exported 1 (used rows) 0 (with_entry succs) clock out room too_short
    ∷ spot_exported 1 (used rows) 0 (with_entry succs) clock (1 # 0) 0 room (nines 3)
    ∷ spot_exported 1 (used rows) 0 (with_entry succs) clock (1 # 0) 1 room (nines 3)
    ∷ spot_exported 1 (used rows) 0 (with_entry succs) clock (1 # 0) 0 room too_short
    ∷ []
    ≡ export 0 (0 ∷ 2 ∷ 1 ∷ [])
    ((row_of the_list ++ row_of the_counter ++ drop 12 rows) ∷ (2 # 0 ∷ 3 # 0 ∷ 0 ∷ 0 ∷ succs) ∷ ops ∷ cleared room ∷ [])
    ∷ export 5 (5 ∷ 1 ∷ 0 ∷ []) (used rows ∷ with_entry succs ∷ (the_counter ++ the_list) ∷ cleared room ∷ [])
    ∷ export 1 too_short (used rows ∷ with_entry succs ∷ ops ∷ room ∷ [])
    ∷ export 0 (0 ∷ 1 ∷ 0 ∷ []) (used rows ∷ with_entry succs ∷ clock ∷ (shown ++ nines 6) ∷ cleared room ∷ [])
    ∷ export 1 too_short (used rows ∷ with_entry succs ∷ clock ∷ out ∷ room ∷ [])
    ∷ export 0 (0 ∷ head ∷ 1 ∷ []) (used rows ∷ with_entry succs ∷ clock ∷ cleared room ∷ [])
    ∷ export 10 (10 ∷ 0 ∷ 0 ∷ []) (used rows ∷ with_entry succs ∷ clock ∷ cleared room ∷ [])
    ∷ export 1 too_short (used rows ∷ with_entry succs ∷ clock ∷ room ∷ [])
    ∷ []
unfolding computes_sized
exports-right rows succs room sized = rw sized
