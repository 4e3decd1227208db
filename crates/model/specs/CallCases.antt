-- What stands in the lent lists when a call ends, on short lists, as one table with a single claim: the ends of the calls ask for no size. Slots that are
-- not in use hold 9, so that what must stay can be told from what must be zero. And the sizes and claims that are tested before. SizedCases has whole
-- calls; crate call_cases computes some at their documented sizes.
use Rattle.std.specs.Prelude.{ℕ, ◌≡◌, refl, Bool, true, not, ◌&&◌, List, [], ◌∷◌, ◌++◌, replicate}
use Rattle.model.specs.Basic.{all, same, concat}
use Rattle.model.specs.Id.{root, head}
use Rattle.model.specs.Kinds.{make_list, null_kind, counter_kind}
use Rattle.model.specs.Row.{Op, row_of}
use Rattle.model.specs.Document.{Document, merged}
use Rattle.model.specs.Answer.{Answer, accepted, refused, same_answer, is_accepted}
use Rattle.model.specs.Picture.{picture}
use Rattle.model.specs.Calls.{MergeBack, PictureBack, SpotBack, batch_sized, clock_sized, out_sized, document_refusal, claim_refusal, merge_refusal, merge_end, picture_end, merge_call, picture_call, spot_call}
use Rattle.model.specs.Write.{◌#◌, key, at, makes_list, inserts, deletes}
use Rattle.model.specs.Ground.{is_refused}
use Rattle.model.specs.Rules.{computes}

-- ---- what came back is what was wanted

abbrev pub same_merge : MergeBack → Answer → List ℕ → List ℕ → List ℕ → List ℕ → Bool
same_merge back answer rows succs batch room =
    same_answer back.answer answer && same back.rows rows && same back.succs succs && same back.batch batch && same back.room room

abbrev pub same_picture : PictureBack → Answer → List ℕ → List ℕ → List ℕ → List ℕ → List ℕ → Bool
same_picture back answer rows succs clock out room =
    same_answer back.answer answer
    && same back.rows rows
    && same back.succs succs
    && same back.clock clock
    && same back.out out
    && same back.room room

abbrev pub same_spot : SpotBack → Answer → List ℕ → List ℕ → List ℕ → List ℕ → Bool
same_spot back answer rows succs clock room =
    same_answer back.answer answer && same back.rows rows && same back.succs succs && same back.clock clock && same back.room room

-- ---- short lists to lend

abbrev pub nines : ℕ → List ℕ
nines n = replicate n 9

abbrev room : List ℕ
room = nines 5

abbrev no_room : List ℕ
no_room = replicate 5 0

-- list 1@0 at ROOT key "r"; then counter 2@0 in it, and its Delete 3@0
abbrev pub the_list : Op
the_list = makes_list (1 # 0) root (key 114)

abbrev pub the_counter : Op
the_counter = inserts (2 # 0) (1 # 0) head counter_kind 10

abbrev pub batch : List Op
batch = deletes (3 # 0) (1 # 0) (at (2 # 0)) (2 # 0 ∷ []) ∷ the_counter ∷ []

abbrev old : Document
old = record { rows = row_of the_list ∷ []; succs = [] }

abbrev rows : List ℕ
rows = row_of the_list ++ nines 30

abbrev succs : List ℕ
succs = nines 6

abbrev pub out : List ℕ
out = nines 20

-- the list's entry: its key, Make list, null 0, winner, no conflict, no mark
abbrev pub shown : List ℕ
shown = 1 # 0 ∷ root ∷ key 114 ++ make_list ∷ null_kind ∷ 0 ∷ 1 ∷ 0 ∷ 0 ∷ []

-- ---- the table

unfoldable pub ends : List Bool
ends =
    -- accepted: the counts, the new words, the old ones behind them; the room is zero
    same_merge (merge_end (merge_refusal old batch) (merged old batch) rows succs (concat batch) room) (accepted (2 ∷ 1 ∷ []))
    (row_of the_list ++ row_of the_counter ++ nines 18)
    (2 # 0 ∷ 3 # 0 ∷ 0 ∷ 0 ∷ nines 2)
    (concat batch)
    no_room
    ∷ same_picture (picture_end (document_refusal old) (picture [] old) rows succs [] out room) (accepted (1 ∷ [])) rows succs []
    (shown ++ nines 6)
    no_room
    -- refused: nothing changes, but the room is zero
    ∷ same_merge (merge_end (merge_refusal old (the_counter ∷ the_list ∷ [])) (merged old batch) rows succs (concat batch) room) (refused 5 1)
    rows
    succs
    (concat batch)
    no_room
    ∷ same_picture (picture_end (claim_refusal 4_097 0) (picture [] old) rows succs [] out room) (refused 2 0) rows succs [] out no_room
    -- refused with 1, as slices so short are: nothing changes
    ∷ same_merge (merge_call 1 rows 0 succs 2 (concat batch) room) (refused 1 0) rows succs (concat batch) room
    ∷ same_picture (picture_call 1 rows 0 succs [] out room) (refused 1 0) rows succs [] out room
    ∷ same_spot (spot_call 1 rows 0 succs (nines 3) (1 # 0) 0 room) (refused 1 0) rows succs (nines 3) room
    -- 1: a batch has exactly 29 words for each operation; a clock has 64 or none; the output at least 14 for each row, but for a claim over 4,096
    ∷ batch_sized 0 []
    ∷ batch_sized 2 (nines 58)
    ∷ not (batch_sized 2 (nines 57))
    ∷ not (batch_sized 2 (nines 59))
    ∷ not (batch_sized 18_446_744_073_709_551_615 [])
    ∷ clock_sized []
    ∷ clock_sized (nines 64)
    ∷ not (clock_sized (nines 1))
    ∷ not (clock_sized (nines 63))
    ∷ not (clock_sized (nines 65))
    ∷ out_sized 0 []
    ∷ out_sized 2 (nines 28)
    ∷ out_sized 2 (nines 29)
    ∷ not (out_sized 2 (nines 27))
    ∷ not (out_sized 4_096 (nines 28))
    ∷ out_sized 4_097 []
    -- 2: "a claim over 4,096 is 2", and one of more than 8,192 successors
    ∷ is_accepted (claim_refusal 4_096 8_192)
    ∷ is_refused (claim_refusal 4_097 0) 2 0
    ∷ is_refused (claim_refusal 0 8_193) 2 0
    ∷ is_refused (claim_refusal 18_446_744_073_709_551_615 18_446_744_073_709_551_615) 2 0
    ∷ []

pub ends-right : all (λ t. t) ends ≡ true
unfolding ends computes
ends-right = refl
