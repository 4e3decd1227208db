-- The public calls (01, "What comes back"): each is ONE function, from all that is lent and claimed to the answer and to all that was lent,
-- as it is at the end. A contract is the equation with it.
use Rattle.std.specs.Prelude.{ℕ, ◌*◌, Bool, not, ◌&&◌, ◌||◌, List, [], ◌∷◌, ◌++◌, leb, ltb, eqb, length, drop, replicate, if◌then◌else◌}
use Rattle.model.specs.Basic.{concat, pieces}
use Rattle.model.specs.Sizes.{actors, max_rows, max_succs, row_words, op_words, succ_words, entry_words, room_words}
use Rattle.model.specs.Row.{Op}
use Rattle.model.specs.Document.{Document, merged}
use Rattle.model.specs.Answer.{Answer, accepted, refused, ◌otherwise◌, refuse}
use Rattle.model.specs.Refusal.{batch_refusal}
use Rattle.model.specs.WellFormed.{well_formed}
use Rattle.model.specs.Picture.{picture}
use Rattle.model.specs.Spot.{spot_element, spot_place, spot_refusal}

-- ---- what is lent

-- the document that n rows and m successors of two slices are
abbrev pub document_in : ℕ → List ℕ → ℕ → List ℕ → Document
document_in n rows m succs = record { rows = pieces row_words n rows; succs = pieces succ_words m succs }

-- the k operations of a slice
abbrev pub batch_in : ℕ → List ℕ → List Op
batch_in k batch = pieces op_words k batch

-- 1: "a lent slice has not its documented size"
unfoldable pub document_sized : List ℕ → List ℕ → List ℕ → Bool
document_sized rows succs room =
    eqb (length rows) (max_rows * row_words) && eqb (length succs) (max_succs * succ_words) && eqb (length room) room_words

-- exactly the words of each claimed operation
unfoldable pub batch_sized : ℕ → List ℕ → Bool
batch_sized k batch = eqb (length batch) (k * op_words)

-- a word for each actor, or no clock
unfoldable pub clock_sized : List ℕ → Bool
clock_sized clock = eqb (length clock) 0 || eqb (length clock) actors

-- "output: at least one entry for each claimed row; a claim over 4,096 is 2"
unfoldable pub out_sized : ℕ → List ℕ → Bool
out_sized n out = ltb max_rows n || leb (n * entry_words) (length out)

-- 2: claims are tested as the numbers that they are, before anything is cut
unfoldable pub claim_refusal : ℕ → ℕ → Answer
claim_refusal n m = refuse 2 (ltb max_rows n || ltb max_succs m)

-- 2: "document not well-formed"
unfoldable pub document_refusal : Document → Answer
document_refusal d = refuse 2 (not (well_formed d))

-- xs with new words at its start: "slots past the counts in use .. are unchanged"
abbrev pub over : List ℕ → List (List ℕ) → List ℕ
over xs new = concat new ++ drop (length (concat new)) xs

-- "working room is zero after every answer except 1"
abbrev pub cleared : List ℕ → List ℕ
cleared room = replicate (length room) 0

abbrev pub misfit : Answer
misfit = refused 1 0

-- ---- the merge

unfoldable pub merge_refusal : Document → List Op → Answer
merge_refusal d b = document_refusal d otherwise batch_refusal d b

pub record MergeBack : Type 0 where
  pub answer : Answer
  pub rows : List ℕ
  pub succs : List ℕ
  pub batch : List ℕ
  pub room : List ℕ

-- "Refused: nothing lent changes, but working room is zero". Accepted: the merged document stands at the start of its slices.
abbrev pub merge_end : Answer → Document → List ℕ → List ℕ → List ℕ → List ℕ → MergeBack
merge_end (refused number place) new rows succs batch room =
    record { answer = refused number place; rows = rows; succs = succs; batch = batch; room = cleared room }
merge_end (accepted values) new rows succs batch room =
    record {
      answer = accepted (length new.rows ∷ length new.succs ∷ []);
      rows = over rows new.rows;
      succs = over succs new.succs;
      batch = batch;
      room = cleared room;
    }

unfoldable pub merge_call : (n : ℕ) (rows : List ℕ) (m : ℕ) (succs : List ℕ) (k : ℕ) (batch room : List ℕ) → MergeBack
merge_call n rows m succs k batch room =
    let d = document_in n rows m succs in
    let b = batch_in k batch in
    if not (document_sized rows succs room && batch_sized k batch)
    then record { answer = misfit; rows = rows; succs = succs; batch = batch; room = room }
    else merge_end (claim_refusal n m otherwise merge_refusal d b) (merged d b) rows succs batch room

-- ---- the picture

pub record PictureBack : Type 0 where
  pub answer : Answer
  pub rows : List ℕ
  pub succs : List ℕ
  pub clock : List ℕ
  pub out : List ℕ
  pub room : List ℕ

abbrev pub picture_end : Answer → List (List ℕ) → List ℕ → List ℕ → List ℕ → List ℕ → List ℕ → PictureBack
picture_end (refused number place) shown rows succs clock out room =
    record { answer = refused number place; rows = rows; succs = succs; clock = clock; out = out; room = cleared room }
picture_end (accepted values) shown rows succs clock out room =
    record {
      answer = accepted (length shown ∷ []);
      rows = rows;
      succs = succs;
      clock = clock;
      out = over out shown;
      room = cleared room;
    }

unfoldable pub picture_call : (n : ℕ) (rows : List ℕ) (m : ℕ) (succs clock out room : List ℕ) → PictureBack
picture_call n rows m succs clock out room =
    let d = document_in n rows m succs in
    if not (document_sized rows succs room && clock_sized clock && out_sized n out)
    then record { answer = misfit; rows = rows; succs = succs; clock = clock; out = out; room = room }
    else picture_end (claim_refusal n m otherwise document_refusal d) (picture clock d) rows succs clock out room

-- ---- the spot

pub record SpotBack : Type 0 where
  pub answer : Answer
  pub rows : List ℕ
  pub succs : List ℕ
  pub clock : List ℕ
  pub room : List ℕ

-- "the spot 1, 2, 12, 10"
unfoldable pub spot_answer : List ℕ → Document → ℕ → ℕ → Answer
spot_answer clock d object target =
    let e = spot_element clock d object target in
    document_refusal d otherwise spot_refusal clock d object target otherwise accepted (e ∷ spot_place d object e ∷ [])

unfoldable pub spot_call : (n : ℕ) (rows : List ℕ) (m : ℕ) (succs clock : List ℕ) (object target : ℕ) (room : List ℕ) → SpotBack
spot_call n rows m succs clock object target room =
    let d = document_in n rows m succs in
    if not (document_sized rows succs room && clock_sized clock)
    then record { answer = misfit; rows = rows; succs = succs; clock = clock; room = room }
    else
    record {
      answer = claim_refusal n m otherwise spot_answer clock d object target;
      rows = rows;
      succs = succs;
      clock = clock;
      room = cleared room;
    }
