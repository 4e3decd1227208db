-- The calls as a Rust or C program meets them: the answer as three plain words, in a slice of its own (01, "Each exported call takes the answer
-- apart into plain numbers"; docs/LAYOUT.md).
use Rattle.std.specs.Prelude.{ℕ, Bool, not, List, [], ◌∷◌, eqb, length, get_or, if◌then◌else◌}
use Rattle.model.specs.Sizes.{actors, max_rows, max_succs, max_batch, row_words, succ_words, op_words, entry_words, answer_width, room_words}
use Rattle.model.specs.Answer.{Answer, accepted, refused}
use Rattle.model.specs.Calls.{merge_call, picture_call, spot_call}

-- 0 and the values, or the refusal's number and place; zero past them
unfoldable pub answer_words : Answer → List ℕ
answer_words (accepted values) = 0 ∷ get_or values 0 0 ∷ get_or values 1 0 ∷ []
answer_words (refused number place) = number ∷ place ∷ 0 ∷ []

-- the number that the call returns: the first of them
unfoldable pub number_of : Answer → ℕ
number_of (accepted values) = 0
number_of (refused number place) = number

unfoldable pub answer_sized : List ℕ → Bool
answer_sized answer = eqb (length answer) answer_width

-- what comes back of an exported call: the number, the answer's words, and all the other lent slices in the order of its arguments
pub record Exported : Type 0 where
  pub returned : ℕ
  pub answer : List ℕ
  pub lent : List (List ℕ)

-- a slice for the answer that has not three words is a misfit, and nothing is written
unfoldable pub exported : (answer : List ℕ) (given : Answer) (before after : List (List ℕ)) → Exported
exported answer given before after =
    if not (answer_sized answer)
    then record { returned = 1; answer = answer; lent = before }
    else record { returned = number_of given; answer = answer_words given; lent = after }

unfoldable pub merge_exported : (n : ℕ) (rows : List ℕ) (m : ℕ) (succs : List ℕ) (k : ℕ) (batch room answer : List ℕ) → Exported
merge_exported n rows m succs k batch room answer =
    let b = merge_call n rows m succs k batch room in
    exported answer b.answer (rows ∷ succs ∷ batch ∷ room ∷ []) (b.rows ∷ b.succs ∷ b.batch ∷ b.room ∷ [])

unfoldable pub picture_exported : (n : ℕ) (rows : List ℕ) (m : ℕ) (succs clock out room answer : List ℕ) → Exported
picture_exported n rows m succs clock out room answer =
    let b = picture_call n rows m succs clock out room in
    exported answer b.answer (rows ∷ succs ∷ clock ∷ out ∷ room ∷ []) (b.rows ∷ b.succs ∷ b.clock ∷ b.out ∷ b.room ∷ [])

unfoldable pub spot_exported : (n : ℕ) (rows : List ℕ) (m : ℕ) (succs clock : List ℕ) (object target : ℕ) (room answer : List ℕ) → Exported
spot_exported n rows m succs clock object target room answer =
    let b = spot_call n rows m succs clock object target room in
    exported answer b.answer (rows ∷ succs ∷ clock ∷ room ∷ []) (b.rows ∷ b.succs ∷ b.clock ∷ b.room ∷ [])

-- the documented sizes, by number: rows, successors, batch; words of a row, a successor, an operation, a picture entry, the working room, a clock
unfoldable pub size_of : ℕ → ℕ
size_of which = get_or (max_rows ∷ max_succs ∷ max_batch ∷ row_words ∷ succ_words ∷ op_words ∷ entry_words ∷ room_words ∷ actors ∷ []) which 0
