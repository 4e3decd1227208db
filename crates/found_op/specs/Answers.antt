-- 01's number and values for each answer of the picture, and what a call leaves: the answer, and the output.
use Rattle.std.specs.Prelude.{ℕ, List, [], ◌∷◌, Result}
use Rattle.model.specs.Answer.{Answer}
use Rattle.model.specs.Calls.{PictureBack}
use Rattle.ids.specs.Refusals.{answer_by}
use Rattle.ids.specs.declared.refusal.Refusal.{Refusal}

abbrev pub answer_of : Result ℕ Refusal → Answer
answer_of = answer_by (λ entries. entries ∷ [])

-- what comes back of the call
abbrev pub back : Answer → (rows succs clock out room : List ℕ) → PictureBack
back answer rows succs clock out room =
    record { answer = answer; rows = rows; succs = succs; clock = clock; out = out; room = room }
