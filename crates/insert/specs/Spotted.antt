-- 01's number and values for each answer of the spot, and the answer that its definition gives.
use Rattle.std.specs.Prelude.{ℕ, List, [], ◌∷◌, Option, Some, None, Result, ltb, if◌then◌else◌}
use Rattle.model.specs.Order.{elements}
use Rattle.model.specs.Document.{Document}
use Rattle.model.specs.Spot.{width, widths, spot_element, spot_place, spot_refusal}
use Rattle.model.specs.Answer.{Answer, accepted, ◌otherwise◌}
use Rattle.model.specs.Calls.{SpotBack}
use Rattle.ids.specs.declared.refusal.Refusal.{Refusal}
use Rattle.ids.specs.Refusals.{answer_by}
use Rattle.insert.specs.declared.spot.Spot.{Spot}

abbrev pub values_of : Spot → List ℕ
values_of spot = spot.element ∷ spot.place ∷ []

-- the call's answer
abbrev pub placed_answer : Result Spot Refusal → Answer
placed_answer result = answer_by values_of result

-- the spot at the target-th visible element
abbrev pub at : List ℕ → Document → ℕ → ℕ → Spot
at clock d list target =
    let element = spot_element clock d list target in
    record { element = element; place = spot_place d list element }

-- in a well-formed document
unfoldable pub spot_of : List ℕ → Document → ℕ → ℕ → Answer
spot_of clock d list target = spot_refusal clock d list target otherwise accepted (values_of (at clock d list target))

-- in a list of it
unfoldable pub spotted : List ℕ → Document → ℕ → ℕ → Option Spot
spotted clock d list target =
    if ltb (widths (width clock d list) (elements d.rows list)) target
    then None
    else Some (at clock d list target)

-- what comes back of the call
abbrev pub back : Answer → (rows succs clock room : List ℕ) → SpotBack
back answer rows succs clock room = record { answer = answer; rows = rows; succs = succs; clock = clock; room = room }
