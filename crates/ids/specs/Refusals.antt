-- 01's number for each reason to refuse, and the answer that a call's result is.
use Rattle.std.specs.Prelude.{ℕ, List, Result, Ok, Err}
use Rattle.model.specs.Answer.{Answer, accepted, refused}
use Rattle.ids.specs.declared.refusal.Reason.{Reason}
use Rattle.ids.specs.declared.refusal.Reason.TheVariants.{Unsized, Unformed, LongBatch, Malformed, IdTaken, NoObject, NoElement, NoPredecessor, Full, InvalidIndex, NoList}
use Rattle.ids.specs.declared.refusal.Refusal.{Refusal}

abbrev pub reason_number : Reason → ℕ
reason_number Unsized = 1
reason_number Unformed = 2
reason_number LongBatch = 3
reason_number Malformed = 4
reason_number IdTaken = 5
reason_number NoObject = 6
reason_number NoElement = 7
reason_number NoPredecessor = 8
reason_number Full = 9
reason_number InvalidIndex = 10
reason_number NoList = 12

-- accepted with the values of what is given, or refused with number and place
abbrev pub answer_by : {A : Type 0} → (A → List ℕ) → Result A Refusal → Answer
answer_by values (Ok x) = accepted (values x)
answer_by values (Err r) = refused (reason_number r.reason) r.place
