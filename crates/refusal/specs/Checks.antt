-- Why an operation that fails a check is refused, and so 01's number of the check.
use Rattle.std.specs.Prelude.{ℕ}
use Rattle.ids.specs.declared.refusal.Reason.{Reason}
use Rattle.ids.specs.declared.refusal.Reason.TheVariants.{Malformed, IdTaken, NoObject, NoElement, NoPredecessor}
use Rattle.ids.specs.Refusals.{reason_number}
use Rattle.refusal.specs.declared.check.Check.{Check}
use Rattle.refusal.specs.declared.check.Check.TheVariants.{Form, Id, Object, Element, Predecessors}

abbrev pub check_reason : Check → Reason
check_reason Form = Malformed
check_reason Id = IdTaken
check_reason Object = NoObject
check_reason Element = NoElement
check_reason Predecessors = NoPredecessor

abbrev pub check_number : Check → ℕ
check_number check = reason_number (check_reason check)
