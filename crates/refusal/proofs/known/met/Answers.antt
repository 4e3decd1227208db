use mathlib.Core.Path.{sym, ap, ◌∙◌}
use mathlib.Core.Bool.{false}
use native.Mathlib.Omega.{arith}
use lib.ListN.{get_or}
use Rattle.refusal.proofs.Marks.{unmarked}
use Rattle.refusal.proofs.known.met.Goals as goal

pub bounds-marks-slot : goal.bounds-marks-slot
bounds-marks-slot c = omega (arith, c.slot.ensures.small, c.requires.table)

pub returns-else-marks-slot : goal.returns-else-marks-slot
returns-else-marks-slot c =
    let a = c.args in
    c.if-marks-slot.false ∙ unmarked a.id c.requires (sym (ap (λ at. get_or a.marks.now at false) c.slot.ensures.same) ∙ c.if-marks-slot.false)
