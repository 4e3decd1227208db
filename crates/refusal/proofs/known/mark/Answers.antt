use mathlib.Core.Path.{ap, ◌∙◌}
use mathlib.Core.List.{[]}
use native.Mathlib.Omega.{arith}
use lib.ListN.{get_or}
use Rattle.model.specs.Row.{id_of, row_of}
use Rattle.laws.proofs.RowWords.{id-of}
use Rattle.refusal.proofs.Marks.{mark-start, mark-turn, marked}
use Rattle.refusal.proofs.known.mark.Goals as goal

pub loop-i-init : goal.loop-i-init
loop-i-init c = mark-start c.requires

pub bounds-marks-slot : goal.bounds-marks-slot
bounds-marks-slot c = omega (arith, c.slot.ensures.small, c.loop-i.invariant.table)

pub loop-i-preserved : goal.loop-i-preserved
loop-i-preserved c =
    let e = c.id.ensures ∙ ap id_of (c.row.ensures ∙ ap row_of c.get.ensures) ∙ id-of (get_or c.args.ops.now c.loop-i.i []) in
    mark-turn c.loop-i.invariant e c.slot.ensures.same c.slot.ensures.small

pub returns : goal.returns
returns c = marked (omega (arith, c.loop-i-test.false, c.len-i-end.ensures)) c.loop-i.invariant
