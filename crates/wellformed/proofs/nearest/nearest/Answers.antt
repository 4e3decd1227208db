use mathlib.Core.Path.{sym, ◌∙◌}
use native.Mathlib.Omega.{arith}
use Rattle.wellformed.proofs.StackWalk.{walk-on, shallow}
use Rattle.wellformed.proofs.nearest.nearest.Goals as goal

pub loop-row-preserved-then-is_insert : goal.loop-row-preserved-then-is_insert
loop-row-preserved-then-is_insert c =
    let w = rw c.in-Some.ensures.steps at c.loop-row.invariant in
    let e = sym c.is_insert.ensures ∙ c.if-is_insert.true in
    let s = w.same in
    let k = shallow w e c.in-Some-stands_at.is c.stands_at.ensures in
    walk-on w e c.in-Some-stands_at.is c.stands_at.ensures c.id.ensures c.object-last.ensures (omega (arith, c.requires))
