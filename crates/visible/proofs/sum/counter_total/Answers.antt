use Rattle.std.proofs.Common.{sym, ap, ◌∙◌}
use Rattle.visible.specs.Sum.{totalled}
use Rattle.visible.proofs.Totals.{summing-fits, summing-more, summing-end, total-is}
use Rattle.visible.proofs.sum.counter_total.Goals as goal

pub overflow_add-sum : goal.overflow_add-sum
overflow_add-sum c =
    summing-fits c.loop-entry.invariant c.in-Some.ensures.steps c.iter-entry-items.ensures.fits c.carried.type_inv c.signed-sum-then-covers.ensures c.carried.ensures

pub loop-entry-preserved-then-covers : goal.loop-entry-preserved-then-covers
loop-entry-preserved-then-covers c =
    summing-more c.loop-entry.invariant c.in-Some.ensures.steps c.iter-entry-items.ensures.fits c.carried.type_inv c.signed-sum-then-covers.ensures c.carried.ensures (sym c.covers.ensures ∙ c.if-covers.true)

pub returns : goal.returns
returns c =
    c.finished.ensures ∙ ap totalled (total-is _ c.args.succs.now _ c.id-id.ensures c.value-value.type_inv c.signed-sum.ensures c.value-value.ensures (summing-end c.loop-entry.invariant c.in-None.ensures.steps.0))
