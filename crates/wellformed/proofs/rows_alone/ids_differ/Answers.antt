use mathlib.Core.Path.{sym, ◌∙◌}
use Rattle.wellformed.proofs.Differ.{differ-start, differ-again, differ_new}
use Rattle.wellformed.proofs.rows_alone.ids_differ.Goals as goal

pub loop-row-init : goal.loop-row-init
loop-row-init c = rw c.iter-rest.ensures.same (differ-start c.args.rows.now)

pub returns-then-has_id : goal.returns-then-has_id
returns-then-has_id c =
    differ-again (rw c.in-Some.ensures.steps at c.loop-row.invariant) (rw c.id.ensures at (sym c.has_id.ensures ∙ c.if-has_id.true))

pub loop-row-preserved : goal.loop-row-preserved
loop-row-preserved c =
    differ_new (rw c.in-Some.ensures.steps at c.loop-row.invariant) (rw c.id.ensures at (sym c.has_id.ensures ∙ c.if-has_id.false))
