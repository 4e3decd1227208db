use mathlib.Core.Path.{refl, sym, ◌∙◌}
use Rattle.wellformed.specs.Document.{rows_right}
use Rattle.wellformed.proofs.Differ.{differing}
use Rattle.wellformed.proofs.Whole.{all_right, checked_from}
use Rattle.wellformed.proofs.rules.passed.Goals.{then-not-no_delete-via-then-not-no_delete, then-not-no_delete-via-else-not-no_delete+then-not-ids_differ}
use Rattle.wellformed.proofs.rules.passed.Goals as goal

pub returns-then-not-no_delete : goal.returns-then-not-no_delete
unfolding rows_right
returns-then-not-no_delete c =
    elim c.then-not-no_delete.branch [
      | then-not-no_delete-via-then-not-no_delete w ↦ rw (sym c.no_delete.ensures ∙ w.if-not-no_delete.true)
      | then-not-no_delete-via-else-not-no_delete+then-not-ids_differ w ↦ rw (sym c.no_delete.ensures ∙ w.if-not-no_delete.false, sym w.ids_differ.ensures ∙ w.if-not-ids_differ.true)
    ]

pub invariant_of-apart : goal.invariant_of-apart
invariant_of-apart c = differing _ (sym c.ids_differ.ensures ∙ c.if-not-ids_differ.false)

pub invariant_of-result : goal.invariant_of-result
invariant_of-result c =
    checked_from c.requires
    (all_right _ (sym c.no_delete.ensures ∙ c.if-not-no_delete.false) (sym c.ids_differ.ensures ∙ c.if-not-ids_differ.false) (sym c.rows_pass.ensures ∙ c.if-rows_pass.true))

pub returns-then-rows_pass : goal.returns-then-rows_pass
returns-then-rows_pass c =
    (refl, all_right _ (sym c.no_delete.ensures ∙ c.if-not-no_delete.false) (sym c.ids_differ.ensures ∙ c.if-not-ids_differ.false) (sym c.rows_pass.ensures ∙ c.if-rows_pass.true))

pub returns-else-rows_pass : goal.returns-else-rows_pass
unfolding rows_right
returns-else-rows_pass c =
    rw (sym c.no_delete.ensures ∙ c.if-not-no_delete.false, sym c.ids_differ.ensures ∙ c.if-not-ids_differ.false, sym c.rows_pass.ensures ∙ c.if-rows_pass.false)
