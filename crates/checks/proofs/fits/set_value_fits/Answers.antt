use mathlib.Core.Path.{sym, ap, ◌∙◌}
use Rattle.checks.specs.Fits.{is_value}
use Rattle.checks.proofs.Tables.{value-known, value-unknown}
use Rattle.checks.proofs.fits.set_value_fits.Goals as goal

pub returns-in-Ok : goal.returns-in-Ok
returns-in-Ok c =
    c.is_value.ensures ∙ ap (is_value c.in-Ok.kind) c.value.ensures ∙ sym (value-known _ _ (rw c.value_kind.ensures at c.try_from.ensures) _ c.in-Ok.is)

pub returns-in-Err : goal.returns-in-Err
returns-in-Err c = sym (value-unknown _ _ (rw c.value_kind.ensures at c.try_from.ensures) _ c.in-Err.is)
