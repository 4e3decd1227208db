use mathlib.Core.Path.{sym, ◌∙◌}
use Rattle.wellformed.proofs.Whole.{claims-over, claims-fit, lent-from, lent_rows}
use Rattle.wellformed.proofs.document.fits_claims.Goals as goal

pub rules_hold-requires : goal.rules_hold-requires
rules_hold-requires c =
    rw c.new.ensures
    (lent_rows (lent-from _ _ _ c.args.succs.now _ c.requires (sym c.over_limits.ensures ∙ c.if-not-over_limits.true)) (λ j. (c.type_inv.rows j).fits))

pub returns-then-not-over_limits : goal.returns-then-not-over_limits
returns-then-not-over_limits c =
    rw (c.new.ensures, c.new-then-not-over_limits.ensures) at c.rules_hold.ensures
    ∙ sym (claims-fit _ _ _ _ (sym c.over_limits.ensures ∙ c.if-not-over_limits.true))

pub returns-else-not-over_limits : goal.returns-else-not-over_limits
returns-else-not-over_limits c =
    rw c.if-not-over_limits.false (claims-over _ _ _ _ (sym c.over_limits.ensures ∙ c.if-not-over_limits.false))
