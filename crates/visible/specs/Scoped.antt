-- What a row shows under a clock.
use Rattle.std.specs.Prelude.{ℕ, List, Option, Some, None, Result, Ok, Err, if◌then◌else◌}
use Rattle.model.specs.Row.{Row}
use Rattle.model.specs.Document.{Document}
use Rattle.model.specs.Visible.{visible}
use Rattle.model.specs.Picture.{outgrown, shown_value}
use Rattle.visible.specs.declared.sum.Outgrown.{Outgrown}

unfoldable pub scoped : List ℕ → Document → Row → Result (Option ℕ) Outgrown
scoped clock d r =
    if visible clock d r
    then if outgrown clock d r then Err (record {}) else Ok (Some (shown_value clock d r))
    else Ok None
