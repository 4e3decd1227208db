-- The total of a counter as 01 has it: its word where it fits.
use Rattle.std.specs.Prelude.{ℕ, ℤ, Result, Ok, Err, if◌then◌else◌}
use Rattle.model.specs.Visible.{word, fits}
use Rattle.visible.specs.declared.sum.Outgrown.{Outgrown}

unfoldable pub totalled : ℤ → Result ℕ Outgrown
totalled z = if fits z then Ok (word z) else Err (record {})
