-- What an exported call gives back.
use Rattle.std.specs.Prelude.{ℕ, List}
use Rattle.model.specs.Exports.{Exported}

-- the whole outcome of a call
abbrev pub outcome : (returned : ℕ) (answer : List ℕ) (lent : List (List ℕ)) → Exported
outcome returned answer lent = record { returned = returned; answer = answer; lent = lent }
