-- The words of a slice from a place on.
use Rattle.std.specs.Prelude.{ℕ, List, take, drop}

unfoldable pub part : ℕ → List ℕ → ℕ → List ℕ
part w xs at = take w (drop at xs)
