-- What later rules lean on, found by earlier ones.
use Rattle.std.specs.Prelude.{ℕ, ◌≤◌, List, length}
use Rattle.model.specs.Row.{Row}
use Rattle.laws.proofs.Members.{All}
use Rattle.laws.proofs.RowOrder.{Apart}
use Rattle.laws.proofs.SubDocument.{Placed}
use Rattle.ids.proofs.KeyWords.{Whole}
use Rattle.checks.proofs.OneKey.{Plain}

-- row ids differ, so that at most one row has an id
pub record Differing (rows : List Row) : Type 0 where
  pub apart : Apart rows

-- and rows pass checks 4, 6 and 7, so that keys are compared by words
pub record Checked (rows : List Row) : Type 0 where
  pub differing : Differing rows
  pub placed : Placed rows
  pub plain : All Plain rows

-- the rows are there, and a word of the working room for each
pub record Lent (rows : List Row) (room : List ℕ) : Type 0 where
  pub whole : All Whole rows
  pub spacious : length rows ≤ length room
