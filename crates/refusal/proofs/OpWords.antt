-- What an operation's row says is what the operation says.
use mathlib.Core.Path.{◌≡◌}
use native.Mathlib.Omega.{arith}
use Rattle.model.specs.Row.{Op, insert_of, action_of, row_of}
use Rattle.model.specs.Malformed.{row_fits}
use Rattle.laws.proofs.RowWords.{word_of, row-fits-of}

module _ (o : Op) where
  pub insert_same : insert_of (row_of o) ≡ insert_of o
  insert_same = word_of o 8 (omega arith)

  pub action_same : action_of (row_of o) ≡ action_of o
  action_same = word_of o 9 (omega arith)

  pub row_fits_same : row_fits (row_of o) ≡ row_fits o
  row_fits_same = row-fits-of o
