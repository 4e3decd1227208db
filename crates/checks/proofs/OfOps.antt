-- The checks of a row are the checks of the operation whose words start there.
use Prim.Native.Nat.{ℕ, ◌*◌}
use mathlib.Core.Path.{◌≡◌, sym, ap, ◌∙◌}
use mathlib.Core.List.{List}
use native.Mathlib.Omega.{arith}
use lib.ListN.{take, drop}
use lib.Seq.{take-take}
use Rattle.model.specs.Sizes.{row_words, op_words}
use Rattle.model.specs.Row.{Row, Op, row_of}
use Rattle.model.specs.Malformed.{row_fits}
use Rattle.laws.proofs.RowWords.{row-fits-of}
use Rattle.ids.specs.Words.{piece_at}

module _ (ops : List ℕ) (j : ℕ) where
  abbrev op : Op
  op = piece_at op_words ops j

  abbrev row : Row
  row = take row_words (drop (j * op_words) ops)

  pub op_row : row_of op ≡ row
  unfolding piece_at
  op_row = take-take row_words op_words (drop (j * op_words) ops) (omega arith)

  pub op_fits : row_fits op ≡ row_fits row
  op_fits = sym (row-fits-of op) ∙ ap row_fits op_row
