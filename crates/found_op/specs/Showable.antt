-- What the pass relies on: a well-formed document of whole rows, and an output that holds an entry for each.
use Rattle.std.specs.Prelude.{ℕ, ◌*◌, ◌≤◌, ◌≡◌, true, List, length}
use Rattle.model.specs.Sizes.{entry_words}
use Rattle.model.specs.Row.{Row, Succ}
use Rattle.model.specs.Document.{Document}
use Rattle.model.specs.WellFormed.{well_formed}
use Rattle.ids.proofs.KeyWords.{Whole}
use Rattle.laws.proofs.Members.{All}

abbrev pub document : List Row → List Succ → Document
document rows succs = record { rows = rows; succs = succs }

pub record Showable (rows : List Row) (succs : List Succ) (out : List ℕ) : Type 0 where
  pub whole : All Whole rows
  pub formed : well_formed (document rows succs) ≡ true
  pub holds : length rows * entry_words ≤ length out
