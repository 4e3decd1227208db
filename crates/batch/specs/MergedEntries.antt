-- New successor entries merged into the document's table of them.
use Rattle.std.specs.Prelude.{ℕ, ◌+◌, ◌*◌, ◌≤◌, ◌≡◌, List, length, drop}
use Rattle.model.specs.Basic.{pieces, sort}
use Rattle.model.specs.Sizes.{succ_words}
use Rattle.model.specs.Document.{succ_before}
use Rattle.laws.proofs.RowOrder.{SuccsApart}
use Rattle.batch.specs.Merge.{merge}

-- what is asked: the t entries of new are there, no two of one row and one successor, and the table has room for them behind its m
pub record EntriesFit (m t : ℕ) (new old : List ℕ) : Type 0 where
  pub room : (m + t) * succ_words ≤ length old
  pub there : t * succ_words ≤ length new
  pub apart : SuccsApart (pieces succ_words t new)

-- what comes back: both tables merged, and the words past them as they were
pub record EntriesMerged (m t : ℕ) (new old x : List ℕ) : Type 0 where
  pub front : pieces succ_words (m + t) x ≡ merge succ_before (pieces succ_words m old) (sort succ_before (pieces succ_words t new))
  pub past : drop ((m + t) * succ_words) x ≡ drop ((m + t) * succ_words) old
