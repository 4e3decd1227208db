-- Do the slices hold what is claimed of them?
use Rattle.std.specs.Prelude.{ℕ, ◌*◌, ◌≤◌, Bool, ◌&&◌, List, leb, length}
use Rattle.model.specs.Sizes.{row_words, op_words, succ_words}

unfoldable pub lent_fits : ℕ → List ℕ → ℕ → List ℕ → ℕ → List ℕ → Bool
lent_fits n rows m succs k ops = leb (n * row_words) (length rows) && leb (m * succ_words) (length succs) && leb (k * op_words) (length ops)

pub record Lent (n : ℕ) (rows : List ℕ) (m : ℕ) (succs : List ℕ) (k : ℕ) (ops : List ℕ) : Type 0 where
  pub rows-there : n * row_words ≤ length rows
  pub succs-there : m * succ_words ≤ length succs
  pub ops-there : k * op_words ≤ length ops
