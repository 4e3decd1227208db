-- What comes back of the merge's call, with the answer that its result is, and what its parts may rely on.
use Rattle.std.specs.Prelude.{ℕ, ◌*◌, ◌≤◌, ◌≡◌, List, T, length}
use Rattle.model.specs.Sizes.{max_rows, max_succs, row_words, op_words, succ_words, room_words}
use Rattle.model.specs.Answer.{Answer, is_accepted}
use Rattle.model.specs.Refusal.{batch_refusal}
use Rattle.model.specs.WellFormed.{well_formed}
use Rattle.model.specs.Calls.{MergeBack, document_in, batch_in}
pub use Rattle.refusal.specs.CheckedBatch.{answer_of}

abbrev pub back : Answer → (rows succs batch room : List ℕ) → MergeBack
back answer rows succs batch room =
    record { answer = answer; rows = rows; succs = succs; batch = batch; room = room }

-- slices of their sizes with a well-formed document, whose claims are within the limits
pub record Fitting (n : ℕ) (rows : List ℕ) (m : ℕ) (succs : List ℕ) (k : ℕ) (ops room : List ℕ) : Type 0 where
  pub rows-size : length rows ≡ max_rows * row_words
  pub succs-size : length succs ≡ max_succs * succ_words
  pub room-size : length room ≡ room_words
  pub rows_in : n * row_words ≤ length rows
  pub succs-in : m * succ_words ≤ length succs
  pub ops-in : k * op_words ≤ length ops
  pub well : T (well_formed (document_in n rows m succs))

-- the same, with a batch that passes its checks
pub record Merging (n : ℕ) (rows : List ℕ) (m : ℕ) (succs : List ℕ) (k : ℕ) (ops room : List ℕ) : Type 0 where
  pub fitting : Fitting n rows m succs k ops room
  pub passes : T (is_accepted (batch_refusal (document_in n rows m succs) (batch_in k ops)))
