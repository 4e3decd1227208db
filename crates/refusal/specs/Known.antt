-- Does the document know an id of the batch? Most batches bring only new ones, and check 5 need not look at the document then.
use Rattle.std.specs.Prelude.{ℕ, ◌<◌, ◌≡◌, Bool, true, false, not, ◌||◌, List, [], length, get_or}
use Rattle.model.specs.Basic.{any}
use Rattle.model.specs.Row.{Row, Op, Succ, id_of}
use Rattle.refusal.specs.Slots.{slots, slot_of}
use Rattle.refusal.specs.TakenIds.{word_in}

-- is word f of one of the pieces an operation's id?
unfoldable pub meets : ℕ → List (List ℕ) → List Op → Bool
meets f ps b = any (λ p. word_in 0 (get_or p f 0) b) ps

unfoldable pub unknown : List Row → List Succ → List Op → Bool
unknown rs ss b = not (meets 0 rs b || meets 1 ss b)

-- the slots that the operations' ids fall on are marked
pub record Marked (marks : List Bool) (b : List Op) : Type 0 where
  pub table : length marks ≡ slots
  pub each : (j : ℕ) → j < length b → get_or marks (slot_of (id_of (get_or b j []))) false ≡ true
