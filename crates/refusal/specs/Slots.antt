-- Ids fall on the slots of a table. Which slot is of no matter to any answer; that the ids of one actor in a row fall on slots in a row is what
-- keeps most of them apart.
use Rattle.std.specs.Prelude.{ℕ, ◌+◌, ◌*◌, ◌%◌}
use Rattle.model.specs.Sizes.{max_rows}
use Rattle.model.specs.Id.{counter, actor}

-- as many as a document can have rows
unfoldable pub slots : ℕ
slots = max_rows

-- how far apart two actors' ids with one counter fall
unfoldable pub apart : ℕ
apart = 1009

unfoldable pub slot_of : ℕ → ℕ
slot_of id = (counter id + actor id * apart) % slots
