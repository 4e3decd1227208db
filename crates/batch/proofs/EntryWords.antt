-- What the code reads of an operation for its successor entries.
use mathlib.Core.Path.{◌≡◌}
use mathlib.Core.Bool.{Bool, false}
use Prim.Native.Nat.{ℕ, ◌<◌}
use native.Mathlib.Omega.{arith}
use lib.ListN.{get_or}
use Rattle.model.specs.Sizes.{row_words}
use Rattle.model.specs.Row.{Op, row_of, is_increment}
use Rattle.laws.proofs.RowWords.{word_of}
use Rattle.batch.specs.Entries.{carried, entry_by}

-- an operation's first words are its row's
pub row_word : (o : Op) (k : ℕ) → k < row_words → get_or (row_of o) k 0 ≡ get_or o k 0
row_word o k h = word_of o k h

-- where the operation is no Increment, its entry does not depend on what the predecessor is
pub entry_plain : (o : Op) (p : ℕ) (counter : Bool) → is_increment (row_of o) ≡ false → entry_by false o p ≡ entry_by counter o p
unfolding entry_by carried
entry_plain o p counter e =
    let n : is_increment o ≡ false = rw (word_of o 9 (omega arith)) at e in
    rw n
