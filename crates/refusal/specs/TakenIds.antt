-- Check 5 by the words that hold ids: word 0 of operations and rows, word 1 of successor entries.
use Rattle.std.specs.Prelude.{ℕ, Bool, ◌||◌, List, eqb, get_or}
use Rattle.model.specs.Basic.{any}
use Rattle.model.specs.Row.{Row, Op, Succ}

unfoldable pub has_word : ℕ → ℕ → List ℕ → Bool
has_word f id p = eqb id (get_or p f 0)

unfoldable pub word_in : ℕ → ℕ → List (List ℕ) → Bool
word_in f id ps = any (has_word f id) ps

unfoldable pub taken : List Op → List Row → List Succ → ℕ → Bool
taken earlier rs ss id = word_in 0 id earlier || word_in 0 id rs || word_in 1 id ss
