-- Past the documented sizes there is none.
use Prim.Native.Nat.{ℕ, suc, ◌≤◌}
use mathlib.Core.Path.{◌≡◌, sym}
use mathlib.Core.List.{[], ◌∷◌}
use native.Mathlib.Omega.{arith}
use lib.ListN.{get_or-eq_default}
use Rattle.model.specs.Sizes.{actors, max_rows, max_succs, max_batch, row_words, succ_words, op_words, entry_words, room_words}
use Rattle.model.specs.Exports.{size_of}

pub past-sizes : (which : ℕ) → 9 ≤ which → 0 ≡ size_of which
unfolding size_of
past-sizes which h = sym (get_or-eq_default (max_rows ∷ max_succs ∷ max_batch ∷ row_words ∷ succ_words ∷ op_words ∷ entry_words ∷ room_words ∷ actors ∷ []) 0 h)

-- a number that is none of those tried so far
pub beyond : {which tried : ℕ} → tried ≤ which → (which ≡ tried → ⊥) → suc tried ≤ which
beyond h differs = omega (arith, h, differs)
