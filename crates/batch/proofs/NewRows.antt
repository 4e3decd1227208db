-- The new rows that a list of operations' numbers names: how many, which, and part by part.
use mathlib.Core.Path.{◌≡◌, refl, sym, ap, ◌∙◌}
use mathlib.Core.List.{List, [], ◌∷◌, ◌++◌, map-append, append_assoc}
use Prim.Native.Nat.{ℕ, ◌+◌, ◌*◌, ◌<◌}
use lib.ListN.{length, get_or, take, set}
use Rattle.model.specs.Sizes.{row_words, op_words}
use Rattle.model.specs.Row.{Row}
use Rattle.batch.specs.Parts.{part}
use Rattle.batch.specs.Places.{picked}
use Rattle.batch.specs.Walk.{new_rows_of}
use Rattle.batch.proofs.PlacedWords.{length-picked, get_or-picked}
use Rattle.batch.proofs.Fronts.{put_next}

pub length-new : (ops group : List ℕ) → length (new_rows_of ops group) ≡ length group
unfolding new_rows_of
length-new ops group = length-picked row_words op_words ops group

pub new-at : (ops group : List ℕ) (j : ℕ) → j < length group → get_or (new_rows_of ops group) j [] ≡ part row_words ops (get_or group j 0 * op_words)
unfolding new_rows_of
new-at ops group j h = get_or-picked row_words op_words ops group j h

pub new_none : (ops : List ℕ) → new_rows_of ops [] ≡ []
unfolding new_rows_of picked
new_none ops = refl

pub new-append : (ops a b : List ℕ) → new_rows_of ops (a ++ b) ≡ new_rows_of ops a ++ new_rows_of ops b
unfolding new_rows_of picked
new-append ops a b = map-append (λ x. part row_words ops (x * op_words)) a b

new-one : (ops : List ℕ) (x : ℕ) → new_rows_of ops (x ∷ []) ≡ part row_words ops (x * op_words) ∷ []
unfolding new_rows_of picked
new-one ops x = refl

-- one number more is stored
pub new-next : (ops order : List ℕ) (out x : ℕ) → out < length order → (more : List Row)
    → new_rows_of ops (take out order) ++ part row_words ops (x * op_words) ∷ more ≡ new_rows_of ops (take (out + 1) (set order out x)) ++ more
new-next ops order out x h more =
    sym (append_assoc (new_rows_of ops (take out order)) (part row_words ops (x * op_words) ∷ []) more)
    ∙ ap (λ (l : List Row). l ++ more)
    (sym (ap (new_rows_of ops) (put_next order out x h) ∙ new-append ops (take out order) (x ∷ []) ∙ ap (λ (l : List Row). new_rows_of ops (take out order) ++ l) (new-one ops x)))
