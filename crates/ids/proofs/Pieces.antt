-- The pieces of a slice by their index: what a walk over them has before and behind it, how long one is, and where a row starts.
use Prim.Native.Nat.{ℕ, ◌+◌, ◌*◌, ◌<◌, ◌≤◌}
use mathlib.Core.Path.{◌≡◌}
use mathlib.Core.List.{List, [], ◌∷◌, ◌++◌}
use native.Mathlib.Nat.{le_refl}
use native.Mathlib.Omega.{arith}
use native.Mathlib.Numerals.{add-one}
use borrow.Author.Tests.{lt-leb, le-leb}
use lib.ListN.{length, get_or, take, drop, drop_of_length-le, length-drop}
use lib.Seq.{length-take-le, drop-cons, take-suc}
use Rattle.model.specs.Basic.{pieces}
use Rattle.model.specs.Sizes.{row_words}
use Rattle.laws.proofs.Tests.{by_order}
use Rattle.laws.proofs.Pieces.{length-pieces, get_or-pieces}
use Rattle.ids.specs.Words.{piece_at, row_in, place_of}

module _ (w n : ℕ) (xs : List ℕ) (i : ℕ) where
  pub piece-at : i < n → get_or (pieces w n xs) i [] ≡ piece_at w xs i
  unfolding piece_at
  piece-at h = get_or-pieces w n i xs h

  -- what a loop at piece i has before it
  pub piece-here : i < n → drop i (pieces w n xs) ≡ piece_at w xs i ∷ drop (i + 1) (pieces w n xs)
  piece-here h =
      let l : i < length (pieces w n xs) = omega (arith, length-pieces w n xs) in
      rw (add-one, ← piece-at h) (drop-cons (pieces w n xs) i [] l)

  -- what it has behind it
  pub piece-behind : i < n → take (i + 1) (pieces w n xs) ≡ take i (pieces w n xs) ++ piece_at w xs i ∷ []
  piece-behind h =
      let l : i < length (pieces w n xs) = omega (arith, length-pieces w n xs) in
      rw (add-one, ← piece-at h) (take-suc (pieces w n xs) i [] l)

pub length-piece : (w : ℕ) (xs : List ℕ) (i : ℕ) → i * w + w ≤ length xs → length (piece_at w xs i) ≡ w
unfolding piece_at
length-piece w xs i h = length-take-le w (drop (i * w) xs) (simp length-drop (omega arith))

-- a row starts at its place
pub place-row : (rows : List ℕ) (i : ℕ) → take row_words (drop (place_of rows i) rows) ≡ row_in rows i
unfolding place_of piece_at
place-row rows i =
    by_order i (length rows)
    (λ h. rw (lt-leb (length rows) i h))
    (λ h.
    let l : length rows ≤ i * row_words = omega arith in
    rw (le-leb (length rows) i h, drop_of_length-le rows l, drop_of_length-le rows (le_refl (length rows))))
