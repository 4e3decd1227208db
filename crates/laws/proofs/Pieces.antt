-- Laws about cutting a list in pieces of one width: what a read of word j of row i of a lent slice means.
use Prim.Native.Nat.{ℕ, zero, suc, ◌+◌, ◌*◌, ◌≤◌, ◌<◌}
use mathlib.Core.Path.{◌≡◌, refl, sym, ap, ◌∙◌}
use mathlib.Core.List.{List, [], ◌∷◌, ◌++◌}
use native.Mathlib.Nat.{not-suc-le-zero, le_of_suc-le-suc, zero-mul, suc-mul, zero-add, suc-add, add_comm, mul-le-mul_right}
use native.Mathlib.Numerals.{add-one}
use native.Mathlib.Omega.{arith}
use lib.ListN.{length, get_or, take, drop}
use lib.Seq.{get_or-take, get_or-drop, drop-drop, take-add}
use Rattle.model.specs.Basic.{pieces, concat}

module _ {A : Type 0} where
  pub length-pieces : (w n : ℕ) (xs : List A) → length (pieces w n xs) ≡ n
  length-pieces w zero xs = refl
  length-pieces w (suc n) xs = ap suc (length-pieces w n (drop w xs))

  -- piece i
  pub get_or-pieces : (w n i : ℕ) (xs : List A) → i < n → get_or (pieces w n xs) i [] ≡ take w (drop (i * w) xs)
  get_or-pieces w zero i xs h = absurd (not-suc-le-zero h)
  get_or-pieces w (suc n) zero xs h = rw zero-mul
  get_or-pieces w (suc n) (suc i) xs h = get_or-pieces w n i (drop w xs) (le_of_suc-le-suc h) ∙ rw (suc-mul, drop-drop, add_comm w)

  -- all pieces, laid end to end: the part of the list that they were cut from
  pub concat-pieces : (w n : ℕ) (xs : List A) → concat (pieces w n xs) ≡ take (n * w) xs
  concat-pieces w zero xs = rw zero-mul
  concat-pieces w (suc n) xs = rw (concat-pieces w n (drop w xs), suc-mul, add_comm (n * w) w) (sym (take-add w (n * w) xs))

  -- the first n + m pieces: the first n, then m of what is left
  pub pieces-add : (w n m : ℕ) (xs : List A) → pieces w (n + m) xs ≡ pieces w n xs ++ pieces w m (drop (n * w) xs)
  pieces-add w zero m xs = rw (zero-add, zero-mul)
  pieces-add w (suc n) m xs = rw (suc-add, pieces-add w n m (drop w xs), drop-drop, suc-mul, add_comm (n * w) w)

  -- one more piece
  pub pieces-suc : (w n : ℕ) (xs : List A) → pieces w (suc n) xs ≡ pieces w n xs ++ take w (drop (n * w) xs) ∷ []
  pieces-suc w n xs = ap (λ (k : ℕ). pieces w k xs) (sym (add-one n)) ∙ pieces-add w n 1 xs

-- piece m of N lies in the slice
pub slot-in : (w m N L : ℕ) → m < N → N * w ≤ L → m * w + w ≤ L
slot-in w m N L h l = omega (arith, suc-mul m w, mul-le-mul_right w h)

-- word j of piece i
pub word_at : (w n i j : ℕ) (xs : List ℕ) → i < n → j < w → get_or (get_or (pieces w n xs) i []) j 0 ≡ get_or xs (i * w + j) 0
word_at w n i j xs hi hj = rw (get_or-pieces w n i xs hi, get_or-take, get_or-drop)

-- word j of a piece that starts at k
pub word_of : (w k j : ℕ) (xs : List ℕ) → j < w → get_or (take w (drop k xs)) j 0 ≡ get_or xs (k + j) 0
word_of w k j xs h = rw (get_or-take, get_or-drop)
