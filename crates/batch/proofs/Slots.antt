-- A run of stores that fills one piece of a slice: in the list of pieces it is a `set`.
use mathlib.Core.Path.{◌≡◌, refl, ap, ◌∙◌}
use mathlib.Core.List.{List, [], ◌∷◌, ◌++◌}
use Prim.Native.Nat.{ℕ, zero, suc, ◌+◌, ◌*◌, ◌≤◌, ◌<◌}
use native.Mathlib.Nat.{zero-mul, suc-mul, zero-add, add-suc, not-suc-le-zero, le_of_suc-le-suc, mul-le-mul_right}
use native.Mathlib.Omega.{arith}
use lib.ListN.{length, take, drop, set, length-drop}
use lib.Seq.{sets, take_at, drop_at, take-set-le, drop-set-add, drop-set-lt, sets-eq, set_at}
use Rattle.model.specs.Basic.{pieces}
use Rattle.laws.proofs.Pieces.{length-pieces, pieces-suc}

module _ {A : Type 0} where
  pub take-pieces : (w n k : ℕ) (xs : List A) → k ≤ n → take k (pieces w n xs) ≡ pieces w k xs
  take-pieces w n zero xs h = refl
  take-pieces w zero (suc k) xs h = absurd (not-suc-le-zero h)
  take-pieces w (suc n) (suc k) xs h = ap (λ (r : List (List A)). take w xs ∷ r) (take-pieces w n k (drop w xs) (le_of_suc-le-suc h))

  take-sets : (n : ℕ) (l : List A) (i : ℕ) (vs : List A) → n ≤ i → take n (sets l i vs) ≡ take n l
  take-sets n l i [] h = refl
  take-sets n l i (v ∷ vs) h = take-sets n (set l i v) (suc i) vs (omega arith) ∙ take-set-le n l i v h

  drop-sets-add : (n : ℕ) (l : List A) (i : ℕ) (vs : List A) → drop n (sets l (n + i) vs) ≡ sets (drop n l) i vs
  drop-sets-add n l i [] = refl
  drop-sets-add n l i (v ∷ vs) = rw (← add-suc n i) (drop-sets-add n (set l (n + i) v) (suc i) vs) ∙ ap (λ (x : List A). sets x (suc i) vs) (drop-set-add n l i v)

  drop-sets : (n : ℕ) (l : List A) (i : ℕ) (vs : List A) → i + length vs ≤ n → drop n (sets l i vs) ≡ drop n l
  drop-sets n l i [] h = refl
  drop-sets n l i (v ∷ vs) h = drop-sets n (set l i v) (suc i) vs (omega arith) ∙ drop-set-lt n l i v (omega arith)

  -- the first piece
  sets_first : (w : ℕ) (xs p : List A) → w ≤ length xs → length p ≡ w → sets xs 0 p ≡ p ++ drop w xs
  sets_first w xs p h e = sets-eq p xs 0 (omega arith) ∙ ap (λ (k : ℕ). p ++ drop k xs) (zero-add (length p) ∙ e)

  pub pieces-sets : (w n : ℕ) (xs : List A) (i : ℕ) (p : List A) → i < n → n * w ≤ length xs → length p ≡ w → pieces w n (sets xs (i * w) p) ≡ set (pieces w n xs) i p
  pieces-sets w zero xs i p h l e = absurd (not-suc-le-zero h)
  pieces-sets w (suc n) xs zero p h l e =
      let l₁ : w ≤ length xs = omega (arith, suc-mul n w) in
      rw (zero-mul, sets_first w xs p l₁ e, take_at p (drop w xs) w e, drop_at p (drop w xs) w e)
  pieces-sets w (suc n) xs (suc i) p h l e =
      let l₁ : n * w ≤ length (drop w xs) = simp length-drop (omega (arith, suc-mul n w)) in
      let q : suc i * w ≡ w + i * w = omega (arith, suc-mul i w) in
      rw (q, take-sets w xs (w + i * w) p (omega arith), drop-sets-add w xs (i * w) p, pieces-sets w n (drop w xs) i p (le_of_suc-le-suc h) l₁ e)

  -- one piece more
  pub pieces_more : (w i : ℕ) (xs p : List A) → suc i * w ≤ length xs → length p ≡ w → pieces w (suc i) (sets xs (i * w) p) ≡ pieces w i xs ++ p ∷ []
  pieces_more w i xs p h e =
      pieces-sets w (suc i) xs i p (omega arith) h e
      ∙ ap (λ (l : List (List A)). set l i p) (pieces-suc w i xs)
      ∙ set_at (pieces w i xs) (take w (drop (i * w) xs)) [] p i (length-pieces w i xs)

  -- what is past the pieces is not touched
  pub drop-piece : (w n : ℕ) (xs : List A) (i : ℕ) (p : List A) → i < n → length p ≡ w → drop (n * w) (sets xs (i * w) p) ≡ drop (n * w) xs
  drop-piece w n xs i p h e = drop-sets (n * w) xs (i * w) p (omega (arith, suc-mul i w, mul-le-mul_right w h))
