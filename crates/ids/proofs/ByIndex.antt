-- The rows of a well-formed document by their index in a slice: which stands before which, and that they are whole.
use mathlib.Core.Path.{◌≡◌, sym}
use mathlib.Core.List.{List, [], ◌∷◌}
use Prim.Native.Nat.{ℕ, zero, suc, ◌*◌, ◌+◌, ◌≤◌, ◌<◌}
use native.Mathlib.Omega.{arith}
use native.Mathlib.Nat.{le_of_suc-le-suc, not-suc-le-zero}
use lib.Dec.{T, lit<}
use lib.ListN.{length, get_or, take, drop, length-take, length-drop, get_or-eq_default}
use Rattle.model.specs.Basic.{pieces}
use Rattle.model.specs.Sizes.{row_words, word_range}
use Rattle.model.specs.Row.{id_of}
use Rattle.model.specs.Order.{preorder, before}
use Rattle.model.specs.Calls.{document_in}
use Rattle.laws.proofs.Tests.{by_order}
use Rattle.laws.proofs.Members.{Mem, get_or-mem}
use Rattle.laws.proofs.Pairs.{Pairwise}
use Rattle.laws.proofs.Pieces.{length-pieces, word_of}
use Rattle.laws.proofs.Formed.{Formed}
use Rattle.laws.proofs.Standing.{in_order}
use Rattle.ids.specs.Words.{piece_at, row_in}
use Rattle.ids.proofs.KeyWords.{Whole}
use Rattle.ids.proofs.Pieces.{piece-at}
use Rattle.ids.proofs.Ranges.{range-in}

pub pairwise-at : {A : Type 0} (R : A → A → Type 0) (d : A) (l : List A) → Pairwise R l → (i j : ℕ) → i < j → j < length l → R (get_or l i d) (get_or l j d)
pairwise-at R d [] p i j h k = absurd (not-suc-le-zero k)
pairwise-at R d (x ∷ l) p i zero h k = absurd (not-suc-le-zero h)
pairwise-at R d (x ∷ l) p zero (suc j) h k = p.0 (get_or l j d) (get_or-mem l j d (le_of_suc-le-suc k))
pairwise-at R d (x ∷ l) p (suc i) (suc j) h k = pairwise-at R d l p.1 i j (le_of_suc-le-suc h) (le_of_suc-le-suc k)

pub pairwise-pieces : (R : List ℕ → List ℕ → Type 0) (w n : ℕ) (xs : List ℕ) → Pairwise R (pieces w n xs) → (i j : ℕ) → i < j → j < n → R (piece_at w xs i) (piece_at w xs j)
pairwise-pieces R w n xs p i j h k =
    let l : j < length (pieces w n xs) = omega (arith, length-pieces w n xs) in
    let m : i < n = omega arith in
    rw (← piece-at w n xs i m, ← piece-at w n xs j k) (pairwise-at R [] (pieces w n xs) p i j h l)

pub row-in : (n : ℕ) (rows : List ℕ) (i : ℕ) → i < n → Mem (row_in rows i) (pieces row_words n rows)
row-in n rows i h = range-in row_words rows 0 n i (omega arith) h

module _ (n : ℕ) (rows : List ℕ) (m : ℕ) (succs : List ℕ) (f : Formed (document_in n rows m succs)) where
  pub stands : (i j : ℕ) → i < j → j < n → T (before (preorder (pieces row_words n rows)) (row_in rows i) (row_in rows j))
  stands = pairwise-pieces (λ a b. T (before (preorder (pieces row_words n rows)) a b)) row_words n rows (in_order f)

  pub ids-apart : (i j : ℕ) → i < n → j < n → id_of (row_in rows i) ≡ id_of (row_in rows j) → i ≡ j
  ids-apart i j h k e =
      let apart = pairwise-pieces (λ a b. id_of a ≡ id_of b → ⊥) row_words n rows f.apart in
      by_order i j (λ x. absurd (apart i j x k e)) (λ x. by_order j i (λ y. absurd (apart j i y h (sym e))) (λ y. omega arith))

row-past : (xs : List ℕ) (at k : ℕ) → row_words ≤ k → get_or (take row_words (drop at xs)) k 0 ≡ 0
row-past xs at k h =
    get_or-eq_default (take row_words (drop at xs)) 0 (omega (arith, length-take row_words (drop at xs)))

pub whole_at : (xs : List ℕ) (at : ℕ) → at + row_words ≤ length xs → ((k : ℕ) → get_or xs k 0 < word_range) → Whole (take row_words (drop at xs))
whole_at xs at h r =
    record {
      wide = simp (length-take, length-drop) (omega arith);
      range =
          λ k. by_order k row_words (λ l. rw (word_of row_words at k xs l) (r (at + k)))
          (λ l. rw (row-past xs at k l) (lit< tt));
    }

pub whole_row : (rows : List ℕ) (i : ℕ) → i * row_words + row_words ≤ length rows → ((k : ℕ) → get_or rows k 0 < word_range) → Whole (row_in rows i)
unfolding piece_at
whole_row rows i h r = whole_at rows (i * row_words) h r
