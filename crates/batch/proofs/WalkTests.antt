-- What the code of a list's walk reads: the list's next row, the group's new rows, and which of them goes first.
use mathlib.Core.Path.{◌≡◌, refl, sym, ap, ◌∙◌}
use mathlib.Core.Bool.{true, false, not}
use mathlib.Core.List.{List, [], ◌∷◌}
use Prim.Native.Nat.{ℕ, zero, suc, ◌+◌, ◌-◌, ◌*◌, ◌≤◌, ◌<◌}
use native.Mathlib.Omega.{arith}
use borrow.Author.Tests.{lt-ltb, le-ltb, le-leb, lt-leb}
use lib.Dec.{leb, ltb}
use lib.ListN.{length, get_or, drop_of_length-le, length-drop, drop}
use lib.Seq.{get_or-drop}
use Rattle.model.specs.Basic.{pieces}
use Rattle.model.specs.Sizes.{row_words, op_words}
use Rattle.model.specs.Row.{Row, id_of, is_insert}
use Rattle.laws.proofs.Tests.{by_order}
use Rattle.laws.proofs.Members.{Mem, All, get_or-mem}
use Rattle.laws.proofs.Pieces.{length-pieces}
use Rattle.laws.proofs.Parts.{drop_here}
use Rattle.batch.specs.Parts.{part}
use Rattle.batch.specs.Walk.{row_first, wait_first, stacked, top_of, rows_at, doc_from, new_rows_of}
use Rattle.batch.specs.Rank.{op_before}
use Rattle.batch.specs.Groups.{map_first}
use Rattle.ids.specs.Words.{piece_at}
use Rattle.batch.proofs.Copies.{piece-part}
use Rattle.batch.proofs.PlacedWords.{piece-at}
use Rattle.batch.proofs.Stacked.{top_in}
use Rattle.batch.proofs.NewRows.{new-at}

-- ── rows
pub doc-here : (rows : List ℕ) (z d : ℕ) → d < z → doc_from rows z d ≡ part row_words rows (d * row_words) ∷ doc_from rows z (d + 1)
unfolding doc_from
doc-here rows z d h =
    drop_here (pieces row_words z rows) d [] (omega (arith, length-pieces row_words z rows))
    ∙ ap (λ (r : Row). r ∷ drop (d + 1) (pieces row_words z rows)) (piece-at row_words z rows d h)

pub doc-none : (rows : List ℕ) (z d : ℕ) → z ≤ d → doc_from rows z d ≡ []
unfolding doc_from
doc-none rows z d h =
    let l : length (pieces row_words z rows) ≤ d = omega (arith, length-pieces row_words z rows) in
    drop_of_length-le (pieces row_words z rows) l

pub length-doc : (rows : List ℕ) (z d : ℕ) → length (doc_from rows z d) ≡ z - d
unfolding doc_from
length-doc rows z d = length-drop d (pieces row_words z rows) ∙ ap (λ (n : ℕ). n - d) (length-pieces row_words z rows)

pub doc-mem : (rows : List ℕ) (z a d : ℕ) → a ≤ d → d < z → Mem (part row_words rows (d * row_words)) (doc_from rows z a)
unfolding doc_from
doc-mem rows z a d h k =
    let n : a + (d - a) ≡ d = omega arith in
    let e : get_or (doc_from rows z a) (d - a) [] ≡ part row_words rows (d * row_words) =
    get_or-drop a (pieces row_words z rows) (d - a) [] ∙ ap (λ (i : ℕ). get_or (pieces row_words z rows) i []) n ∙ piece-at row_words z rows d k in
    rw e at (get_or-mem (doc_from rows z a) (d - a) [] (omega (arith, length-doc rows z a)))

-- ── an update, or a row of its element
module _ (rows : List ℕ) (z d : ℕ) (u : Row) where
  pub first-none : z ≤ d → false ≡ row_first u (doc_from rows z d)
  first-none h = rw (doc-none rows z d h)

  pub first-insert : d < z → is_insert (piece_at row_words rows d) ≡ true → false ≡ row_first u (doc_from rows z d)
  first-insert h e = rw (doc-here rows z d h, ← piece-part row_words rows d, e)

  pub first-ids : d < z → is_insert (piece_at row_words rows d) ≡ false → leb (id_of (piece_at row_words rows d)) (id_of u) ≡ row_first u (doc_from rows z d)
  first-ids h e = rw (doc-here rows z d h, ← piece-part row_words rows d, e) (turned (id_of (piece_at row_words rows d)) (id_of u))
    where
      turned : (a b : ℕ) → leb a b ≡ not (ltb b a)
      turned a b = by_order b a (λ k. lt-leb a b k ∙ sym (ap not (lt-ltb b a k))) (λ k. le-leb a b k ∙ sym (ap not (le-ltb b a k)))

  pub first-mapped : d < z → not (op_before u (piece_at row_words rows d)) ≡ map_first u (doc_from rows z d)
  first-mapped h = rw (doc-here rows z d h, piece-part row_words rows d)

  pub none-mapped : z ≤ d → false ≡ map_first u (doc_from rows z d)
  none-mapped h = rw (doc-none rows z d h)

-- ── what waits on top, or the next row
waits-none : (doc st : List Row) (d : Row) → is_insert d ≡ false → false ≡ wait_first st (d ∷ doc)
waits-none doc [] d e = refl
waits-none doc (s ∷ st) d e = rw e

module _ (rows : List ℕ) (z d : ℕ) (ops group stack : List ℕ) where
  abbrev news : List Row
  news = new_rows_of ops group

  pub wait-none : (depth : ℕ) → depth ≡ 0 → false ≡ wait_first (rows_at news (stacked stack depth)) (doc_from rows z d)
  wait-none depth e = rw e

  pub wait-last : (depth : ℕ) → (depth ≡ 0 → ⊥) → z ≤ d → true ≡ wait_first (rows_at news (stacked stack depth)) (doc_from rows z d)
  wait-last zero ne h = absurd (ne refl)
  wait-last (suc k) ne h = rw (doc-none rows z d h)

  pub wait-other : (depth : ℕ) → d < z → is_insert (piece_at row_words rows d) ≡ false → false ≡ wait_first (rows_at news (stacked stack depth)) (doc_from rows z d)
  wait-other depth h e =
      rw (doc-here rows z d h, ← piece-part row_words rows d) (waits-none (doc_from rows z (d + 1)) (rows_at news (stacked stack depth)) (piece_at row_words rows d) e)

  pub wait-ids : (depth : ℕ) → (depth ≡ 0 → ⊥) → All (λ j. j < length group) (stacked stack depth) → d < z → is_insert (piece_at row_words rows d) ≡ true
      → ltb (id_of (piece_at row_words rows d)) (id_of (part row_words ops (get_or group (top_of stack depth) 0 * op_words))) ≡ wait_first (rows_at news (stacked stack depth)) (doc_from rows z d)
  wait-ids zero ne a h e = absurd (ne refl)
  wait-ids (suc k) ne a h e =
      rw (doc-here rows z d h, ← piece-part row_words rows d, e) (ap (λ (r : Row). ltb (id_of (piece_at row_words rows d)) (id_of r)) (sym (new-at ops group (top_of stack (suc k)) (top_in stack (suc k) (length group) (omega arith) a))))
