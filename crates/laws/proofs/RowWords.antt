-- An operation's row says what the operation says, and the rows with an id.
use mathlib.Core.Path.{◌≡◌, ap, ◌∙◌}
use mathlib.Core.Bool.{Bool, not}
use mathlib.Core.List.{List}
use Prim.Native.Nat.{ℕ, ◌<◌}
use native.Mathlib.Omega.{arith}
use lib.ListN.{get_or, take, drop}
use lib.Seq.{get_or-take, take-take}
use lib.Dec.{T, eqb, eqb→eq}
use Rattle.model.specs.Basic.{filter}
use Rattle.model.specs.Sizes.{row_words}
use Rattle.model.specs.Row.{Row, Op, id_of, key_words_of, row_of, rows_with, is_delete, element_of}
use Rattle.model.specs.Key.{key_room_of, key_bytes_of, same_key}
use Rattle.model.specs.Malformed.{list_key_fits, map_key_fits, set_value_fits, value_fits, row_fits}
use Rattle.model.specs.Refusal.{has_make, object_fits, element_fits}
use Rattle.model.specs.Document.{new_rows}
use Rattle.laws.proofs.Parts.{drop-take}
use Rattle.laws.proofs.Tests.{eq→eqb}
use Rattle.laws.proofs.Members.{Mem, mem-map, map-from, filter-from, filter_passes, filter-in}

-- ── the first words of an operation are its row's
pub word_of : (o : Op) (k : ℕ) → k < row_words → get_or (row_of o) k 0 ≡ get_or o k 0
word_of o k h = get_or-take row_words o k 0 h

pub key-words-of : (o : Op) → key_words_of (row_of o) ≡ key_words_of o
key-words-of o = ap (take 3) (drop-take 5 7 o) ∙ take-take 3 7 (drop 5 o) (omega arith)

module _ (o : Op) where
  w0 : get_or (row_of o) 0 0 ≡ get_or o 0 0
  w0 = word_of o 0 (omega arith)

  w1 : get_or (row_of o) 1 0 ≡ get_or o 1 0
  w1 = word_of o 1 (omega arith)

  w2 : get_or (row_of o) 2 0 ≡ get_or o 2 0
  w2 = word_of o 2 (omega arith)

  w3 : get_or (row_of o) 3 0 ≡ get_or o 3 0
  w3 = word_of o 3 (omega arith)

  w4 : get_or (row_of o) 4 0 ≡ get_or o 4 0
  w4 = word_of o 4 (omega arith)

  w8 : get_or (row_of o) 8 0 ≡ get_or o 8 0
  w8 = word_of o 8 (omega arith)

  w9 : get_or (row_of o) 9 0 ≡ get_or o 9 0
  w9 = word_of o 9 (omega arith)

  w10 : get_or (row_of o) 10 0 ≡ get_or o 10 0
  w10 = word_of o 10 (omega arith)

  w11 : get_or (row_of o) 11 0 ≡ get_or o 11 0
  w11 = word_of o 11 (omega arith)

  pub id-of : id_of (row_of o) ≡ id_of o
  id-of = w0

  pub element-of : element_of (row_of o) ≡ element_of o
  unfolding element_of
  element-of = simp (w0, w3, w8)

  pub bytes_of : key_bytes_of (row_of o) ≡ key_bytes_of o
  unfolding key_bytes_of key_room_of
  bytes_of = simp (w4, key-words-of o)

  pub row-fits-of : row_fits (row_of o) ≡ row_fits o
  unfolding row_fits list_key_fits map_key_fits value_fits set_value_fits key_room_of
  row-fits-of = simp (w0, w1, w2, w3, w4, w8, w9, w10, w11, key-words-of o)

  pub object-fits-of : (rs : List Row) → object_fits rs (row_of o) ≡ object_fits rs o
  unfolding object_fits has_make
  object-fits-of rs = simp (w0, w1, w2, w8)

  pub element-fits-of : (rs : List Row) → element_fits rs (row_of o) ≡ element_fits rs o
  unfolding element_fits
  element-fits-of rs = simp (w0, w1, w3)

  pub same-key-of : (r : Row) → same_key r (row_of o) ≡ same_key r o
  unfolding same_key
  same-key-of r = simp (w1, w2, element-of, bytes_of)

-- ── the rows of a batch
pub new-rows-from : (b : List Op) {r : Row} → Mem r (new_rows b) → (o : Op) × Mem o b × T (not (is_delete o)) × (r ≡ row_of o)
unfolding new_rows
new-rows-from b m =
    let p : Op → Bool = λ o. not (is_delete o) in
    let r = map-from row_of (filter p b) m in
    (r.0, filter-from p b r.1, filter_passes p b r.1, r.2)

pub new-rows-in : (b : List Op) {o : Op} → Mem o b → T (not (is_delete o)) → Mem (row_of o) (new_rows b)
unfolding new_rows
new-rows-in b {o} m t = mem-map row_of (filter-in (λ o. not (is_delete o)) b m t)

-- ── the rows with an id
pub with-from : (rs : List Row) (i : ℕ) {r : Row} → Mem r (rows_with rs i) → Mem r rs × (id_of r ≡ i)
with-from rs i {r} m = (filter-from (λ r. eqb (id_of r) i) rs m, eqb→eq (id_of r) i (filter_passes (λ r. eqb (id_of r) i) rs m))

pub with_in : (rs : List Row) (i : ℕ) {r : Row} → Mem r rs → id_of r ≡ i → Mem r (rows_with rs i)
with_in rs i {r} m e = filter-in (λ r. eqb (id_of r) i) rs m (eq→eqb (id_of r) i e)
