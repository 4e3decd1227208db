-- An object's rows in the slices: the document's are those between two numbers, and the batch's are those whose numbers the group has.
use mathlib.Core.Path.{◌≡◌, sym, ap, ◌∙◌}
use mathlib.Core.List.{List, map}
use Prim.Native.Nat.{ℕ, suc, ◌+◌, ◌-◌, ◌*◌, ◌≤◌, ◌<◌}
use native.Mathlib.Omega.{arith}
use lib.ListN.{length, take, drop, length-drop}
use lib.Seq.{length-take-le}
use Rattle.model.specs.Basic.{pieces}
use Rattle.model.specs.Sizes.{row_words, op_words}
use Rattle.model.specs.Row.{Row}
use Rattle.laws.proofs.Parts.{drop-take, map-take, map-drop}
use Rattle.laws.proofs.Pieces.{length-pieces}
use Rattle.batch.specs.Parts.{part}
use Rattle.batch.specs.Places.{picked}
use Rattle.batch.specs.Merge.{Known}
use Rattle.batch.specs.Walk.{doc_from, new_rows_of}
use Rattle.batch.specs.Groups.{below, between, group_of}
use Rattle.batch.proofs.Slots.{take-pieces}
use Rattle.batch.proofs.Ranks.{known-rest}
use Rattle.batch.proofs.Between.{below-grows, below-most}
use Rattle.batch.proofs.NewRows.{length-new}

-- ── the document's rows
module _ (rows : List ℕ) (n o : ℕ) where
  abbrev doc : List Row
  doc = doc_from rows n 0

  pub doc-last : below (suc o) doc ≤ n
  unfolding doc_from
  doc-last = omega (arith, below-most (suc o) (pieces row_words n rows), length-pieces row_words n rows)

  pub doc-room : n * row_words ≤ length rows → below (suc o) doc * row_words ≤ length rows
  doc-room h = omega (arith, doc-last)

  pub doc-between : doc_from rows (below (suc o) doc) (below o doc) ≡ between o (suc o) doc
  unfolding doc_from between
  doc-between =
      let all = pieces row_words n rows in
      let a = below o all in
      let z = below (suc o) all in
      let e : z ≡ a + (z - a) = omega (arith, below-grows o (suc o) all (omega arith)) in
      ap (drop a) (sym (take-pieces row_words n z rows doc-last) ∙ ap (λ (k : ℕ). take k all) e) ∙ drop-take a (z - a) all

-- ── the batch's
module _ (ops sorted : List ℕ) (o : ℕ) where
  abbrev news : List Row
  news = new_rows_of ops sorted

  pub group-between : new_rows_of ops (group_of ops sorted o) ≡ between o (suc o) news
  unfolding group_of between new_rows_of picked
  group-between =
      let f : ℕ → Row = λ x. part row_words ops (x * op_words) in
      let a = below o (map f sorted) in
      let z = below (suc o) (map f sorted) in
      map-take f (z - a) (drop a sorted) ∙ ap (take (z - a)) (map-drop f a sorted)

  pub group-known : Known op_words ops sorted → Known op_words ops (group_of ops sorted o)
  unfolding group_of
  group-known k = known-rest op_words ops (below o news) (below (suc o) news - below o news) sorted k

  pub group-some : below o news < below (suc o) news → 0 < length (group_of ops sorted o)
  unfolding group_of
  group-some h =
      let m = below (suc o) news - below o news in
      let l : m ≤ length (drop (below o news) sorted) = rw (length-drop (below o news) sorted) (omega (arith, below-most (suc o) news, length-new ops sorted)) in
      omega (arith, length-take-le m (drop (below o news) sorted) l)
