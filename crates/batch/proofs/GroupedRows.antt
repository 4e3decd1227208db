-- A well-formed document and a batch that is not refused: the batch's rows, ordered by rank, may be walked with the document's, object by object.
use mathlib.Core.Path.{◌≡◌, refl, sym, subst, ◌∙◌}
use mathlib.Core.List.{List, ◌++◌, map}
use Prim.Native.Nat.{ℕ, suc, ◌*◌, ◌≤◌, ◌<◌}
use native.Mathlib.Omega.{arith}
use lib.Dec.{lit<}
use lib.ListN.{length, get_or, drop, take-append-drop, get_or-eq_default}
use lib.Seq.{length-take-le}
use Rattle.model.specs.Basic.{sort, pieces}
use Rattle.model.specs.Sizes.{row_words, op_words, word_range}
use Rattle.model.specs.Row.{Row, Op, row_of, id_of, object_of}
use Rattle.model.specs.Document.{new_rows}
use Rattle.model.specs.Calls.{document_in, batch_in}
use Rattle.laws.proofs.Tests.{by_order}
use Rattle.laws.proofs.Members.{Mem, All, append_left, append_right, get_or-mem}
use Rattle.laws.proofs.Pieces.{length-pieces, slot-in}
use Rattle.laws.proofs.Shaped.{Shape, shape, cut-shaped}
use Rattle.laws.proofs.Sort.{Sorted, sort-from}
use Rattle.laws.proofs.Pairs.{KeyDistinct}
use Rattle.laws.proofs.RowWords.{new-rows-from}
use Rattle.laws.proofs.Formed.{Formed}
use Rattle.laws.proofs.Accepted.{Sound}
use Rattle.laws.proofs.SubDocument.{Placed}
use Rattle.laws.proofs.Together.{new-rows-apart}
use Rattle.laws.proofs.Untangle.{olds}
use Rattle.ids.proofs.KeyWords.{Whole}
use Rattle.checks.proofs.OneKey.{Plain}
use Rattle.batch.specs.Places.{Rising}
use Rattle.batch.specs.Merge.{Known}
use Rattle.batch.specs.Rank.{op_before, ordered}
use Rattle.batch.specs.Walk.{doc_from, new_rows_of}
use Rattle.batch.specs.Groups.{object_out, between, Grouped}
use Rattle.batch.proofs.OrderedRows.{ordered-in, picked-rows}
use Rattle.batch.proofs.OrderedRuns.{rank-strict}
use Rattle.batch.proofs.SmallWords.{small-object}
use Rattle.batch.proofs.RowsRise.{rows-rise, news-sorted, news-rise, rows-placed}
use Rattle.batch.proofs.EachObject.{each-object}

-- ── the rows in the slices
pub doc-is : (n : ℕ) (rows : List ℕ) → doc_from rows n 0 ≡ pieces row_words n rows
unfolding doc_from
doc-is n rows = refl

pub news-are : (k : ℕ) (ops : List ℕ) → KeyDistinct id_of (batch_in k ops) → new_rows_of ops (ordered (batch_in k ops)) ≡ sort op_before (new_rows (batch_in k ops))
unfolding new_rows_of
news-are k ops a = picked-rows k ops ∙ rank-strict (new_rows (batch_in k ops)) (new-rows-apart (batch_in k ops) a)

-- ── rows cut from slices of words
whole : (r : Row) → Shape row_words r → Whole r
whole r s =
    record {
      wide = s.full;
      range = λ k. by_order k (length r) (λ h. s.range (get_or r k 0) (get_or-mem r k 0 h)) (λ h. rw (get_or-eq_default r 0 h) (lit< tt));
    }

row-shape : (o : Op) → Shape op_words o → Shape row_words (row_of o)
row-shape o s =
    record {
      full = length-take-le row_words o (omega (arith, s.full));
      range = λ w m. s.range w (subst (λ l. Mem w l) (take-append-drop row_words o) (append_left (drop row_words o) m));
    }

module _ (n : ℕ) (rows : List ℕ) (m : ℕ) (succs : List ℕ) (k : ℕ) (ops : List ℕ) (f : Formed (document_in n rows m succs)) (s : Sound (document_in n rows m succs) (batch_in k ops))
    (rows_in : n * row_words ≤ length rows) (ops-in : k * op_words ≤ length ops) (rows_words : All (λ w. w < word_range) rows) (ops-words : All (λ w. w < word_range) ops) where
  abbrev batch : List Op
  batch = batch_in k ops

  abbrev sorted : List ℕ
  sorted = ordered batch

  abbrev in-doc : doc_from rows n 0 ≡ pieces row_words n rows
  in-doc = doc-is n rows

  abbrev in-news : new_rows_of ops sorted ≡ sort op_before (new_rows batch)
  in-news = news-are k ops s.apart

  all_placed : Placed (doc_from rows n 0 ++ new_rows_of ops sorted)
  all_placed =
      subst (λ l. Placed (l ++ new_rows_of ops sorted)) (sym in-doc)
      (subst (λ l. Placed (pieces row_words n rows ++ l)) (sym in-news) (rows-placed (document_in n rows m succs) batch f s))

  by_rank : Sorted op_before (new_rows_of ops sorted)
  by_rank = subst (Sorted op_before) (sym in-news) (news-sorted batch s.apart)

  news-up : Rising (map object_of (new_rows_of ops sorted))
  news-up = subst (λ l. Rising (map object_of l)) (sym in-news) (news-rise batch s.apart)

  doc-up : Rising (map object_of (doc_from rows n 0))
  doc-up = subst (λ l. Rising (map object_of l)) (sym in-doc) (rows-rise f)

  numbers-known : Known op_words ops sorted
  numbers-known x i = let h = ordered-in batch x i in slot-in op_words x k (length ops) (omega (arith, length-pieces op_words k ops)) ops-in

  doc-plain : All Plain (doc_from rows n 0)
  doc-plain r i =
      let j : Mem r (pieces row_words n rows) = subst (λ l. Mem r l) in-doc i in
      record { whole = whole r (shape row_words (pieces row_words n rows) (cut-shaped row_words n rows rows_in rows_words) r j); fit = f.rows_fit r j }

  pub news-plain : All Plain (new_rows_of ops sorted)
  news-plain r i =
      let j : Mem r (new_rows batch) = sort-from op_before (new_rows batch) (subst (λ l. Mem r l) in-news i) in
      let q = new-rows-from batch j in
      let w : Shape row_words r = subst (Shape row_words) (sym q.3) (row-shape q.0 (shape op_words batch (cut-shaped op_words k ops ops-in ops-words) q.0 q.1)) in
      record { whole = whole r w; fit = all_placed.fit r (append_right (doc_from rows n 0) i) }

  pub grouped : ((o : ℕ) → olds (object_out (between o (suc o) (new_rows_of ops sorted)) (between o (suc o) (doc_from rows n 0))) ≡ between o (suc o) (doc_from rows n 0)) → Grouped rows n ops sorted
  grouped kept =
      record {
        rows_in = rows_in;
        ops-in = numbers-known;
        small-objects = λ r i. small-object r (news-plain r i).fit;
        rows-rise = doc-up;
        news-rise = news-up;
        each = each-object rows n ops sorted rows_in numbers-known all_placed doc-plain news-plain doc-up news-up by_rank;
        kept = kept;
      }
