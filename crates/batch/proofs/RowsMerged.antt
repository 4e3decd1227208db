-- A batch that is not refused, merged into a well-formed document by the walk over all objects: what it puts out is the merged document's rows.
--     rows-kept, maps-sorted    what the walk asks, object by object
--     rows-merged    so it puts all rows out in order
use mathlib.Core.Path.{◌≡◌, refl, sym, subst, ◌∙◌}
use mathlib.Core.Bool.{Bool, not}
use mathlib.Core.List.{List, [], ◌∷◌, ◌++◌, map}
use Prim.Native.Nat.{ℕ, suc}
use lib.Dec.{T, eqb, eqb→eq}
use Rattle.model.specs.Basic.{filter, sort}
use Rattle.model.specs.Row.{Row, Op, object_of, on_list}
use Rattle.model.specs.Order.{order}
use Rattle.model.specs.Document.{Document, new_rows, all_rows}
use Rattle.laws.proofs.Members.{Mem, here, All, append_right, filter-from, filter_passes}
use Rattle.laws.proofs.Pairs.{pairwise-mono}
use Rattle.laws.proofs.Sort.{Sorted, sort-from, filter-sorted}
use Rattle.laws.proofs.Perms.{sort-perm-self}
use Rattle.laws.proofs.RowOrder.{Apart}
use Rattle.laws.proofs.Formed.{Formed}
use Rattle.laws.proofs.Accepted.{Sound}
use Rattle.laws.proofs.SubDocument.{Placed, id-positive, one-kind}
use Rattle.laws.proofs.Together.{all_placed}
use Rattle.laws.proofs.Standing.{placed}
use Rattle.laws.proofs.Passes.{map_next}
use Rattle.laws.proofs.MapMerge.{OfMap}
use Rattle.laws.proofs.Untangle.{row_in, olds}
use Rattle.laws.proofs.DocMerge.{map_rows}
use Rattle.batch.specs.Rank.{op_before}
use Rattle.batch.specs.Groups.{between, object_out, doc_out}
use Rattle.batch.proofs.Between.{of-object}
use Rattle.batch.proofs.RowsRise.{rows-rise, news-sorted, news-rise, rows-placed}
use Rattle.batch.proofs.DocWalk.{MapSorted, Positive, each-kept, doc_out-olds, doc-walk}

-- ── rows of document and batch
module _ (d : Document) (b : List Op) (f : Formed d) (s : Sound d b) where
  abbrev news : List Row
  news = sort op_before (new_rows b)

  both-placed : Placed (d.rows ++ new_rows b)
  unfolding all_rows
  both-placed = all_placed d b f s

  -- ── what the walk asks
  news-apart : Apart (d.rows ++ news)
  news-apart = (rows-placed d b f s).apart

  news-positive : Positive (d.rows ++ news)
  news-positive r = id-positive (d.rows ++ news) (rows-placed d b f s)

  pub rows-kept : (o : ℕ) → olds (object_out (between o (suc o) news) (between o (suc o) d.rows)) ≡ between o (suc o) d.rows
  rows-kept = each-kept news d.rows news-apart news-positive (rows-rise f) (news-rise b s.apart)

  -- ── by rank is by key, in a map
  -- it is enough that it is so of rows that are known to be of one map
  pub ranked-maps : ((o : ℕ) (x y : Row) → Mem x (new_rows b) → Mem y (new_rows b) → OfMap o x → OfMap o y → map_next x y ≡ op_before x y)
      → (x y : Row) → Mem x (new_rows b) → Mem y (new_rows b) → object_of x ≡ object_of y → T (not (on_list x)) → map_next x y ≡ op_before x y
  ranked-maps h x y m n e t =
      let of_map : (r : Row) → Mem r (new_rows b) → object_of r ≡ object_of x → OfMap (object_of x) r =
      λ r i g. map_rows d.rows (new_rows b) both-placed (object_of x) x (append_right d.rows m) refl t r (append_right d.rows i) g in
      h (object_of x) x y m n (of_map x m refl) (of_map y n (sym e))

  module _ (ranked : (x y : Row) → Mem x (new_rows b) → Mem y (new_rows b) → object_of x ≡ object_of y → T (not (on_list x)) → map_next x y ≡ op_before x y) where
    one_map : (o : ℕ) (l : List Row) → All (λ r. Mem r (new_rows b) × (object_of r ≡ o)) l → Sorted op_before l → MapSorted l
    one_map o [] a s = tt
    one_map o (u ∷ l) a s =
        λ t.
        let kind : (x : Row) → Mem x (u ∷ l) → T (not (on_list x)) =
        λ x m. let i = a x m in let j = a u (here refl) in
        rw (one-kind (d.rows ++ new_rows b) both-placed x u (append_right d.rows i.0) (append_right d.rows j.0) (i.1 ∙ sym j.1)) t in
        pairwise-mono (u ∷ l) (λ x y m n h. let i = a x m in let j = a y n in subst T (sym (ranked x y i.0 j.0 (i.1 ∙ sym j.1) (kind x m))) h) s

    pub maps-sorted : (o : ℕ) → MapSorted (between o (suc o) news)
    maps-sorted o =
        let p : Row → Bool = λ r. eqb (object_of r) o in
        subst MapSorted (sym (of-object o news (news-rise b s.apart)))
        (one_map o (filter p news) (λ r m. (sort-from op_before (new_rows b) (filter-from p news m), eqb→eq (object_of r) o (filter_passes p news m)))
        (filter-sorted op_before p news (news-sorted b s.apart)))

    -- ── all of it
    pub rows-merged : map row_in (doc_out news d.rows) ≡ order (all_rows d b)
    unfolding all_rows
    rows-merged =
        doc-walk d.rows (new_rows b) news both-placed (sort-perm-self op_before (new_rows b)) (placed f) f.ordered (rows-rise f) (news-rise b s.apart) maps-sorted

    pub rows_stay : olds (doc_out news d.rows) ≡ d.rows
    rows_stay = doc_out-olds news d.rows news-apart news-positive (rows-rise f) (news-rise b s.apart) maps-sorted
