-- THEOREM picture-by-covered: for a clock that covers all that its covered operations refer to, two well-formed documents with the same covered
-- operations have the same picture.
use mathlib.Core.Path.{◌≡◌, sym, ap, subst, ◌∙◌}
use mathlib.Core.Bool.{Bool, true, false, cond, ◌&&◌}
use mathlib.Core.List.{List, map}
use Prim.Native.Nat.{ℕ}
use lib.ListN.{length, get_or}
use lib.Dec.{T, eqb, eqb→eq}
use Rattle.model.specs.Basic.{any, all, filter}
use Rattle.model.specs.Sizes.{row_words, succ_words}
use Rattle.model.specs.Id.{covered}
use Rattle.model.specs.Row.{Row, Succ, id_of, value_of, is_counter, is_increment, is_set_or_make, owner_of, succ_of, carries_of, carried_of, carries, rows_with}
use Rattle.model.specs.Order.{order}
use Rattle.model.specs.Document.{Document, succ_before}
use Rattle.model.specs.WellFormed.{owner_rows, succ_rows, carries_right, well_formed}
use Rattle.model.specs.Visible.{covered_succs, visible, total}
use Rattle.model.specs.Picture.{seen, rivals, wins, in_conflict, outgrown, shown_value, picture_entry, picture}
use Rattle.model.specs.Course.{refers_to, covered_ops, closed_clock, shaped, shaped_document}
use Rattle.laws.proofs.Tests.{T_and}
use Rattle.laws.proofs.Members.{Mem, Same, same-sym, map-ext, filter-from, filter_passes, filter-in, filter-ext, filter-filter, any-from, any_same, all_same}
use Rattle.laws.proofs.Pairs.{one_key}
use Rattle.laws.proofs.Sort.{Sorted, filter-sorted, sorted_sort, sorted-nodup, sort-same}
use Rattle.laws.proofs.RowOrder.{order_same, succ-order}
use Rattle.laws.proofs.RowWords.{with-from, with_in}
use Rattle.laws.proofs.SubDocument.{passing, order-filter, passing-listed}
use Rattle.laws.proofs.Standing.{placed}
use Rattle.laws.proofs.Formed.{Formed, formed}
use Rattle.laws.proofs.Entries.{succs-sorted, sorted_apart}
use Rattle.laws.proofs.Shaped.{shape}
use Rattle.laws.proofs.Written.{tab, by-words}
use Rattle.demands.proofs.Covered.{Shapes, row-refers, owner-covered, row-over, entry-over}

pub shapes : (d : Document) → T (shaped_document d) → Shapes d
shapes d t =
    let u = (T_and (shaped row_words d.rows) (shaped succ_words d.succs)).0 t in
    record { rows = shape row_words d.rows u.0; succs = shape succ_words d.succs u.1 }

-- two documents, one as good as the other
record Alike (clock : List ℕ) (d e : Document) : Type 0 where
  left : Formed d
  right : Formed e
  left-shapes : Shapes d
  right-shapes : Shapes e
  closed : T (closed_clock clock d)
  closed-too : T (closed_clock clock e)
  ops : Same (covered_ops clock d) (covered_ops clock e)

turned : {clock : List ℕ} {d e : Document} → Alike clock d e → Alike clock e d
turned a =
    record {
      left = a.right;
      right = a.left;
      left-shapes = a.right-shapes;
      right-shapes = a.left-shapes;
      closed = a.closed-too;
      closed-too = a.closed;
      ops = same-sym a.ops;
    }

module _ (clock : List ℕ) where
  -- ── the covered rows
  row-moves : (d e : Document) → Alike clock d e → (r : Row) → Mem r (passing (covered clock) d.rows) → Mem r (passing (covered clock) e.rows)
  row-moves d e a r m =
      let test : Row → Bool = λ r. covered clock (id_of r) in
      let t = filter_passes test d.rows m in
      filter-in test e.rows (row-over clock d e a.left a.right a.left-shapes a.right-shapes (λ x. (a.ops x).0) r (filter-from test d.rows m) t).0 t

  own-order : (d : Document) → Formed d → Shapes d → T (closed_clock clock d) → passing (covered clock) d.rows ≡ order (passing (covered clock) d.rows)
  own-order d f h c =
      ap (filter (λ r. covered clock (id_of r))) (sym f.ordered) ∙ order-filter (covered clock) d.rows (placed f) (row-refers clock d f h c)

  passing-same : (d e : Document) → Alike clock d e → passing (covered clock) d.rows ≡ passing (covered clock) e.rows
  passing-same d e a =
      own-order d a.left a.left-shapes a.closed
      ∙ order_same (passing (covered clock) d.rows) (passing (covered clock) e.rows)
      (passing-listed (covered clock) d.rows (placed a.left) (row-refers clock d a.left a.left-shapes a.closed)).apart
      (passing-listed (covered clock) e.rows (placed a.right) (row-refers clock e a.right a.right-shapes a.closed-too)).apart
      (λ r. (row-moves d e a r, row-moves e d (turned a) r))
      ∙ sym (own-order e a.right a.right-shapes a.closed-too)

  with-covered : (d e : Document) → Alike clock d e → (i : ℕ) → T (covered clock i) → Same (rows_with d.rows i) (rows_with e.rows i)
  with-covered d e a i t r = (moves d e a, moves e d (turned a))
    where
      moves : (d e : Document) → Alike clock d e → Mem r (rows_with d.rows i) → Mem r (rows_with e.rows i)
      moves d e a m =
          let w = with-from d.rows i m in
          with_in e.rows i (row-over clock d e a.left a.right a.left-shapes a.right-shapes (λ x. (a.ops x).0) r w.0 (subst (λ j. T (covered clock j)) (sym w.1) t)).0 w.1

  -- ── the covered entries
  -- an entry says what its rows call for
  carried-by : (s t : Succ) (c : Bool) (l : List Row) → ((q r : Row) → Mem q l → Mem r l → q ≡ r)
      → T (cond c (eqb (carries_of s) 1 && any (λ r. eqb (value_of r) (carried_of s)) l) (eqb (carries_of s) 0 && eqb (carried_of s) 0))
      → T (cond c (eqb (carries_of t) 1 && any (λ r. eqb (value_of r) (carried_of t)) l) (eqb (carries_of t) 0 && eqb (carried_of t) 0))
      → (carries_of s ≡ carries_of t) × (carried_of s ≡ carried_of t)
  carried-by s t true l one u v =
      let a = (T_and (eqb (carries_of s) 1) (any (λ r. eqb (value_of r) (carried_of s)) l)).0 u in
      let b = (T_and (eqb (carries_of t) 1) (any (λ r. eqb (value_of r) (carried_of t)) l)).0 v in
      let q = any-from (λ r. eqb (value_of r) (carried_of s)) l a.1 in
      let r = any-from (λ r. eqb (value_of r) (carried_of t)) l b.1 in (
        eqb→eq (carries_of s) 1 a.0 ∙ sym (eqb→eq (carries_of t) 1 b.0),
        sym (eqb→eq (value_of q.0) (carried_of s) q.2) ∙ ap value_of (one q.0 r.0 q.1 r.1) ∙ eqb→eq (value_of r.0) (carried_of t) r.2,
      )
  carried-by s t false l one u v =
      let a = (T_and (eqb (carries_of s) 0) (eqb (carried_of s) 0)).0 u in
      let b = (T_and (eqb (carries_of t) 0) (eqb (carried_of t) 0)).0 v in
      (eqb→eq (carries_of s) 0 a.0 ∙ sym (eqb→eq (carries_of t) 0 b.0), eqb→eq (carried_of s) 0 a.1 ∙ sym (eqb→eq (carried_of t) 0 b.1))

  four : (s t : Succ) → length s ≡ succ_words → length t ≡ succ_words → owner_of s ≡ owner_of t → succ_of s ≡ succ_of t → carries_of s ≡ carries_of t → carried_of s ≡ carried_of t → s ≡ t
  four s t f g a b c d =
      by-words s ∙ ap (tab (λ i. get_or s i 0) 0) f ∙ rw (a, b, c, d) (sym (by-words t ∙ ap (tab (λ i. get_or t i 0) 0) g))

  entry-same : (d e : Document) → Alike clock d e → (s t : Succ) → Mem s d.succs → Mem t e.succs → T (covered clock (succ_of s)) → succ_of t ≡ succ_of s → owner_of t ≡ owner_of s → t ≡ s
  unfolding carries_right
  entry-same d e a s t m n u x y =
      let cs = with-covered d e a (owner_of s) (owner-covered clock d a.left a.left-shapes a.closed s m u) in
      let rs = with-covered d e a (succ_of s) u in
      let l = rows_with e.rows (succ_of s) in
      let right-t = rw (x, y) at (a.right.carry t n) in
      let right-s = rw (any_same is_counter (owner_rows d s) (rows_with e.rows (owner_of s)) cs, any_same is_increment (succ_rows d s) l rs, any_same (λ r. eqb (value_of r) (carried_of s)) (succ_rows d s) l rs) at (a.left.carry s m) in
      let both = carried-by t s (any is_counter (rows_with e.rows (owner_of s)) && any is_increment l) l
      (λ q r i j. let v = with-from e.rows (succ_of s) i in let w = with-from e.rows (succ_of s) j in one_key id_of e.rows a.right.apart q r v.0 w.0 (v.1 ∙ sym w.1))
      right-t right-s in
      four t s (a.right-shapes.succs t n).full (a.left-shapes.succs s m).full y x both.0 both.1

  succs-move : (d e : Document) → Alike clock d e → (r : Row) (s : Succ) → Mem s (covered_succs clock d r) → Mem s (covered_succs clock e r)
  unfolding covered_succs
  succs-move d e a r s m =
      let test : Succ → Bool = λ s. eqb (owner_of s) (id_of r) && covered clock (succ_of s) in
      let n = filter-from test d.succs m in
      let p = filter_passes test d.succs m in
      let u = ((T_and (eqb (owner_of s) (id_of r)) (covered clock (succ_of s))).0 p).1 in
      let w = entry-over clock d e a.left a.right a.left-shapes a.right-shapes (λ x. (a.ops x).0) s n u in
      let one : w.0 ≡ s = entry-same d e a s w.0 n w.1 u w.2 w.3 in
      filter-in test e.succs (subst (λ t. Mem t e.succs) one w.1) p

  own-succs-sorted : (d : Document) → Formed d → (r : Row) → Sorted succ_before (covered_succs clock d r)
  unfolding covered_succs
  own-succs-sorted d f r = filter-sorted succ_before (λ s. eqb (owner_of s) (id_of r) && covered clock (succ_of s)) d.succs (succs-sorted d.succs f.ascend)

  succs-same : (d e : Document) → Alike clock d e → (r : Row) → covered_succs clock d r ≡ covered_succs clock e r
  succs-same d e a r =
      let x = covered_succs clock d r in
      let y = covered_succs clock e r in
      let sx = own-succs-sorted d a.left r in
      let sy = own-succs-sorted e a.right r in
      let ox = succ-order x (sorted_apart x sx) in
      let oy = succ-order y (sorted_apart y sy) in
      sym (sorted_sort succ_before x ox sx)
      ∙ sort-same succ_before x y ox (sorted-nodup succ_before x ox sx) (sorted-nodup succ_before y oy sy) (λ s. (succs-move d e a r s, succs-move e d (turned a) r s))
      ∙ sorted_sort succ_before y oy sy

  -- ── what is seen
  visible-same : (d e : Document) → Alike clock d e → (r : Row) → visible clock d r ≡ visible clock e r
  unfolding visible
  visible-same d e a r = rw (succs-same d e a r)

  visible-covered : (d : Document) (r : Row) → T (visible clock d r) → T (covered clock (id_of r))
  unfolding visible
  visible-covered d r t = ((T_and (is_set_or_make r) (covered clock (id_of r))).0 ((T_and (is_set_or_make r && covered clock (id_of r)) (all carries (covered_succs clock d r))).0 t).0).1

  seen-passing : (d : Document) → seen clock d ≡ filter (visible clock d) (passing (covered clock) d.rows)
  unfolding seen
  seen-passing d = sym (filter-filter (visible clock d) (λ r. covered clock (id_of r)) d.rows (λ r m. visible-covered d r))

  seen_same : (d e : Document) → Alike clock d e → seen clock d ≡ seen clock e
  seen_same d e a =
      seen-passing d
      ∙ filter-ext (visible clock d) (visible clock e) (passing (covered clock) d.rows) (λ r m. visible-same d e a r)
      ∙ ap (filter (visible clock e)) (passing-same d e a)
      ∙ sym (seen-passing e)

  entry-alike : (d e : Document) → Alike clock d e → (r : Row) → picture_entry clock d r ≡ picture_entry clock e r
  unfolding picture_entry wins in_conflict rivals shown_value outgrown total
  entry-alike d e a r = rw (seen_same d e a, succs-same d e a r)

  picture-same : (d e : Document) → Alike clock d e → picture clock d ≡ picture clock e
  unfolding picture
  picture-same d e a =
      map-ext (picture_entry clock d) (picture_entry clock e) (seen clock d) (λ r m. entry-alike d e a r) ∙ ap (map (picture_entry clock e)) (seen_same d e a)

-- the same covered operations are closed in both documents, or in none
closed-over : (clock : List ℕ) (d e : Document) → Same (covered_ops clock d) (covered_ops clock e) → T (closed_clock clock d) → T (closed_clock clock e)
unfolding closed_clock
closed-over clock d e s t = rw (all_same (λ o. all (covered clock) (refers_to o)) (covered_ops clock d) (covered_ops clock e) s) at t

pub picture-by-covered : (clock : List ℕ) (d e : Document) → T (well_formed d) → T (well_formed e) → T (shaped_document d) → T (shaped_document e) → T (closed_clock clock d)
    → Same (covered_ops clock d) (covered_ops clock e) → picture clock d ≡ picture clock e
picture-by-covered clock d e wd we sd se c s =
    picture-same clock d e
    (record {
      left = (formed d).0 wd;
      right = (formed e).0 we;
      left-shapes = shapes d sd;
      right-shapes = shapes e se;
      closed = c;
      closed-too = closed-over clock d e s c;
      ops = s;
    })
