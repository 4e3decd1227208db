-- The rows of a document and of a batch, together: each is one of the two; no two have one id; and all pass checks 4, 6 and 7 where the document is
-- well-formed and the batch is not refused.
use mathlib.Core.Path.{◌≡◌, sym, ap, ◌∙◌}
use mathlib.Core.Bool.{Bool, not}
use mathlib.Core.List.{List}
use lib.Dec.{T}
use Rattle.model.specs.Basic.{filter}
use Rattle.model.specs.Row.{Row, Op, id_of, is_delete, row_of}
use Rattle.model.specs.Document.{Document, new_rows, all_rows}
use Rattle.laws.proofs.Members.{Mem, append_left, append_right, All, on-append}
use Rattle.laws.proofs.Pairs.{KeyDistinct, pairwise_append, pairwise-mono, pairwise_map, filter-pairwise}
use Rattle.laws.proofs.Perms.{Perm, perm-sym, perm-mem}
use Rattle.laws.proofs.RowOrder.{Apart, apart-perm}
use Rattle.laws.proofs.RowWords.{id-of, row-fits-of, object-fits-of, element-fits-of, new-rows-from, new-rows-in}
use Rattle.laws.proofs.Grow.{object-grows, element-grows}
use Rattle.laws.proofs.Accepted.{New, Sound}
use Rattle.laws.proofs.Formed.{Formed}
use Rattle.laws.proofs.SubDocument.{Placed}

pub new-rows-apart : (b : List Op) → KeyDistinct id_of b → Apart (new_rows b)
unfolding new_rows
new-rows-apart b d =
    let p : Op → Bool = λ o. not (is_delete o) in
    (pairwise_map (λ x y. id_of x ≡ id_of y → ⊥) row_of (filter p b)).1
    (pairwise-mono (filter p b) (λ o c i j ne e. ne (sym (id-of o) ∙ e ∙ id-of c)) (filter-pairwise (λ x y. id_of x ≡ id_of y → ⊥) p b d))

module _ (d : Document) (b : List Op) where
  -- a row of document and batch is one of the two
  pub on_row : {C : Type 0} {r : Row} → Mem r (all_rows d b) → (Mem r d.rows → C) → ((o : Op) → Mem o b → T (not (is_delete o)) → r ≡ row_of o → C) → C
  unfolding all_rows
  on_row m f g = on-append d.rows m f (λ n. let q = new-rows-from b n in g q.0 q.1 q.2 q.3)

  pub old_row : {r : Row} → Mem r d.rows → Mem r (all_rows d b)
  unfolding all_rows
  old_row m = append_left (new_rows b) m

  pub new_row : {o : Op} → Mem o b → T (not (is_delete o)) → Mem (row_of o) (all_rows d b)
  unfolding all_rows
  new_row m t = append_right d.rows (new-rows-in b m t)

  pub all_apart : Apart d.rows → KeyDistinct id_of b → All (λ o. New d (id_of o)) b → Apart (all_rows d b)
  unfolding all_rows
  all_apart a k new =
      pairwise_append d.rows (new_rows b) a (new-rows-apart b k)
      (λ x y m n e. let q = new-rows-from b n in (new q.0 q.1).0 x m (sym (e ∙ ap id_of q.3 ∙ id-of q.0)))

  pub all_placed : Formed d → Sound d b → Placed (all_rows d b)
  all_placed f s =
      record {
        apart = all_apart f.apart s.apart s.new;
        fit = λ r m. on_row m (f.rows_fit r) (λ o i t e. rw (e, row-fits-of o) (s.rows_fit o i));
        objects = λ r m.
            on_row m (λ n. object-grows d.rows (all_rows d b) (λ q k. old_row k) r (f.objects r n)) (λ o i t e. rw (e, object-fits-of o (all_rows d b)) (s.objects o i));
        elements = λ r m.
            on_row m (λ n. element-grows d.rows (all_rows d b) (λ q k. old_row k) r (f.elements r n)) (λ o i t e. rw (e, element-fits-of o (all_rows d b)) (s.elements o i));
      }

-- in any order
pub placed-perm : {l k : List Row} → Perm l k → Placed k → Placed l
placed-perm {l} {k} q p =
    record {
      apart = apart-perm (perm-sym q) p.apart;
      fit = λ x m. p.fit x (perm-mem q m);
      objects = λ x m. object-grows k l (λ y i. perm-mem (perm-sym q) i) x (p.objects x (perm-mem q m));
      elements = λ x m. element-grows k l (λ y i. perm-mem (perm-sym q) i) x (p.elements x (perm-mem q m));
    }
