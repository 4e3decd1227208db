-- Two batches, one after the other, are one batch: the same document, and sound if they are.
use mathlib.Core.Path.{◌≡◌, refl, sym, ap, ap₂, subst, ◌∙◌}
use mathlib.Core.Bool.{Bool, not}
use mathlib.Core.List.{List, [], ◌∷◌, ◌++◌, map, append_assoc, map-append}
use Prim.Native.Nat.{ℕ}
use native.Mathlib.Omega.{arith}
use lib.ListN.{length}
use lib.Dec.{T}
use Rattle.model.specs.Basic.{filter}
use Rattle.model.specs.Sizes.{op_words}
use Rattle.model.specs.Row.{Row, Op, id_of, is_delete, is_counter, row_of, preds_of, rows_with}
use Rattle.model.specs.Document.{Document, new_rows, all_rows, entry, new_succs, all_succs, succ_before, merged}
use Rattle.model.specs.Malformed.{row_fits, preds_fit}
use Rattle.model.specs.Refusal.{object_fits, element_fits, preds_exist}
use Rattle.laws.proofs.Tests.{by-test}
use Rattle.laws.proofs.Members.{Mem, here, All, Same, all_append, any_same, filter-append, concat_map-append, map-ext, concat_map-ext}
use Rattle.laws.proofs.Pairs.{pairwise_append, key-distinct-nodup}
use Rattle.laws.proofs.Perms.{Perm, perm-mem, perm-trans, perm-eq, perm-refl, perm-append, perm-length, perm_same, sort-perm, sort-perm-self}
use Rattle.laws.proofs.RowOrder.{Apart, apart-perm, SuccsApart, pair_of, succ-order, order-perm}
use Rattle.laws.proofs.RowWords.{id-of, with-from, with_in}
use Rattle.laws.proofs.Grow.{object-grows, element-grows, preds-grow}
use Rattle.laws.proofs.Accepted.{New, Sound}
use Rattle.laws.proofs.Formed.{Formed}
use Rattle.laws.proofs.Entries.{succ-of, entry-by, preds-facts, preds-length, pred-row, succs-apart}
use Rattle.laws.proofs.Together.{old_row, new_row}
use Rattle.demands.proofs.MergedRows.{row-in, old-succ, new-succ, succ-in, rows-perm, all-succs-apart, the_row}
use Rattle.demands.proofs.MergedWellFormed.{rs-apart, merged-formed}

-- ── rows that agree on who is a counter give the same entries
pub new-succs-by : (rs rs' : List Row) (b : List Op) → All (λ o. All (λ p. Same (rows_with rs p) (rows_with rs' p)) (preds_of o)) b → new_succs rs b ≡ new_succs rs' b
unfolding new_succs
new-succs-by rs rs' b h =
    concat_map-ext (λ o. map (entry rs o) (preds_of o)) (λ o. map (entry rs' o) (preds_of o)) b
    (λ o m. map-ext (entry rs o) (entry rs' o) (preds_of o) (λ p i. entry-by rs rs' o p (any_same is_counter (rows_with rs p) (rows_with rs' p) (h o m p i))))

pub with-same : (rs rs' : List Row) (i : ℕ) → Same rs rs' → Same (rows_with rs i) (rows_with rs' i)
with-same rs rs' i s r = (
  λ m. let w = with-from rs i m in with_in rs' i ((s r).0 w.0) w.1,
  λ m. let w = with-from rs' i m in with_in rs i ((s r).1 w.0) w.1,
)

-- an operation of a batch leaves its id in the document: as a row, or, a Delete, as a successor
pub leaves : (d : Document) (b : List Op) (o : Op) → Mem o b → length o ≡ op_words → T (preds_fit o) → New (merged d b) (id_of o) → ⊥
leaves d b o m w t new =
    by-test (is_delete o) deleted (λ u. new.0 (row_of o) (row-in d b (new_row d b m u)) (sym (id-of o)))
  where
    deleted : T (is_delete o) → ⊥
    deleted u = go (preds_of o) refl
      where
        go : (ps : List ℕ) → preds_of o ≡ ps → ⊥
        go [] e = omega (arith, (preds-facts o t).some u, preds-length o w t, ap length e)
        go (p ∷ ps) e = new.1 (entry (all_rows d b) o p) (succ-in d b (new-succ d b m (rw e (here refl)))) (sym (succ-of (all_rows d b) o p))

-- ── the rows and the number of entries, whatever the batches are
pub rows-joined : (d : Document) (a b : List Op) → Perm (all_rows (merged d a) b) (all_rows d (a ++ b))
unfolding all_rows new_rows
rows-joined d a b =
    let p : Op → Bool = λ o. not (is_delete o) in
    perm-trans (perm-append (rows-perm d a) (perm-refl (new_rows b)))
    (perm-eq (append_assoc d.rows (new_rows a) (new_rows b) ∙ ap (λ l. d.rows ++ l) (sym (ap (map row_of) (filter-append p a b) ∙ map-append row_of (filter p a) (filter p b)))))

module _ (d : Document) (a b : List Op) (f : Formed d) (full : All (λ o. length o ≡ op_words) a) (s : Sound d a) (t : Sound (merged d a) b) where
  first : Formed (merged d a)
  first = merged-formed d a f s full

  apart-then : Apart (all_rows (merged d a) b)
  apart-then = rs-apart (merged d a) b first t

  apart-all : Apart (all_rows d (a ++ b))
  apart-all = apart-perm (rows-joined d a b) apart-then

  -- a row of document and first batch is one of all
  early : (r : Row) → Mem r (all_rows d a) → Mem r (all_rows d (a ++ b))
  early r m = perm-mem (rows-joined d a b) (old_row (merged d a) b (row-in d a m))

  -- ── the entries
  first-entries : new_succs (all_rows d a) a ≡ new_succs (all_rows d (a ++ b)) a
  first-entries =
      new-succs-by (all_rows d a) (all_rows d (a ++ b)) a
      (λ o m p i.
      let w = (pred-row (all_rows d a) o (s.preds o m) p i).1 in
      λ r. (
        λ n. let q = with-from (all_rows d a) p n in with_in (all_rows d (a ++ b)) p (early r q.0) q.1,
        λ n.
            let q = with-from (all_rows d (a ++ b)) p n in
            let e : w.0 ≡ r = the_row (all_rows d (a ++ b)) apart-all (early w.0 w.1) w.2 q.0 q.1 in
            with_in (all_rows d a) p (subst (λ x. Mem x (all_rows d a)) e w.1) q.1,
      ))

  second-entries : new_succs (all_rows (merged d a) b) b ≡ new_succs (all_rows d (a ++ b)) b
  second-entries =
      new-succs-by (all_rows (merged d a) b) (all_rows d (a ++ b)) b
      (λ o m p i. with-same (all_rows (merged d a) b) (all_rows d (a ++ b)) p (perm_same (rows-joined d a b)))

  succs-joined : Perm (all_succs (merged d a) b) (all_succs d (a ++ b))
  unfolding all_succs merged new_succs
  succs-joined =
      let R = all_rows d (a ++ b) in
      perm-trans (perm-append (sort-perm-self succ_before (all_succs d a)) (perm-refl (new_succs (all_rows (merged d a) b) b)))
      (perm-eq
      (ap₂ (λ x y. (d.succs ++ x) ++ y) first-entries second-entries
      ∙ append_assoc d.succs (new_succs R a) (new_succs R b)
      ∙ ap (λ l. d.succs ++ l) (sym (concat_map-append (λ o. map (entry R o) (preds_of o)) a b))))

  succs-apart-then : SuccsApart (all_succs (merged d a) b)
  succs-apart-then = all-succs-apart (merged d a) b (succs-apart (merged d a).succs first.ascend) t.apart t.new t.preds-fit

  -- ── the document
  pub joined : merged (merged d a) b ≡ merged d (a ++ b)
  joined = λ i. record { rows = rows-one i; succs = succs-one i }
    where
      rows-one : (merged (merged d a) b).rows ≡ (merged d (a ++ b)).rows
      rows-one = unfold merged in order-perm (all_rows (merged d a) b) (all_rows d (a ++ b)) apart-then (rows-joined d a b)

      succs-one : (merged (merged d a) b).succs ≡ (merged d (a ++ b)).succs
      succs-one = unfold merged in
          sort-perm succ_before (all_succs (merged d a) b) (all_succs d (a ++ b)) (succ-order (all_succs (merged d a) b) succs-apart-then)
          (key-distinct-nodup pair_of (all_succs (merged d a) b) succs-apart-then) succs-joined

  pub joined-sound : Sound d (a ++ b)
  joined-sound =
      record {
        rows_fit = all_append (λ o. T (row_fits o)) a s.rows_fit t.rows_fit;
        preds-fit = all_append (λ o. T (preds_fit o)) a s.preds-fit t.preds-fit;
        apart = pairwise_append a b s.apart t.apart (λ o c m n e. leaves d a o m (full o m) (s.preds-fit o m) (subst (New (merged d a)) (sym e) (t.new c n)));
        new = all_append (λ o. New d (id_of o)) a s.new
            (λ o m. (λ r n. (t.new o m).0 r (row-in d a (old_row d a n)), λ u n. (t.new o m).1 u (succ-in d a (old-succ d a n))));
        objects = all_append (λ o. T (object_fits (all_rows d (a ++ b)) o)) a
            (λ o m. object-grows (all_rows d a) (all_rows d (a ++ b)) early o (s.objects o m))
            (λ o m. object-grows (all_rows (merged d a) b) (all_rows d (a ++ b)) late o (t.objects o m));
        elements = all_append (λ o. T (element_fits (all_rows d (a ++ b)) o)) a
            (λ o m. element-grows (all_rows d a) (all_rows d (a ++ b)) early o (s.elements o m))
            (λ o m. element-grows (all_rows (merged d a) b) (all_rows d (a ++ b)) late o (t.elements o m));
        preds = all_append (λ o. T (preds_exist (all_rows d (a ++ b)) o)) a
            (λ o m. preds-grow (all_rows d a) (all_rows d (a ++ b)) early o (s.preds o m))
            (λ o m. preds-grow (all_rows (merged d a) b) (all_rows d (a ++ b)) late o (t.preds o m));
        rows_few = omega (arith, perm-length (rows-joined d a b), t.rows_few);
        succs-few = omega (arith, perm-length succs-joined, t.succs-few);
      }
    where
      late : (r : Row) → Mem r (all_rows (merged d a) b) → Mem r (all_rows d (a ++ b))
      late r m = perm-mem (rows-joined d a b) m
