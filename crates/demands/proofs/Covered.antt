-- What a document's covered operations say of its rows and entries: another document with the same ones has the same covered rows, and the
-- same predecessors of every covered id.
use mathlib.Core.Path.{◌≡◌, refl, sym, ap, subst, ◌∙◌}
use mathlib.Core.Logic.{◌⊎◌, inl, inr, ⊎_elim}
use mathlib.Core.Bool.{not}
use mathlib.Core.List.{List, [], ◌∷◌, map}
use Prim.Native.Nat.{ℕ}
use native.Mathlib.Omega.{arith}
use lib.ListN.{length}
use lib.Dec.{T, T_not, eqb}
use Rattle.model.specs.Basic.{all, member}
use Rattle.model.specs.Sizes.{row_words, succ_words}
use Rattle.model.specs.Id.{root, head, covered}
use Rattle.model.specs.Row.{Row, Op, Succ, id_of, object_of, named_of, is_delete, owner_of, succ_of, row_of, preds_of}
use Rattle.model.specs.Document.{Document}
use Rattle.model.specs.Course.{refers_to, preds_in, with_preds, delete_at, operations_of, covered_ops, closed_clock}
use Rattle.laws.proofs.Tests.{by-test, by-eq, ne→neqb}
use Rattle.laws.proofs.Members.{Mem, here, there, not-nil, All, map-from, filter-from, filter-in, all_from, member-mem}
use Rattle.laws.proofs.Ids.{id-positive}
use Rattle.laws.proofs.RowFits.{fits}
use Rattle.laws.proofs.Formed.{Formed, Rowless, no_row}
use Rattle.laws.proofs.Shaped.{Shape}
use Rattle.laws.proofs.Written.{row-of-written, word-of-written, preds-of-written, delete-full, delete-id, delete-deletes}
use Rattle.laws.proofs.Operations.{preds-in-from, preds-in-in, deleted-in, row-op, delete-op, on_op}

-- each row and each entry has its shape
pub record Shapes (d : Document) : Type 0 where
  pub rows : All (Shape row_words) d.rows
  pub succs : All (Shape succ_words) d.succs

-- an operation of the document: a row's, or a Delete's
module _ (clock : List ℕ) (d : Document) (f : Formed d) (h : Shapes d) where
  on-clock : {x : Op} → Mem x (operations_of d) → T (covered clock (id_of x)) → Mem x (covered_ops clock d)
  unfolding covered_ops
  on-clock m t = filter-in (λ o. covered clock (id_of o)) (operations_of d) m t

  pub row-covered : {r : Row} → Mem r d.rows → T (covered clock (id_of r)) → Mem (with_preds r (preds_in d (id_of r))) (covered_ops clock d)
  row-covered {r} m t = on-clock (row-op d m) (subst (λ i. T (covered clock i)) (sym (word-of-written r (preds_in d (id_of r)) (h.rows r m).full 0 (omega arith))) t)

  -- the predecessors of a successor with no row, and a row that it deletes
  pub record Deleted (s : Succ) : Type 0 where
    pub at : Row
    pub at_in : Mem at d.rows
    pub op : Mem (with_preds (delete_at (succ_of s) at) (preds_in d (succ_of s))) (operations_of d)

  deleted : (s : Succ) → Mem s d.succs → Rowless d (succ_of s) → Deleted s
  deleted s m g = go (preds_in d (succ_of s)) refl
    where
      go : (ps : List ℕ) → preds_in d (succ_of s) ≡ ps → Deleted s
      go [] e = absurd (not-nil (subst (λ l. Mem (owner_of s) l) e (preds-in-in d m)))
      go (p ∷ ps) e =
          let w = preds-in-from d (succ_of s) {p = p} (subst (λ l. Mem p l) (sym e) (here refl)) in
          let q = f.owners w.0 w.1 in
          record { at = q.0; at_in = q.1; op = delete-op d (deleted-in d m g) e q.1 (q.2 ∙ w.3) }

  pub delete-covered : (s : Succ) (m : Mem s d.succs) (g : Rowless d (succ_of s)) → T (covered clock (succ_of s))
      → (r : Row) × (length r ≡ row_words) × Mem (with_preds (delete_at (succ_of s) r) (preds_in d (succ_of s))) (covered_ops clock d)
  delete-covered s m g t =
      let w = deleted s m g in
      let full = (h.rows w.at w.at_in).full in
      let e = word-of-written (delete_at (succ_of s) w.at) (preds_in d (succ_of s)) (delete-full (succ_of s) w.at full) 0 (omega arith) ∙ delete-id (succ_of s) w.at full in
      (w.at, full, on-clock w.op (subst (λ i. T (covered clock i)) (sym e) t))

  -- ── a closed clock covers what they refer to
  module _ (closed : T (closed_clock clock d)) where
    refers : {x : Op} → Mem x (covered_ops clock d) → {i : ℕ} → Mem i (object_of x ∷ named_of x ∷ preds_of x) → (i ≡ root) ⊎ T (covered clock i)
    unfolding closed_clock refers_to
    refers {x} m {i} n =
        by-eq i root inl
        (λ ne. inr (all_from (covered clock) (refers_to x) (all_from (λ o. all (covered clock) (refers_to o)) (covered_ops clock d) closed x m) i (filter-in (λ i. not (eqb i root)) (object_of x ∷ named_of x ∷ preds_of x) n (ne→neqb i root ne))))

    pub row-refers : All (λ r. T (covered clock (id_of r)) → ((object_of r ≡ root) ⊎ T (covered clock (object_of r))) × ((named_of r ≡ head) ⊎ T (covered clock (named_of r)))) d.rows
    row-refers r m t =
        let x = row-covered m t in
        let word = word-of-written r (preds_in d (id_of r)) (h.rows r m).full in (
          subst (λ i. (i ≡ root) ⊎ T (covered clock i)) (word 1 (omega arith)) (refers x (here refl)),
          subst (λ i. (i ≡ root) ⊎ T (covered clock i)) (word 3 (omega arith)) (refers x (there (here refl))),
        )

    pub owner-covered : (s : Succ) → Mem s d.succs → T (covered clock (succ_of s)) → T (covered clock (owner_of s))
    owner-covered s m t =
        ⊎_elim (λ e. absurd (let w = f.owners s m in omega (arith, id-positive (id_of w.0) (fits w.0 (f.rows_fit w.0 w.1)).id, w.2, e))) (λ u. u) either
      where
        mine : (r : Row) → length r ≡ row_words → Mem (with_preds r (preds_in d (succ_of s))) (covered_ops clock d) → (owner_of s ≡ root) ⊎ T (covered clock (owner_of s))
        mine r full x = refers x (there (there (subst (λ l. Mem (owner_of s) l) (sym (preds-of-written r (preds_in d (succ_of s)) full)) (preds-in-in d m))))

        either : (owner_of s ≡ root) ⊎ T (covered clock (owner_of s))
        either =
            by-test (member (succ_of s) (map id_of d.rows))
            (λ u.
            let q = map-from id_of d.rows ((member-mem (succ_of s) (map id_of d.rows)).0 u) in
            mine q.0 (h.rows q.0 q.1).full
            (subst (λ i. Mem (with_preds q.0 (preds_in d i)) (covered_ops clock d)) (sym q.2) (row-covered q.1 (subst (λ i. T (covered clock i)) q.2 t))))
            (λ u. let w = delete-covered s m ((no_row d (succ_of s)).0 u) t in mine (delete_at (succ_of s) w.0) (delete-full (succ_of s) w.0 w.1) w.2)

-- ── what one document's covered operations say of another that has them too
module _ (clock : List ℕ) (d e : Document) (f : Formed d) (g : Formed e) (h : Shapes d) (k : Shapes e) (sub : (x : Op) → Mem x (covered_ops clock d) → Mem x (covered_ops clock e)) where
  in-other : {x : Op} → Mem x (covered_ops clock d) → Mem x (operations_of e)
  unfolding covered_ops
  in-other m = filter-from (λ o. covered clock (id_of o)) (operations_of e) (sub _ m)

  -- what is no Delete stands there as a row, with the same predecessors
  met : (r : Row) (ps : List ℕ) → length r ≡ row_words → T (not (is_delete r)) → Mem (with_preds r ps) (operations_of e) → Mem r e.rows × (preds_in e (id_of r) ≡ ps)
  met r ps full t m =
      on_op e m
      (λ q n x.
      let own = (k.rows q n).full in
      let same : q ≡ r = sym (row-of-written q (preds_in e (id_of q)) own) ∙ sym (ap row_of x) ∙ row-of-written r ps full in
      let preds : preds_in e (id_of q) ≡ ps = sym (preds-of-written q (preds_in e (id_of q)) own) ∙ sym (ap preds_of x) ∙ preds-of-written r ps full in
      (subst (λ z. Mem z e.rows) same n, subst (λ z. preds_in e (id_of z) ≡ ps) same preds))
      (λ i p q a b n o x.
      let own = delete-full i q (k.rows q n).full in
      let same : r ≡ delete_at i q = sym (row-of-written r ps full) ∙ ap row_of x ∙ row-of-written (delete_at i q) (preds_in e i) own in
      absurd (T_not (is_delete r) t (subst (λ z. T (is_delete z)) (sym same) (delete-deletes i q (k.rows q n).full))))

  -- what is a Delete stands there as one
  met-delete : (i : ℕ) (r : Row) (ps : List ℕ) → length r ≡ row_words → Mem (with_preds (delete_at i r) ps) (operations_of e) → preds_in e i ≡ ps
  met-delete i r ps full m =
      on_op e m
      (λ q n x.
      let own = (k.rows q n).full in
      let same : q ≡ delete_at i r = sym (row-of-written q (preds_in e (id_of q)) own) ∙ sym (ap row_of x) ∙ row-of-written (delete_at i r) ps (delete-full i r full) in
      absurd (T_not (is_delete q) (g.no-delete q n) (subst (λ z. T (is_delete z)) (sym same) (delete-deletes i r full))))
      (λ j p q a b n o x.
      let own = delete-full j q (k.rows q n).full in
      let same : delete_at j q ≡ delete_at i r = sym (row-of-written (delete_at j q) (preds_in e j) own) ∙ sym (ap row_of x) ∙ row-of-written (delete_at i r) ps (delete-full i r full) in
      let one : j ≡ i = sym (delete-id j q (k.rows q n).full) ∙ ap id_of same ∙ delete-id i r full in
      ap (preds_in e) (sym one) ∙ sym (preds-of-written (delete_at j q) (preds_in e j) own) ∙ sym (ap preds_of x) ∙ preds-of-written (delete_at i r) ps (delete-full i r full))

  pub row-over : (r : Row) → Mem r d.rows → T (covered clock (id_of r)) → Mem r e.rows × (preds_in e (id_of r) ≡ preds_in d (id_of r))
  row-over r m t = met r (preds_in d (id_of r)) (h.rows r m).full (f.no-delete r m) (in-other (row-covered clock d f h m t))

  -- an entry's covered successor has that row as its predecessor there too
  pub entry-over : (s : Succ) → Mem s d.succs → T (covered clock (succ_of s)) → (t : Succ) × Mem t e.succs × (succ_of t ≡ succ_of s) × (owner_of t ≡ owner_of s)
  entry-over s m t = preds-in-from e (succ_of s) (subst (λ l. Mem (owner_of s) l) (sym preds) (preds-in-in d m))
    where
      preds : preds_in e (succ_of s) ≡ preds_in d (succ_of s)
      preds =
          by-test (member (succ_of s) (map id_of d.rows))
          (λ u.
          let q = map-from id_of d.rows ((member-mem (succ_of s) (map id_of d.rows)).0 u) in
          subst (λ i. preds_in e i ≡ preds_in d i) (sym q.2) (row-over q.0 q.1 (subst (λ i. T (covered clock i)) q.2 t)).1)
          (λ u. let w = delete-covered clock d f h s m ((no_row d (succ_of s)).0 u) t in met-delete (succ_of s) w.0 (preds_in d (succ_of s)) w.1 (in-other w.2))
