-- THEOREM same-document-same-set: two accepted courses that end in the same rows and successors merged the same set of operations: they
-- can be read back from the document.
use mathlib.Core.Path.{◌≡◌, refl, sym, ap, ap₂, subst, ◌∙◌}
use mathlib.Core.Bool.{Bool}
use mathlib.Core.List.{List, [], ◌∷◌, map}
use Prim.Native.Nat.{ℕ}
use native.Mathlib.Omega.{arith}
use lib.ListN.{length, take, drop, length-take, take-append-drop}
use lib.Dec.{T, T_not, eqb}
use Rattle.model.specs.Basic.{filter, sort, concat}
use Rattle.model.specs.Sizes.{row_words, op_words}
use Rattle.model.specs.Row.{Row, Op, Succ, id_of, is_delete, row_of, preds_of, owner_of, succ_of}
use Rattle.model.specs.Document.{empty, all_rows, entry, new_succs, all_succs, succ_before, merged}
use Rattle.model.specs.Course.{course, course_accepted, preds_in, with_preds, delete_at, deleted_by, operations_of, shaped_ops}
use Rattle.laws.proofs.Tests.{by-test}
use Rattle.laws.proofs.Members.{Mem, here, not-nil, append_left, All, Same, same-sym, same-trans}
use Rattle.laws.proofs.Pairs.{key-distinct-nodup}
use Rattle.laws.proofs.Sort.{sort-filter, sorted_sort}
use Rattle.laws.proofs.RowOrder.{SuccsApart, succ-order, pair_of}
use Rattle.laws.proofs.RowWords.{id-of, row-fits-of, same-key-of}
use Rattle.laws.proofs.Accepted.{Sound}
use Rattle.laws.proofs.Formed.{Rowless}
use Rattle.laws.proofs.Entries.{owner_of-entry, succ-of, preds-facts, preds-length, pred-row, new-succs-apart, new-succs-of, own-sorted, sorted_apart}
use Rattle.laws.proofs.Shaped.{Shape, shape}
use Rattle.laws.proofs.Written.{op-written, delete-written}
use Rattle.laws.proofs.Operations.{row-op, delete-op, on_op, deleted-from, deleted-in}
use Rattle.laws.proofs.Together.{on_row, new_row}
use Rattle.demands.proofs.MergedRows.{row-in, row_out, on-succ, new-succ, succ-in, succ-out}
use Rattle.demands.proofs.MergedWellFormed.{op_row, pred-kept, is-delete-of}
use Rattle.demands.proofs.Courses.{empty-formed, course-sound, course-ends}

-- ── predecessors are read back
module _ (a : List Op) (s : Sound empty a) where
  entries-apart : SuccsApart (all_succs empty a)
  unfolding all_succs
  entries-apart = new-succs-apart (all_rows empty a) a s.apart s.preds-fit

  own-entries : (o : Op) → Mem o a → filter (λ t. eqb (succ_of t) (id_of o)) (merged empty a).succs ≡ map (entry (all_rows empty a) o) (preds_of o)
  unfolding merged all_succs
  own-entries o m =
      let p : Succ → Bool = λ t. eqb (succ_of t) (id_of o) in
      let es = new_succs (all_rows empty a) a in
      let ord = succ-order es entries-apart in
      sort-filter succ_before p es ord (key-distinct-nodup pair_of es entries-apart)
      ∙ ap (sort succ_before) (new-succs-of (all_rows empty a) a o s.apart m)
      ∙ sorted_sort succ_before (map (entry (all_rows empty a) o) (preds_of o)) (succ-order (map (entry (all_rows empty a) o) (preds_of o)) own-apart) (own-sorted (all_rows empty a) o (s.preds-fit o m))
    where
      own-apart : SuccsApart (map (entry (all_rows empty a) o) (preds_of o))
      own-apart = sorted_apart (map (entry (all_rows empty a) o) (preds_of o)) (own-sorted (all_rows empty a) o (s.preds-fit o m))

  pub preds-read : (o : Op) → Mem o a → preds_in (merged empty a) (id_of o) ≡ preds_of o
  unfolding preds_in
  preds-read o m = ap (map owner_of) (own-entries o m) ∙ owners (preds_of o)
    where
      owners : (ps : List ℕ) → map owner_of (map (entry (all_rows empty a) o) ps) ≡ ps
      owners [] = refl
      owners (p ∷ ps) = ap₂ ◌∷◌ (owner_of-entry (all_rows empty a) o p) (owners ps)

-- ── operations are read back
module _ (a : List Op) (s : Sound empty a) (shapes : All (Shape op_words) a) where
  -- an operation's row has its shape
  row-shape : (o : Op) → Mem o a → Shape row_words (row_of o)
  row-shape o m =
      let h = shapes o m in
      record { full = length-take row_words o ∙ omega (arith, h.full); range = λ w i. h.range w (take-mem row_words o i) }
    where
      take-mem : (n : ℕ) (l : List ℕ) {w : ℕ} → Mem w (take n l) → Mem w l
      take-mem n l {w} i = subst (λ k. Mem w k) (take-append-drop n l) (append_left (drop n l) i)

  written : (o : Op) → Mem o a → with_preds (row_of o) (preds_in (merged empty a) (id_of o)) ≡ o
  written o m = ap (with_preds (row_of o)) (preds-read a s o m) ∙ sym (op-written o (shapes o m).full (s.preds-fit o m))

  -- the row of a Delete is written out from any row that it deletes
  delete-row : (o : Op) → Mem o a → T (is_delete o) → (p : ℕ) → Mem p (preds_of o) → (r : Row) → Mem r (merged empty a).rows → id_of r ≡ p → delete_at (id_of o) r ≡ row_of o
  delete-row o m t p i r n e =
      on_row empty a (row_out empty a n) (λ k. absurd (not-nil k))
      (λ c k u g.
      ap (λ j. delete_at j r) (sym (id-of o))
      ∙ sym (delete-written (row_of o) r (rw (is-delete-of o) t) (rw (row-fits-of o) (s.rows_fit o m)) (rw (g, row-fits-of c) (s.rows_fit c k)) (row-shape o m)
      (subst (Shape row_words) (sym g) (row-shape c k)) (rw (same-key-of o r) (pred-kept empty a empty-formed s m i (row_out empty a n) e).1)))

  -- a Delete has no row
  rowless : (o : Op) → Mem o a → T (is_delete o) → Rowless (merged empty a) (id_of o)
  rowless o m t r n e = T_not (is_delete o) (op_row empty a empty-formed s m (row_out empty a n) e).1 t

  pub read_back : Same (operations_of (merged empty a)) a
  read_back x = (out, back)
    where
      out : Mem x (operations_of (merged empty a)) → Mem x a
      out n =
          on_op (merged empty a) n
          (λ r i e.
          on_row empty a (row_out empty a i) (λ k. absurd (not-nil k))
          (λ o m t g.
          let same : x ≡ o = e ∙ ap₂ (λ q j. with_preds q (preds_in (merged empty a) j)) g (ap id_of g ∙ id-of o) ∙ written o m in
          subst (λ z. Mem z a) (sym same) m))
          (λ i p r d j k e g.
          let w = deleted-from (merged empty a) d in
          on-succ empty a (succ-out empty a w.0.1) (λ y. absurd (not-nil y))
          (λ o q m l h.
          let here-id : i ≡ id_of o = sym w.0.2 ∙ ap succ_of h ∙ succ-of (all_rows empty a) o q in
          by-test (is_delete o)
          (λ t.
          let mine : Mem p (preds_of o) = subst (λ z. Mem p z) (ap (preds_in (merged empty a)) here-id ∙ preds-read a s o m) j in
          let same : x ≡ o = g ∙ ap (λ z. with_preds (delete_at z r) (preds_in (merged empty a) z)) here-id ∙ ap (λ z. with_preds z (preds_in (merged empty a) (id_of o))) (delete-row o m t p mine r k e) ∙ written o m in
          subst (λ z. Mem z a) (sym same) m)
          (λ t. absurd (w.1 (row_of o) (row-in empty a (new_row empty a m t)) (id-of o ∙ sym here-id)))))

      back : Mem x a → Mem x (operations_of (merged empty a))
      back m =
          by-test (is_delete x) deleted
          (λ t. subst (λ z. Mem z (operations_of (merged empty a))) (ap (λ j. with_preds (row_of x) (preds_in (merged empty a) j)) (id-of x) ∙ written x m) (row-op (merged empty a) (row-in empty a (new_row empty a m t))))
        where
          deleted : T (is_delete x) → Mem x (operations_of (merged empty a))
          deleted t = go (preds_of x) refl
            where
              go : (ps : List ℕ) → preds_of x ≡ ps → Mem x (operations_of (merged empty a))
              go [] e = absurd (omega (arith, (preds-facts x (s.preds-fit x m)).some t, preds-length x (shapes x m).full (s.preds-fit x m), ap length e))
              go (p ∷ ps) e =
                  let i : Mem p (preds_of x) = rw e (here refl) in
                  let w = (pred-row (all_rows empty a) x (s.preds x m) p i).1 in
                  let r-in = row-in empty a w.1 in
                  let sid = succ-of (all_rows empty a) x p in
                  let d : Mem (id_of x) (deleted_by (merged empty a)) = subst (λ j. Mem j (deleted_by (merged empty a))) sid (deleted-in (merged empty a) (succ-in empty a (new-succ empty a m i)) (subst (Rowless (merged empty a)) (sym sid) (rowless x m t))) in
                  subst (λ z. Mem z (operations_of (merged empty a))) (ap (λ z. with_preds z (preds_in (merged empty a) (id_of x))) (delete-row x m t p i w.0 r-in w.2) ∙ written x m)
                  (delete-op (merged empty a) d (preds-read a s x m ∙ e) r-in w.2)

pub course-read-back : (bs : List (List Op)) → T (shaped_ops (concat bs)) → T (course_accepted empty bs) → Same (operations_of (course empty bs)) (concat bs)
course-read-back bs h t = rw (course-ends bs h t) (read_back (concat bs) (course-sound bs h t) (shape op_words (concat bs) h))

pub same-document-same-set : (bs cs : List (List Op)) → T (shaped_ops (concat bs)) → T (shaped_ops (concat cs)) → T (course_accepted empty bs) → T (course_accepted empty cs)
    → course empty bs ≡ course empty cs → Same (concat bs) (concat cs)
same-document-same-set bs cs h k t u e =
    same-trans (same-sym (course-read-back bs h t)) (subst (λ d. Same (operations_of d) (concat cs)) (sym e) (course-read-back cs k u))
