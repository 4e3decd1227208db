-- The operations of a document: one for each row, and a Delete for each successor that has none.
use mathlib.Core.Path.{◌≡◌, refl, sym}
use mathlib.Core.Bool.{Bool, not}
use mathlib.Core.List.{List, [], ◌∷◌, ◌++◌, map}
use Prim.Native.Nat.{ℕ}
use lib.ListN.{take}
use lib.Dec.{ltb, eqb, eqb→eq}
use Rattle.model.specs.Basic.{filter, concat_map, member}
use Rattle.model.specs.Row.{Row, Op, Succ, id_of, owner_of, succ_of, rows_with}
use Rattle.model.specs.Document.{Document}
use Rattle.model.specs.Course.{preds_in, with_preds, delete_at, deleted_by, delete_of, operations_of}
use Rattle.laws.proofs.Tests.{eq→eqb}
use Rattle.laws.proofs.Members.{Mem, here, not-nil, mem-map, map-from, append_left, append_right, on-mem, on-append, concat_map-from, concat_map-in, filter-from, filter_passes, filter-in}
use Rattle.laws.proofs.Pairs.{once-same}
use Rattle.laws.proofs.Sort.{sort-from, sort-in}
use Rattle.laws.proofs.RowWords.{with-from, with_in}
use Rattle.laws.proofs.Formed.{Rowless, no_row}

module _ (d : Document) where
  -- ── predecessors
  pub preds-in-from : (i : ℕ) {p : ℕ} → Mem p (preds_in d i) → (s : Succ) × Mem s d.succs × (succ_of s ≡ i) × (owner_of s ≡ p)
  unfolding preds_in
  preds-in-from i m =
      let test : Succ → Bool = λ s. eqb (succ_of s) i in
      let q = map-from owner_of (filter test d.succs) m in
      (q.0, filter-from test d.succs q.1, eqb→eq (succ_of q.0) i (filter_passes test d.succs q.1), sym q.2)

  pub preds-in-in : {s : Succ} → Mem s d.succs → Mem (owner_of s) (preds_in d (succ_of s))
  unfolding preds_in
  preds-in-in {s} m = mem-map owner_of (filter-in (λ t. eqb (succ_of t) (succ_of s)) d.succs m (eq→eqb (succ_of s) (succ_of s) refl))

  -- ── Deletes
  pub deleted-from : {i : ℕ} → Mem i (deleted_by d) → ((s : Succ) × Mem s d.succs × (succ_of s ≡ i)) × Rowless d i
  unfolding deleted_by
  deleted-from {i} m =
      let test : ℕ → Bool = λ i. not (member i (map id_of d.rows)) in
      let l = map succ_of d.succs in
      let n = (once-same (filter test l) i).0 m in
      let q = map-from succ_of d.succs (filter-from test l n) in
      ((q.0, q.1, sym q.2), (no_row d i).0 (filter_passes test l n))

  pub deleted-in : {s : Succ} → Mem s d.succs → Rowless d (succ_of s) → Mem (succ_of s) (deleted_by d)
  unfolding deleted_by
  deleted-in {s} m f =
      let test : ℕ → Bool = λ i. not (member i (map id_of d.rows)) in
      let l = map succ_of d.succs in
      (once-same (filter test l) (succ_of s)).1 (filter-in test l (mem-map succ_of m) ((no_row d (succ_of s)).1 f))

  first-from : {p : ℕ} (ps : List ℕ) → Mem p (take 1 ps) → Mem p ps
  first-from [] m = m
  first-from (q ∷ ps) m = on-mem m (λ e. here e) (λ n. absurd (not-nil n))

  -- ── the operation of a row; of a Delete; and there are no others
  pub row-op : {r : Row} → Mem r d.rows → Mem (with_preds r (preds_in d (id_of r))) (operations_of d)
  unfolding operations_of
  row-op m =
      sort-in (λ a b. ltb (id_of a) (id_of b)) (map (λ r. with_preds r (preds_in d (id_of r))) d.rows ++ concat_map (delete_of d) (deleted_by d))
      (append_left (concat_map (delete_of d) (deleted_by d)) (mem-map (λ r. with_preds r (preds_in d (id_of r))) m))

  pub delete-op : {i p : ℕ} {ps : List ℕ} {r : Row} → Mem i (deleted_by d) → preds_in d i ≡ p ∷ ps → Mem r d.rows → id_of r ≡ p → Mem (with_preds (delete_at i r) (preds_in d i)) (operations_of d)
  unfolding operations_of delete_of
  delete-op {i} {p} {ps} {r} m e n f =
      sort-in (λ a b. ltb (id_of a) (id_of b)) (map (λ r. with_preds r (preds_in d (id_of r))) d.rows ++ concat_map (delete_of d) (deleted_by d))
      (append_right (map (λ r. with_preds r (preds_in d (id_of r))) d.rows)
      (concat_map-in (delete_of d) (deleted_by d) m
      (mem-map (λ r. with_preds (delete_at i r) (preds_in d i)) (concat_map-in (rows_with d.rows) (take 1 (preds_in d i)) (rw e (here refl)) (with_in d.rows p n f)))))

  pub on_op : {C : Type 0} {x : Op} → Mem x (operations_of d) → ((r : Row) → Mem r d.rows → x ≡ with_preds r (preds_in d (id_of r)) → C)
      → ((i p : ℕ) (r : Row) → Mem i (deleted_by d) → Mem p (preds_in d i) → Mem r d.rows → id_of r ≡ p → x ≡ with_preds (delete_at i r) (preds_in d i) → C) → C
  unfolding operations_of delete_of
  on_op m f g =
      on-append (map (λ r. with_preds r (preds_in d (id_of r))) d.rows)
      (sort-from (λ a b. ltb (id_of a) (id_of b)) (map (λ r. with_preds r (preds_in d (id_of r))) d.rows ++ concat_map (delete_of d) (deleted_by d)) m)
      (λ n. let q = map-from (λ r. with_preds r (preds_in d (id_of r))) d.rows n in f q.0 q.1 q.2)
      (λ n.
      let q = concat_map-from (delete_of d) (deleted_by d) n in
      let v = map-from (λ r. with_preds (delete_at q.0 r) (preds_in d q.0)) (concat_map (rows_with d.rows) (take 1 (preds_in d q.0))) q.2 in
      let w = concat_map-from (rows_with d.rows) (take 1 (preds_in d q.0)) v.1 in
      let u = with-from d.rows w.0 w.2 in
      g q.0 w.0 v.0 q.1 (first-from (preds_in d q.0) w.1) u.0 u.1 v.2)
