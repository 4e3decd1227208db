-- What it means that a document is well-formed: `Formed d` says each rule's fact by its name, of rows and entries and not of tests.
use mathlib.Core.Path.{◌≡◌, sym}
use mathlib.Core.Logic.{◌↔◌}
use mathlib.Core.Bool.{Bool, not, ◌&&◌}
use mathlib.Core.List.{map}
use Prim.Native.Nat.{ℕ, ◌≤◌, ◌<◌}
use lib.ListN.{length}
use lib.Dec.{T, T_not, not_T, leb, ltb, eqb, ltb→lt, lt→ltb, leb→le, le→leb, eqb→eq}
use Rattle.model.specs.Basic.{◌implies◌, any, all, filter, member, ascends}
use Rattle.model.specs.Sizes.{max_rows, max_succs, max_preds}
use Rattle.model.specs.Id.{is_id}
use Rattle.model.specs.Row.{Row, Succ, id_of, is_insert, is_delete, is_increment, is_set_or_make, owner_of, succ_of}
use Rattle.model.specs.Key.{same_key}
use Rattle.model.specs.Order.{order}
use Rattle.model.specs.Document.{Document, succ_before}
use Rattle.model.specs.Malformed.{row_fits}
use Rattle.model.specs.Refusal.{object_fits, element_fits}
use Rattle.model.specs.WellFormed.{owner_rows, succ_rows, counts_fit, no_delete, rows_pass, ids_differ, in_order, succs_ascend, owners_stand, succ_rows_fit, one_key, deletes_fit, succs_few, increments_stand, carries_right, increments_right, well_formed}
use Rattle.laws.proofs.Tests.{T_and, T-implies, eq→eqb}
use Rattle.laws.proofs.Members.{Mem, All, mem-map, mem-cast, map-from, any-from, any-in, all_from, all_in, member-mem, rows_eq, rows_refl}
use Rattle.laws.proofs.Pairs.{distinct-nodup, key-distinct-map}
use Rattle.laws.proofs.RowOrder.{Apart}
use Rattle.laws.proofs.RowWords.{with-from, with_in}

-- no row has the id: a successor that it is belongs to a Delete
abbrev pub Rowless : Document → ℕ → Type 0
Rowless d i = All (λ r. id_of r ≡ i → ⊥) d.rows

pub record Formed (d : Document) : Type 0 where
  pub rows_few : length d.rows ≤ max_rows
  pub succs-few : length d.succs ≤ max_succs
  pub no-delete : All (λ r. T (not (is_delete r))) d.rows
  pub rows_fit : All (λ r. T (row_fits r)) d.rows
  pub objects : All (λ r. T (object_fits d.rows r)) d.rows
  pub elements : All (λ r. T (element_fits d.rows r)) d.rows
  pub apart : Apart d.rows
  pub ordered : order d.rows ≡ d.rows
  pub ascend : T (ascends succ_before d.succs)
  pub above : All (λ s. owner_of s < succ_of s) d.succs
  pub owners : All (λ s. (r : Row) × Mem r d.rows × (id_of r ≡ owner_of s) × T (is_set_or_make r)) d.succs
  pub no-insert : (s : Succ) (r : Row) → Mem s d.succs → Mem r d.rows → id_of r ≡ succ_of s → T (not (is_insert r))
  pub succ-key : (s : Succ) (r q : Row) → Mem s d.succs → Mem r d.rows → id_of r ≡ succ_of s → Mem q d.rows → id_of q ≡ owner_of s → T (same_key r q)
  pub delete-id : All (λ s. Rowless d (succ_of s) → T (is_id (succ_of s))) d.succs
  pub delete-key : (s t : Succ) (q p : Row) → Mem s d.succs → Mem t d.succs → Rowless d (succ_of s) → succ_of s ≡ succ_of t
      → Mem q d.rows → id_of q ≡ owner_of s → Mem p d.rows → id_of p ≡ owner_of t → T (same_key q p)
  pub few : All (λ s. length (filter (λ t. eqb (succ_of t) (succ_of s)) d.succs) ≤ max_preds) d.succs
  pub increments : All (λ r. T (is_increment r) → (s : Succ) × Mem s d.succs × (succ_of s ≡ id_of r)) d.rows
  pub carry : All (λ s. T (carries_right d s)) d.succs

module _ (d : Document) where
  pub no_row : (i : ℕ) → T (not (member i (map id_of d.rows))) ↔ Rowless d i
  no_row i =
      let ids = map id_of d.rows in (
        λ t r m e. T_not (member i ids) t ((member-mem i ids).1 (mem-cast (sym e) (mem-map id_of m))),
        λ f. not_T (member i ids) (λ u. let r = map-from id_of d.rows ((member-mem i ids).0 u) in f r.0 r.1 (sym r.2)),
      )

  -- ── rule by rule
  counts : T (counts_fit d) ↔ ((length d.rows ≤ max_rows) × (length d.succs ≤ max_succs))
  unfolding counts_fit
  counts =
      let both = T_and (leb (length d.rows) max_rows) (leb (length d.succs) max_succs) in (
        λ t. (leb→le (length d.rows) max_rows (both.0 t).0, leb→le (length d.succs) max_succs (both.0 t).1),
        λ h. both.1 (le→leb (length d.rows) max_rows h.0, le→leb (length d.succs) max_succs h.1),
      )

  deletes : T (no_delete d) ↔ All (λ r. T (not (is_delete r))) d.rows
  unfolding no_delete
  deletes = (all_from (λ r. not (is_delete r)) d.rows, all_in (λ r. not (is_delete r)) d.rows)

  pass : T (rows_pass d) ↔ All (λ r. T (row_fits r) × T (object_fits d.rows r) × T (element_fits d.rows r)) d.rows
  unfolding rows_pass
  pass =
      let test : Row → Bool = λ r. row_fits r && object_fits d.rows r && element_fits d.rows r in (
        λ t r m.
            let u = (T_and (row_fits r && object_fits d.rows r) (element_fits d.rows r)).0 (all_from test d.rows t r m) in
            let v = (T_and (row_fits r) (object_fits d.rows r)).0 u.0 in
            (v.0, v.1, u.1),
        λ a. all_in test d.rows
            (λ r m.
            let f = a r m in
            (T_and (row_fits r && object_fits d.rows r) (element_fits d.rows r)).1 ((T_and (row_fits r) (object_fits d.rows r)).1 (f.0, f.1), f.2)),
      )

  differ : T (ids_differ d) ↔ Apart d.rows
  unfolding ids_differ
  differ =
      let r = distinct-nodup (map id_of d.rows) in
      let s = key-distinct-map id_of d.rows in
      (λ t. s.1 (r.0 t), λ a. r.1 (s.0 a))

  orders : T (in_order d) ↔ (order d.rows ≡ d.rows)
  unfolding in_order
  orders = (rows_eq (order d.rows) d.rows, λ e. rw e (rows_refl d.rows))

  rises : T (succs_ascend d) ↔ (T (ascends succ_before d.succs) × All (λ s. owner_of s < succ_of s) d.succs)
  unfolding succs_ascend
  rises =
      let test : Succ → Bool = λ s. ltb (owner_of s) (succ_of s) in
      let both = T_and (ascends succ_before d.succs) (all test d.succs) in (
        λ t. ((both.0 t).0, λ s m. ltb→lt (owner_of s) (succ_of s) (all_from test d.succs (both.0 t).1 s m)),
        λ h. both.1 (h.0, all_in test d.succs (λ s m. lt→ltb (owner_of s) (succ_of s) (h.1 s m))),
      )

  owned : T (owners_stand d) ↔ All (λ s. (r : Row) × Mem r d.rows × (id_of r ≡ owner_of s) × T (is_set_or_make r)) d.succs
  unfolding owners_stand
  owned =
      let test : Succ → Bool = λ s. any is_set_or_make (owner_rows d s) in (
        λ t s m.
            let r = any-from is_set_or_make (owner_rows d s) (all_from test d.succs t s m) in
            let w = with-from d.rows (owner_of s) r.1 in
            (r.0, w.0, w.1, r.2),
        λ a. all_in test d.succs (λ s m. let f = a s m in any-in is_set_or_make (owner_rows d s) (with_in d.rows (owner_of s) f.1 f.2) f.3),
      )

  abbrev RowOfSucc : Type 0
  RowOfSucc =
      (s : Succ) (r : Row) → Mem s d.succs → Mem r d.rows → id_of r ≡ succ_of s
      → T (not (is_insert r)) × ((q : Row) → Mem q d.rows → id_of q ≡ owner_of s → T (same_key r q))

  succ-rows : T (succ_rows_fit d) ↔ RowOfSucc
  unfolding succ_rows_fit
  succ-rows =
      let one : Succ → Row → Bool = λ s r. not (is_insert r) && all (same_key r) (owner_rows d s) in
      let test : Succ → Bool = λ s. all (one s) (succ_rows d s) in (
        λ t s r m n e.
            let u = (T_and (not (is_insert r)) (all (same_key r) (owner_rows d s))).0 (all_from (one s) (succ_rows d s) (all_from test d.succs t s m) r (with_in d.rows (succ_of s) n e)) in
            (u.0, λ q i f. all_from (same_key r) (owner_rows d s) u.1 q (with_in d.rows (owner_of s) i f)),
        λ a. all_in test d.succs
            (λ s m.
            all_in (one s) (succ_rows d s)
            (λ r n.
            let w = with-from d.rows (succ_of s) n in
            let f = a s r m w.0 w.1 in
            (T_and (not (is_insert r)) (all (same_key r) (owner_rows d s))).1
            (f.0, all_in (same_key r) (owner_rows d s) (λ q i. let v = with-from d.rows (owner_of s) i in f.1 q v.0 v.1)))),
      )

  abbrev KeyOfBoth : Succ → Succ → Type 0
  KeyOfBoth s t =
      succ_of s ≡ succ_of t → (q p : Row) → Mem q d.rows → id_of q ≡ owner_of s → Mem p d.rows → id_of p ≡ owner_of t → T (same_key q p)

  one-key-is : (s t : Succ) → T (one_key d s t) ↔ KeyOfBoth s t
  unfolding one_key
  one-key-is s t =
      let rest = all (λ r. all (same_key r) (owner_rows d t)) (owner_rows d s) in
      let imp = T-implies (eqb (succ_of s) (succ_of t)) rest in (
        λ u e q p m f n g.
            all_from (same_key q) (owner_rows d t)
            (all_from (λ r. all (same_key r) (owner_rows d t)) (owner_rows d s) (imp.0 u (eq→eqb (succ_of s) (succ_of t) e)) q (with_in d.rows (owner_of s) m f))
            p (with_in d.rows (owner_of t) n g),
        λ a. imp.1
            (λ v.
            all_in (λ r. all (same_key r) (owner_rows d t)) (owner_rows d s)
            (λ q m.
            let w = with-from d.rows (owner_of s) m in
            all_in (same_key q) (owner_rows d t) (λ p n. let x = with-from d.rows (owner_of t) n in a (eqb→eq (succ_of s) (succ_of t) v) q p w.0 w.1 x.0 x.1))),
      )

  deleted : T (deletes_fit d) ↔ All (λ s. Rowless d (succ_of s) → T (is_id (succ_of s)) × All (KeyOfBoth s) d.succs) d.succs
  unfolding deletes_fit
  deleted =
      let rest : Succ → Bool = λ s. is_id (succ_of s) && all (one_key d s) d.succs in
      let test : Succ → Bool = λ s. not (member (succ_of s) (map id_of d.rows)) implies rest s in (
        λ t s m f.
            let u = (T-implies (not (member (succ_of s) (map id_of d.rows))) (rest s)).0 (all_from test d.succs t s m) ((no_row (succ_of s)).1 f) in
            let v = (T_and (is_id (succ_of s)) (all (one_key d s) d.succs)).0 u in
            (v.0, λ t n. (one-key-is s t).0 (all_from (one_key d s) d.succs v.1 t n)),
        λ a. all_in test d.succs
            (λ s m.
            (T-implies (not (member (succ_of s) (map id_of d.rows))) (rest s)).1
            (λ u.
            let f = a s m ((no_row (succ_of s)).0 u) in
            (T_and (is_id (succ_of s)) (all (one_key d s) d.succs)).1 (f.0, all_in (one_key d s) d.succs (λ t n. (one-key-is s t).1 (f.1 t n))))),
      )

  counted : T (succs_few d) ↔ All (λ s. length (filter (λ t. eqb (succ_of t) (succ_of s)) d.succs) ≤ max_preds) d.succs
  unfolding succs_few
  counted =
      let many : Succ → ℕ = λ s. length (filter (λ t. eqb (succ_of t) (succ_of s)) d.succs) in
      let test : Succ → Bool = λ s. leb (many s) max_preds in
      (λ t s m. leb→le (many s) max_preds (all_from test d.succs t s m), λ a. all_in test d.succs (λ s m. le→leb (many s) max_preds (a s m)))

  raised : T (increments_stand d) ↔ All (λ r. T (is_increment r) → (s : Succ) × Mem s d.succs × (succ_of s ≡ id_of r)) d.rows
  unfolding increments_stand
  raised =
      let ids = map succ_of d.succs in
      let test : Row → Bool = λ r. is_increment r implies member (id_of r) ids in (
        λ t r m u.
            let w = map-from succ_of d.succs ((member-mem (id_of r) ids).0 ((T-implies (is_increment r) (member (id_of r) ids)).0 (all_from test d.rows t r m) u)) in
            (w.0, w.1, sym w.2),
        λ a. all_in test d.rows
            (λ r m.
            (T-implies (is_increment r) (member (id_of r) ids)).1
            (λ u. let f = a r m u in (member-mem (id_of r) ids).1 (mem-cast (sym f.2) (mem-map succ_of f.1)))),
      )

  carried : T (increments_right d) ↔ All (λ s. T (carries_right d s)) d.succs
  unfolding increments_right
  carried = (all_from (carries_right d) d.succs, all_in (carries_right d) d.succs)

  -- ── all of them
  pub formed : T (well_formed d) ↔ Formed d
  unfolding well_formed
  formed =
      let a1 = counts_fit d in
      let a2 = a1 && no_delete d in
      let a3 = a2 && rows_pass d in
      let a4 = a3 && ids_differ d in
      let a5 = a4 && in_order d in
      let a6 = a5 && succs_ascend d in
      let a7 = a6 && owners_stand d in
      let a8 = a7 && succ_rows_fit d in
      let a9 = a8 && deletes_fit d in
      let a10 = a9 && succs_few d in
      let a11 = a10 && increments_stand d in (
        λ t12.
            let t11 = (T_and a11 (increments_right d)).0 t12 in
            let t10 = (T_and a10 (increments_stand d)).0 t11.0 in
            let t9 = (T_and a9 (succs_few d)).0 t10.0 in
            let t8 = (T_and a8 (deletes_fit d)).0 t9.0 in
            let t7 = (T_and a7 (succ_rows_fit d)).0 t8.0 in
            let t6 = (T_and a6 (owners_stand d)).0 t7.0 in
            let t5 = (T_and a5 (succs_ascend d)).0 t6.0 in
            let t4 = (T_and a4 (in_order d)).0 t5.0 in
            let t3 = (T_and a3 (ids_differ d)).0 t4.0 in
            let t2 = (T_and a2 (rows_pass d)).0 t3.0 in
            let t1 = (T_and a1 (no_delete d)).0 t2.0 in
            record {
              rows_few = (counts.0 t1.0).0;
              succs-few = (counts.0 t1.0).1;
              no-delete = deletes.0 t1.1;
              rows_fit = λ r m. (pass.0 t2.1 r m).0;
              objects = λ r m. (pass.0 t2.1 r m).1;
              elements = λ r m. (pass.0 t2.1 r m).2;
              apart = differ.0 t3.1;
              ordered = orders.0 t4.1;
              ascend = (rises.0 t5.1).0;
              above = (rises.0 t5.1).1;
              owners = owned.0 t6.1;
              no-insert = λ s r m n e. (succ-rows.0 t7.1 s r m n e).0;
              succ-key = λ s r q m n e. (succ-rows.0 t7.1 s r m n e).1 q;
              delete-id = λ s m f. (deleted.0 t8.1 s m f).0;
              delete-key = λ s t q p m n f e. (deleted.0 t8.1 s m f).1 t n e q p;
              few = counted.0 t9.1;
              increments = raised.0 t10.1;
              carry = carried.0 t11.1;
            },
        λ f.
            let u1 = counts.1 (f.rows_few, f.succs-few) in
            let u2 = (T_and a1 (no_delete d)).1 (u1, deletes.1 f.no-delete) in
            let u3 = (T_and a2 (rows_pass d)).1 (u2, pass.1 (λ r m. (f.rows_fit r m, f.objects r m, f.elements r m))) in
            let u4 = (T_and a3 (ids_differ d)).1 (u3, differ.1 f.apart) in
            let u5 = (T_and a4 (in_order d)).1 (u4, orders.1 f.ordered) in
            let u6 = (T_and a5 (succs_ascend d)).1 (u5, rises.1 (f.ascend, f.above)) in
            let u7 = (T_and a6 (owners_stand d)).1 (u6, owned.1 f.owners) in
            let u8 = (T_and a7 (succ_rows_fit d)).1 (u7, succ-rows.1 (λ s r m n e. (f.no-insert s r m n e, λ q i g. f.succ-key s r q m n e i g))) in
            let u9 = (T_and a8 (deletes_fit d)).1 (u8, deleted.1 (λ s m g. (f.delete-id s m g, λ t n e q p i h j k. f.delete-key s t q p m n g e i h j k))) in
            let u10 = (T_and a9 (succs_few d)).1 (u9, counted.1 f.few) in
            let u11 = (T_and a10 (increments_stand d)).1 (u10, raised.1 f.increments) in
            (T_and a11 (increments_right d)).1 (u11, carried.1 f.carry),
      )
