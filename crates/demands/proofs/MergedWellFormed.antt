-- THEOREM merged-well_formed: a well-formed document and a batch that is not refused give a well-formed document.
use mathlib.Core.Path.{◌≡◌, refl, sym, ap, subst, ◌∙◌}
use mathlib.Core.Bool.{Bool, true, false, not, cond, ◌&&◌}
use mathlib.Core.List.{List, [], ◌∷◌}
use Prim.Native.Nat.{ℕ, ◌+◌, ◌≤◌}
use native.Mathlib.Omega.{arith}
use lib.ListN.{length, get_or, length-append, length-map}
use lib.Dec.{T, eqb}
use Rattle.model.specs.Basic.{any, filter, ascends, sort}
use Rattle.model.specs.Sizes.{max_succs, max_preds, op_words}
use Rattle.model.specs.Row.{Row, Op, Succ, id_of, value_of, is_insert, is_delete, is_increment, is_set_or_make, is_counter, row_of, preds_of, owner_of, succ_of, carries_of, carried_of, rows_with}
use Rattle.model.specs.Key.{same_key}
use Rattle.model.specs.Document.{Document, all_rows, entry, new_succs, all_succs, succ_before, merged}
use Rattle.model.specs.Answer.{is_accepted}
use Rattle.model.specs.Refusal.{batch_refusal}
use Rattle.model.specs.WellFormed.{owner_rows, succ_rows, carries_right, well_formed}
use Rattle.model.specs.Course.{shaped_ops}
use Rattle.laws.proofs.Tests.{bool-ext, eq→eqb, ne→neqb}
use Rattle.laws.proofs.Members.{Mem, here, All, Same, any_same, any-from, any-in, filter-append, filter_none}
use Rattle.laws.proofs.Pairs.{one_key, key-distinct-nodup}
use Rattle.laws.proofs.Sort.{length-sort, sort_sorted, sorted-ascends}
use Rattle.laws.proofs.Perms.{perm-length, perm-sym, length-filter-perm, sort-perm-self}
use Rattle.laws.proofs.RowOrder.{Apart, apart-perm, SuccsApart, order-again, succ-order, pair_of}
use Rattle.laws.proofs.RowWords.{word_of, id-of, row-fits-of, object-fits-of, element-fits-of, same-key-of, with-from, with_in}
use Rattle.laws.proofs.RowFits.{fits}
use Rattle.laws.proofs.SameKey.{same-key-sym, same-key-trans}
use Rattle.laws.proofs.Grow.{object-grows, element-grows}
use Rattle.laws.proofs.Accepted.{Sound, batch-accepted}
use Rattle.laws.proofs.Formed.{Formed, formed}
use Rattle.laws.proofs.Entries.{owner_of-entry, succ-of, preds-facts, preds-few, preds-no-insert, preds-length, pred-row, new-succs-from, new-succs-of, succs-apart}
use Rattle.laws.proofs.Shaped.{shape}
use Rattle.laws.proofs.Together.{on_row, old_row, new_row, all_apart}
use Rattle.demands.proofs.MergedRows.{rows-perm, row_out, row-in, on-succ, old-succ, new-succ, succ-out, succ-in, all-succs-apart, the_row}

-- what a row shows of its operation's action and insert flag
pub is-delete-of : (o : Op) → is_delete (row_of o) ≡ is_delete o
is-delete-of o = rw (word_of o 9 (omega arith))

is-increment-of : (o : Op) → is_increment (row_of o) ≡ is_increment o
is-increment-of o = rw (word_of o 9 (omega arith))

is-insert-of : (o : Op) → is_insert (row_of o) ≡ is_insert o
is-insert-of o = rw (word_of o 8 (omega arith))

value-of : (o : Op) → value_of (row_of o) ≡ value_of o
value-of o = word_of o 11 (omega arith)

-- an Increment is no Delete
increment-row : (o : Op) → T (is_increment o) → T (not (is_delete o))
increment-row o t = ne→neqb (get_or o 9 0) 3 (λ e. absurd (rw e at t))

module _ (d : Document) (b : List Op) (f : Formed d) (s : Sound d b) where
  pub rs-apart : Apart (all_rows d b)
  rs-apart = all_apart d b f.apart s.apart s.new

  pub rows_apart : Apart (merged d b).rows
  rows_apart = apart-perm (perm-sym (rows-perm d b)) rs-apart

  ss-apart : SuccsApart (all_succs d b)
  ss-apart = all-succs-apart d b (succs-apart d.succs f.ascend) s.apart s.new s.preds-fit

  -- a row with a successor's id or a row's id of the document is the document's
  kept : {r : Row} → Mem r (all_rows d b) → All (λ o. id_of o ≡ id_of r → ⊥) b → Mem r d.rows
  kept m ne = on_row d b m (λ n. n) (λ o i t e. absurd (ne o i (sym (ap id_of e ∙ id-of o))))

  owner-kept : (t : Succ) → Mem t d.succs → {q : Row} → Mem q (all_rows d b) → id_of q ≡ owner_of t → Mem q d.rows
  owner-kept t m n e =
      let w = f.owners t m in
      kept n (λ o i g. (s.new o i).0 w.0 w.1 (g ∙ e ∙ sym w.2))

  succ-kept : (t : Succ) → Mem t d.succs → {q : Row} → Mem q (all_rows d b) → id_of q ≡ succ_of t → Mem q d.rows
  succ-kept t m n e = kept n (λ o i g. (s.new o i).1 t m (g ∙ e))

  -- the row with the id of an operation of the batch is that operation's
  pub op_row : {o : Op} → Mem o b → {q : Row} → Mem q (all_rows d b) → id_of q ≡ id_of o → (q ≡ row_of o) × T (not (is_delete o))
  op_row {o} m {q} n e =
      on_row d b n (λ i. absurd ((s.new o m).0 q i (sym e)))
      (λ c i t g.
      let h : c ≡ o = one_key id_of b s.apart c o i m (sym (ap id_of g ∙ id-of c) ∙ e) in
      (g ∙ ap row_of h, subst (λ x. T (not (is_delete x))) h t))

  -- the row of a predecessor
  pub pred-kept : {o : Op} {p : ℕ} → Mem o b → Mem p (preds_of o) → {q : Row} → Mem q (all_rows d b) → id_of q ≡ p → T (is_set_or_make q) × T (same_key q o)
  pred-kept {o} {p} m i {q} n e =
      let w = pred-row (all_rows d b) o (s.preds o m) p i in
      let h : w.1.0 ≡ q = the_row (all_rows d b) rs-apart w.1.1 w.1.2 n e in
      (subst (λ r. T (is_set_or_make r)) h w.1.3, subst (λ r. T (same_key r o)) h w.1.4)

  -- ── increments
  with-old : (i : ℕ) → All (λ o. id_of o ≡ i → ⊥) b → Same (rows_with (merged d b).rows i) (rows_with d.rows i)
  with-old i ne r = (
    λ m. let w = with-from (merged d b).rows i m in with_in d.rows i (kept (row_out d b w.0) (λ o n e. ne o n (e ∙ w.1))) w.1,
    λ m. let w = with-from d.rows i m in with_in (merged d b).rows i (row-in d b (old_row d b w.0)) w.1,
  )

  with_all : (i : ℕ) → Same (rows_with (merged d b).rows i) (rows_with (all_rows d b) i)
  with_all i r = (
    λ m. let w = with-from (merged d b).rows i m in with_in (all_rows d b) i (row_out d b w.0) w.1,
    λ m. let w = with-from (all_rows d b) i m in with_in (merged d b).rows i (row-in d b w.0) w.1,
  )

  carry-old : (t : Succ) → Mem t d.succs → T (carries_right d t) → T (carries_right (merged d b) t)
  unfolding carries_right
  carry-old t m u =
      let o = with-old (owner_of t) (λ c i e. let w = f.owners t m in (s.new c i).0 w.0 w.1 (e ∙ sym w.2)) in
      let c = with-old (succ_of t) (λ c i e. (s.new c i).1 t m e) in
      rw (any_same is_counter (owner_rows (merged d b) t) (owner_rows d t) o, any_same is_increment (succ_rows (merged d b) t) (succ_rows d t) c, any_same (λ r. eqb (value_of r) (carried_of t)) (succ_rows (merged d b) t) (succ_rows d t) c) u

  increment-rows : {o : Op} → Mem o b → any is_increment (rows_with (merged d b).rows (id_of o)) ≡ is_increment o
  increment-rows {o} m =
      let l = rows_with (merged d b).rows (id_of o) in
      bool-ext (any is_increment l) (is_increment o)
      (λ t.
      let r = any-from is_increment l t in
      let w = with-from (merged d b).rows (id_of o) r.1 in
      subst T (ap is_increment (op_row m (row_out d b w.0) w.1).0 ∙ is-increment-of o) r.2)
      (λ t.
      any-in is_increment l (with_in (merged d b).rows (id_of o) (row-in d b (new_row d b m (increment-row o t))) (id-of o)) (rw (is-increment-of o) t))

  value-rows : {o : Op} → Mem o b → T (is_increment o) → T (any (λ r. eqb (value_of r) (value_of o)) (rows_with (merged d b).rows (id_of o)))
  value-rows {o} m t =
      any-in (λ r. eqb (value_of r) (value_of o)) (rows_with (merged d b).rows (id_of o))
      (with_in (merged d b).rows (id_of o) (row-in d b (new_row d b m (increment-row o t))) (id-of o)) (eq→eqb (value_of (row_of o)) (value_of o) (value-of o))

  carry-new : (o : Op) (p : ℕ) → Mem o b → Mem p (preds_of o) → T (carries_right (merged d b) (entry (all_rows d b) o p))
  unfolding carries_right
  carry-new o p m i =
      rw (owner_of-entry (all_rows d b) o p, succ-of (all_rows d b) o p, any_same is_counter (rows_with (merged d b).rows p) (rows_with (all_rows d b) p) (with_all p), increment-rows m)
      (go (any is_counter (rows_with (all_rows d b) p)) (is_increment o) refl refl (value-rows m))
    where
      go : (c t : Bool) → any is_counter (rows_with (all_rows d b) p) ≡ c → is_increment o ≡ t
          → (T t → T (any (λ r. eqb (value_of r) (value_of o)) (rows_with (merged d b).rows (id_of o))))
          → T (cond (c && t)
          (eqb (carries_of (entry (all_rows d b) o p)) 1 && any (λ r. eqb (value_of r) (carried_of (entry (all_rows d b) o p))) (rows_with (merged d b).rows (id_of o)))
          (eqb (carries_of (entry (all_rows d b) o p)) 0 && eqb (carried_of (entry (all_rows d b) o p)) 0))
      go true true e g v = unfold entry in rw (e, g) (v tt)
      go true false e g v = unfold entry in rw g tt
      go false true e g v = unfold entry in rw (e, g) tt
      go false false e g v = unfold entry in rw g tt

  -- ── no id is a successor of more than 16 rows
  merged-count : (i : ℕ) → length (filter (λ t. eqb (succ_of t) i) (merged d b).succs)
      ≡ length (filter (λ t. eqb (succ_of t) i) d.succs) + length (filter (λ t. eqb (succ_of t) i) (new_succs (all_rows d b) b))
  unfolding merged all_succs
  merged-count i =
      let p : Succ → Bool = λ t. eqb (succ_of t) i in
      length-filter-perm p (sort-perm-self succ_before (all_succs d b))
      ∙ ap length (filter-append p d.succs (new_succs (all_rows d b) b))
      ∙ length-append (filter p d.succs) (filter p (new_succs (all_rows d b) b))

  few-old : (t : Succ) → Mem t d.succs → length (filter (λ u. eqb (succ_of u) (succ_of t)) (merged d b).succs) ≤ max_preds
  few-old t m =
      let none = filter_none (λ u. eqb (succ_of u) (succ_of t)) (new_succs (all_rows d b) b)
      (λ u n. let q = new-succs-from (all_rows d b) b n in ne→neqb (succ_of u) (succ_of t) (λ e. (s.new q.0 q.2).1 t m (sym (ap succ_of q.4 ∙ succ-of (all_rows d b) q.0 q.1) ∙ e))) in
      omega (arith, merged-count (succ_of t), ap length none, f.few t m)

  few-new : (o : Op) → Mem o b → length (filter (λ u. eqb (succ_of u) (id_of o)) (merged d b).succs) ≤ max_preds
  few-new o m =
      let none = filter_none (λ u. eqb (succ_of u) (id_of o)) d.succs (λ u n. ne→neqb (succ_of u) (id_of o) (λ e. (s.new o m).1 u n (sym e))) in
      let own = ap length (new-succs-of (all_rows d b) b o s.apart m) ∙ length-map (preds_of o) (entry (all_rows d b) o) in
      omega (arith, merged-count (id_of o), ap length none, own, preds-few o (s.preds-fit o m))

  -- ── rule by rule
  pub merged-formed : All (λ o. length o ≡ op_words) b → Formed (merged d b)
  merged-formed full =
      record {
        rows_few = omega (arith, perm-length (rows-perm d b), s.rows_few);
        succs-few = few-succs;
        no-delete = λ r m. on_row d b (row_out d b m) (f.no-delete r) (λ o i t e. rw (e, is-delete-of o) t);
        rows_fit = λ r m. on_row d b (row_out d b m) (f.rows_fit r) (λ o i t e. rw (e, row-fits-of o) (s.rows_fit o i));
        objects = λ r m.
            on_row d b (row_out d b m) (λ n. object-grows d.rows (merged d b).rows old r (f.objects r n))
            (λ o i t e. rw (e, object-fits-of o (merged d b).rows) (object-grows (all_rows d b) (merged d b).rows every o (s.objects o i)));
        elements = λ r m.
            on_row d b (row_out d b m) (λ n. element-grows d.rows (merged d b).rows old r (f.elements r n))
            (λ o i t e. rw (e, element-fits-of o (merged d b).rows) (element-grows (all_rows d b) (merged d b).rows every o (s.elements o i)));
        apart = rows_apart;
        ordered = in_order;
        ascend = ascending;
        above = λ t m. on-succ d b (succ-out d b m) (f.above t)
            (λ o p i j e. rw (e, owner_of-entry (all_rows d b) o p, succ-of (all_rows d b) o p) (pred-row (all_rows d b) o (s.preds o i) p j).0);
        owners = λ t m. on-succ d b (succ-out d b m)
            (λ n. let w = f.owners t n in (w.0, old w.0 w.1, w.2, w.3))
            (λ o p i j e. let w = (pred-row (all_rows d b) o (s.preds o i) p j).1 in (w.0, every w.0 w.1, w.2 ∙ sym (ap owner_of e ∙ owner_of-entry (all_rows d b) o p), w.3));
        no-insert = λ t r m n e. on-succ d b (succ-out d b m)
            (λ i. f.no-insert t r i (succ-kept t i (row_out d b n) e) e)
            (λ o p i j g. rw ((op_row i (row_out d b n) (e ∙ ap succ_of g ∙ succ-of (all_rows d b) o p)).0, is-insert-of o) (preds-no-insert o p (s.preds-fit o i) j));
        succ-key = λ t r q m n e k g. on-succ d b (succ-out d b m)
            (λ i. f.succ-key t r q i (succ-kept t i (row_out d b n) e) e (owner-kept t i (row_out d b k) g) g)
            (λ o p i j h.
            let own = (pred-kept i j (row_out d b k) (g ∙ ap owner_of h ∙ owner_of-entry (all_rows d b) o p)).1 in
            rw (op_row i (row_out d b n) (e ∙ ap succ_of h ∙ succ-of (all_rows d b) o p)).0
            (same-key-sym q (row_of o) (rw (same-key-of o q) own)));
        delete-id = λ t m g. on-succ d b (succ-out d b m)
            (λ i. f.delete-id t i (λ r n. g r (old r n)))
            (λ o p i j h. rw (h, succ-of (all_rows d b) o p) (fits o (s.rows_fit o i)).id);
        delete-key = λ t u q p m n g e k h l i.
            on-succ d b (succ-out d b m)
            (λ x. on-succ d b (succ-out d b n)
            (λ y. f.delete-key t u q p x y (λ r z. g r (old r z)) e (owner-kept t x (row_out d b k) h) h (owner-kept u y (row_out d b l) i) i)
            (λ o v y z w. absurd ((s.new o y).1 t x (sym (e ∙ ap succ_of w ∙ succ-of (all_rows d b) o v)))))
            (λ o v x z w. on-succ d b (succ-out d b n)
            (λ y. absurd ((s.new o x).1 u y (sym (ap succ_of w ∙ succ-of (all_rows d b) o v) ∙ e)))
            (λ c a y j k'.
            let one : c ≡ o = one_key id_of b s.apart c o y x (sym (ap succ_of k' ∙ succ-of (all_rows d b) c a) ∙ sym e ∙ ap succ_of w ∙ succ-of (all_rows d b) o v) in
            same-key-trans q o p (pred-kept x z (row_out d b k) (h ∙ ap owner_of w ∙ owner_of-entry (all_rows d b) o v)).1
            (same-key-sym p o (subst (λ a. T (same_key p a)) one (pred-kept y j (row_out d b l) (i ∙ ap owner_of k' ∙ owner_of-entry (all_rows d b) c a)).1))));
        few = λ t m. on-succ d b (succ-out d b m) (few-old t) (λ o p i j e. rw (ap succ_of e ∙ succ-of (all_rows d b) o p) (few-new o i));
        increments = λ r m t.
            on_row d b (row_out d b m) (λ n. let w = f.increments r n t in (w.0, succ-in d b (old-succ d b w.1), w.2))
            (λ o i u e. raised o i r e (subst T (ap is_increment e ∙ is-increment-of o) t));
        carry = λ t m. on-succ d b (succ-out d b m) (λ i. carry-old t i (f.carry t i)) (λ o p i j e. rw e (carry-new o p i j));
      }
    where
      old : (r : Row) → Mem r d.rows → Mem r (merged d b).rows
      old r m = row-in d b (old_row d b m)

      every : (r : Row) → Mem r (all_rows d b) → Mem r (merged d b).rows
      every r m = row-in d b m

      few-succs : length (merged d b).succs ≤ max_succs
      few-succs = unfold merged in omega (arith, length-sort succ_before (all_succs d b), s.succs-few)

      in_order : Rattle.model.specs.Order.order (merged d b).rows ≡ (merged d b).rows
      in_order = unfold merged in order-again (all_rows d b) rs-apart

      ascending : T (ascends succ_before (merged d b).succs)
      ascending = unfold merged in sorted-ascends succ_before (sort succ_before (all_succs d b)) (sort_sorted succ_before (all_succs d b) (succ-order (all_succs d b) ss-apart) (key-distinct-nodup pair_of (all_succs d b) ss-apart))

      -- an Increment has a predecessor
      raised : (o : Op) → Mem o b → (r : Row) → r ≡ row_of o → T (is_increment o) → (t : Succ) × Mem t (merged d b).succs × (succ_of t ≡ id_of r)
      raised o i r e t = go (preds_of o) refl
        where
          go : (ps : List ℕ) → preds_of o ≡ ps → (u : Succ) × Mem u (merged d b).succs × (succ_of u ≡ id_of r)
          go [] g = absurd (omega (arith, (preds-facts o (s.preds-fit o i)).some-increment t, preds-length o (full o i) (s.preds-fit o i), ap length g))
          go (p ∷ ps) g =
              (entry (all_rows d b) o p, succ-in d b (new-succ d b i (rw g (here refl))), succ-of (all_rows d b) o p ∙ sym (ap id_of e ∙ id-of o))

pub merged-well_formed : (d : Document) (b : List Op) → T (well_formed d) → T (shaped_ops b) → T (is_accepted (batch_refusal d b)) → T (well_formed (merged d b))
merged-well_formed d b w h a =
    (formed (merged d b)).1 (merged-formed d b ((formed d).0 w) ((batch-accepted d b).0 a).1 (λ o m. (shape op_words b h o m).full))
