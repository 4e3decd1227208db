-- The rules together: what the first of them give to the later ones, and that they are the definition's.
use Prim.Native.Nat.{ℕ, ◌*◌, ◌<◌, ◌≤◌}
use mathlib.Core.Path.{◌≡◌, refl, sym, ◌∙◌}
use mathlib.Core.Bool.{Bool, true, false, ◌&&◌, ◌||◌}
use mathlib.Core.List.{List, []}
use native.Mathlib.Omega.{arith}
use borrow.Author.Tests.{le-leb, le-ltb, lt-ltb, ltb-false}
use lib.Dec.{T, ltb, eqb, eqb→eq}
use lib.ListN.{length, get_or}
use Rattle.model.specs.Basic.{ascends, pieces}
use Rattle.model.specs.Sizes.{word_range, max_rows, max_succs, row_words, succ_words, room_words}
use Rattle.model.specs.Row.{Row, Succ}
use Rattle.model.specs.Document.{Document}
use Rattle.model.specs.Malformed.{row_fits}
use Rattle.model.specs.Refusal.{object_fits, element_fits}
use Rattle.model.specs.Calls.{document_in, document_sized}
use Rattle.model.specs.WellFormed.{counts_fit, no_delete, rows_pass, ids_differ, in_order, succs_ascend, owners_stand, succ_rows_fit, deletes_fit, succs_few, increments_stand, increments_right, well_formed}
use Rattle.laws.proofs.Tests.{T_and, by_order, of-true, is_true}
use Rattle.laws.proofs.Members.{All, all_from}
use Rattle.laws.proofs.Pieces.{length-pieces}
use Rattle.laws.proofs.Passes.{first_begins, nearest_from}
use Rattle.ids.proofs.ByIndex.{whole_row}
use Rattle.ids.proofs.KeyWords.{Whole}
use Rattle.ids.proofs.Ranges.{range-mem}
use Rattle.wellformed.specs.Checked.{Differing, Checked, Lent}
use Rattle.wellformed.specs.Neighbours.{follows}
use Rattle.wellformed.specs.Document.{document_of, rows_right, succs_right, rules_hold, fits_claims}
use Rattle.wellformed.proofs.Differ.{differing}
use Rattle.wellformed.proofs.InOrder.{order_is}

-- ---- rows that passed

pub all_right : (rows : List Row) → no_delete (document_of rows []) ≡ true → ids_differ (document_of rows []) ≡ true → rows_pass (document_of rows []) ≡ true → rows_right (document_of rows []) ≡ true
unfolding rows_right
all_right rows d i p = rw (d, i, p)

pub checked_from : {rows : List Row} → All Whole rows → rows_right (document_of rows []) ≡ true → Checked rows
unfolding rows_right rows_pass
checked_from {rows = rs} l e =
    let d = document_of rs [] in
    let u = (T_and (no_delete d && ids_differ d) (rows_pass d)).0 (of-true e) in
    let differ : Differing rs = differing rs (is_true (ids_differ d) ((T_and (no_delete d) (ids_differ d)).0 u.0).1) in
    let test : Row → Bool = λ r. row_fits r && object_fits rs r && element_fits rs r in
    let both : All (λ r. T (row_fits r && object_fits rs r) × T (element_fits rs r)) rs = λ r m. (T_and (row_fits r && object_fits rs r) (element_fits rs r)).0 (all_from test rs u.1 r m) in
    let fit : All (λ r. T (row_fits r)) rs = λ r m. ((T_and (row_fits r) (object_fits rs r)).0 (both r m).0).0 in
    record {
      differing = differ;
      placed =
          record {
            apart = differ.apart;
            fit = fit;
            objects = λ r m. ((T_and (row_fits r) (object_fits rs r)).0 (both r m).0).1;
            elements = λ r m. (both r m).1;
          };
      plain = λ r m. record { whole = l r m; fit = fit r m };
    }

pub in_order_is : {rows : List Row} → Checked rows
    → in_order (document_of rows []) ≡ (first_begins rows && ascends follows rows && nearest_from 0 [] rows)
unfolding in_order
in_order_is {rows} s = order_is rows s.placed s.plain

-- ---- all rules

-- the rules of rows look at rows alone
pub whole : (rows : List Row) (succs : List Succ)
    → rules_hold (document_of rows succs) ≡ (rows_right (document_of rows []) && succs_right (document_of rows succs) && in_order (document_of rows []))
unfolding rules_hold rows_right no_delete ids_differ rows_pass in_order
whole rows succs = refl

pub succs_parts : (rows : List Row) (succs : List Succ)
    → succs_right (document_of rows succs)
    ≡ (succs_ascend (document_of [] succs)
    && owners_stand (document_of rows succs)
    && succ_rows_fit (document_of rows succs)
    && deletes_fit (document_of rows succs)
    && succs_few (document_of [] succs)
    && increments_stand (document_of rows succs)
    && increments_right (document_of rows succs))
unfolding succs_right succs_ascend succs_few
succs_parts rows succs = refl

seven : (x a b d e f g h : Bool) → (((((((x && a) && b) && d) && e) && f) && g) && h) ≡ (x && ((((((a && b) && d) && e) && f) && g) && h))
seven true a b d e f g h = refl
seven false a b d e f g h = refl

shuffle : (a p i o s : Bool) → ((((true && a) && p) && i) && o) && s ≡ (((a && i) && p) && s) && o
shuffle false p i o s = refl
shuffle true false true o s = refl
shuffle true false false o s = refl
shuffle true true false o s = refl
shuffle true true true true true = refl
shuffle true true true true false = refl
shuffle true true true false true = refl
shuffle true true true false false = refl

rules-are : (d : Document) → counts_fit d ≡ true → well_formed d ≡ rules_hold d
unfolding well_formed rules_hold rows_right succs_right
rules-are d e =
    seven (counts_fit d && no_delete d && rows_pass d && ids_differ d && in_order d) (succs_ascend d) (owners_stand d) (succ_rows_fit d) (deletes_fit d) (succs_few d) (increments_stand d) (increments_right d)
    ∙ rw e
    (shuffle (no_delete d) (rows_pass d) (ids_differ d) (in_order d) (succs_ascend d && owners_stand d && succ_rows_fit d && deletes_fit d && succs_few d && increments_stand d && increments_right d))

counts-are : (n : ℕ) (rows : List ℕ) (m : ℕ) (succs : List ℕ) → n ≤ max_rows → m ≤ max_succs → counts_fit (document_in n rows m succs) ≡ true
unfolding counts_fit
counts-are n rows m succs h k = rw (length-pieces row_words n rows, length-pieces succ_words m succs, le-leb n max_rows h, le-leb m max_succs k)

pub within : (n m : ℕ) → (ltb max_rows n || ltb max_succs m) ≡ false → (n ≤ max_rows) × (m ≤ max_succs)
within n m e =
    by_order max_rows n
    (λ h. absurd (of-true (sym e ∙ rw (lt-ltb max_rows n h))))
    (λ h. (h, ltb-false max_succs m (rw (le-ltb max_rows n h) at e)))

module _ (n : ℕ) (rows : List ℕ) (m : ℕ) (succs : List ℕ) where
  pub claims-over : (ltb max_rows n || ltb max_succs m) ≡ true → false ≡ fits_claims n rows m succs
  unfolding fits_claims
  claims-over e = rw e

  pub claims-fit : (ltb max_rows n || ltb max_succs m) ≡ false → fits_claims n rows m succs ≡ rules_hold (document_in n rows m succs)
  unfolding fits_claims
  claims-fit e =
      let h = within n m e in
      rw e (rules-are (document_in n rows m succs) (counts-are n rows m succs h.0 h.1))

-- slices of the documented sizes hold what is claimed
pub record Held (n : ℕ) (rows room : List ℕ) : Type 0 where
  pub sized : n * row_words ≤ length rows
  pub spacious : n ≤ length room

few-held : (n : ℕ) (rows succs room : List ℕ) → document_sized rows succs room ≡ true → n ≤ max_rows → Held n rows room
unfolding document_sized max_rows room_words
few-held n rows succs room e h =
    let a = eqb (length rows) (max_rows * row_words) in
    let b = eqb (length succs) (max_succs * succ_words) in
    let u = (T_and (a && b) (eqb (length room) room_words)).0 (of-true e) in
    let r = eqb→eq (length rows) (max_rows * row_words) ((T_and a b).0 u.0).0 in
    let q = eqb→eq (length room) room_words u.1 in
    record { sized = omega arith; spacious = omega arith }

pub lent-from : (n m : ℕ) (rows succs room : List ℕ) → document_sized rows succs room ≡ true → (ltb max_rows n || ltb max_succs m) ≡ false → Held n rows room
lent-from n m rows succs room e h = few-held n rows succs room e (within n m h).0

-- so the rows claimed are whole
pub lent_rows : {n : ℕ} {rows room : List ℕ} → Held n rows room → ((j : ℕ) → get_or rows j 0 < word_range) → Lent (pieces row_words n rows) room
lent_rows {n} {rows} l range =
    let s = l.sized in
    record {
      whole = λ x m.
          let p = range-mem row_words rows 0 n m in
          let k = p.2 in
          rw p.3 (whole_row rows p.0 (omega arith) range);
      spacious = let r = l.spacious in omega (arith, length-pieces row_words n rows);
    }
