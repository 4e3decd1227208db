-- Each check as the code makes it is the model's.
use Rattle.std.specs.Prelude.{if◌then◌else◌}
use Prim.Native.Nat.{ℕ}
use mathlib.Core.Path.{◌≡◌, refl, sym, ap, ap₂, ◌∙◌}
use mathlib.Core.Bool.{Bool, true, false, not, ◌&&◌, ◌||◌}
use mathlib.Core.List.{List, ◌++◌, map}
use native.Mathlib.Omega.{arith}
use lib.Dec.{T, ltb, eqb, eqb→eq}
use Rattle.model.specs.Basic.{any}
use Rattle.model.specs.Id.{root, head}
use Rattle.model.specs.Kinds.{make_map, make_list, delete}
use Rattle.model.specs.Row.{Row, Op, id_of, object_of, named_of, on_list, is_insert, action_of, is_delete, is_set_or_make, row_of, rows_with, preds_of, succ_of}
use Rattle.model.specs.Key.{same_key}
use Rattle.model.specs.Document.{Document, new_rows, all_rows}
use Rattle.model.specs.Malformed.{row_fits}
use Rattle.model.specs.Refusal.{id_taken, has_make, object_fits, element_fits, pred_fits, preds_exist}
use Rattle.laws.proofs.Tests.{by-test, is_true, is_false}
use Rattle.laws.proofs.Members.{Mem, All, any_append, any-ext, all-ext, on-append}
use Rattle.laws.proofs.RowFits.{fits}
use Rattle.laws.proofs.RowWords.{word_of, id-of, object-fits-of, element-fits-of, same-key-of, new-rows-from, with-from}
use Rattle.ids.specs.Words.{same_words}
use Rattle.checks.proofs.OneKey.{Plain, one_key}
use Rattle.refusal.specs.TakenIds.{has_word, word_in, taken}
use Rattle.refusal.specs.Bearing.{makes_for, insert_for, stands_for, bears, refers_well, object_right, element_right, preds_right}
use Rattle.refusal.proofs.Among.{any-map, among}

-- ---- 5

pub taken_is : (d : Document) (earlier : List Op) (o : Op) → taken earlier d.rows d.succs (id_of o) ≡ id_taken d earlier o
unfolding taken word_in has_word id_taken
taken_is d earlier o =
    let p = eqb (id_of o) in
    let a = map id_of earlier in
    let b = map id_of d.rows in
    sym
    (any_append p (a ++ b) (map succ_of d.succs)
    ∙ ap₂ ◌||◌ (any_append p a b ∙ ap₂ ◌||◌ (any-map p id_of earlier) (any-map p id_of d.rows)) (any-map p succ_of d.succs))

-- ---- what a Delete is not

module _ (o : Op) (x : Row) (t : T (is_delete o)) where
  action : action_of (row_of o) ≡ delete
  action = word_of o 9 (omega arith) ∙ eqb→eq (action_of o) delete t

  no-make : bears 6 (row_of o) x ≡ false
  unfolding bears makes_for
  no-make = rw action (go (on_list x))
    where
      go : (b : Bool) → eqb delete (if b then make_list else make_map) ≡ false
      go true = refl
      go false = refl

  no-insert : T (row_fits o) → bears 7 (row_of o) x ≡ false
  unfolding bears insert_for
  no-insert f =
      let plain = rw (is_true (is_delete o) t) at (fits o f).plain in
      let e : is_insert o ≡ false = bare (is_insert o) plain in
      rw (word_of o 8 (omega arith), e)
    where
      bare : (i : Bool) → T (not (i && true)) → i ≡ false
      bare true u = absurd u
      bare false u = refl

  no-set : bears 8 (row_of o) x ≡ false
  unfolding bears stands_for
  no-set = rw action

by-words : (r x : Row) → bears 8 r x ≡ (is_set_or_make r && same_words r x)
unfolding bears stands_for
by-words r x = refl

-- ---- 6 to 8

module _ (d : Document) (b : List Op) where
  rows_are : all_rows d b ≡ d.rows ++ new_rows b
  unfolding all_rows
  rows_are = refl

  -- the row that is named, among all
  refers-is : (number : ℕ) (x : Row) (id : ℕ) → All (λ o. T (is_delete o) → bears number (row_of o) x ≡ false) b
      → refers_well number d.rows b x id ≡ (ltb id (id_of x) && any (λ r. bears number r x) (rows_with (all_rows d b) id))
  unfolding refers_well
  refers-is number x id none =
      ap (λ (v : Bool). ltb id (id_of x) && v) (sym (ap (λ rs. any (λ r. bears number r x) (rows_with rs id)) rows_are ∙ among number x id d.rows b none))

  make-is : (x : Row) → refers_well 6 d.rows b x (object_of x) ≡ has_make (λ r. eqb (action_of r) (if on_list x then make_list else make_map)) (all_rows d b) x
  unfolding has_make bears makes_for
  make-is x = refers-is 6 x (object_of x) (λ o m t. no-make o x t)

  object-row : (x : Row) → object_right d.rows b x ≡ object_fits (all_rows d b) x
  unfolding object_right object_fits
  object-row x =
      by-test (on_list x)
      (λ t. let e = is_true (on_list x) t in rw e (make-is x ∙ ap (λ (v : Bool). has_make (λ r. eqb (action_of r) (if v then make_list else make_map)) (all_rows d b) x) e))
      (λ t.
      let e = is_false (on_list x) t in
      rw e
      (ap (λ (v : Bool). not (is_insert x) && (eqb (object_of x) root || v)) (make-is x ∙ ap (λ (v : Bool). has_make (λ r. eqb (action_of r) (if v then make_list else make_map)) (all_rows d b) x) e)))

  pub object-is : (o : Op) → object_right d.rows b (row_of o) ≡ object_fits (all_rows d b) o
  object-is o = object-row (row_of o) ∙ object-fits-of o (all_rows d b)

  module _ (fit : All (λ o. T (row_fits o)) b) where
    element-row : (x : Row) → element_right d.rows b x ≡ element_fits (all_rows d b) x
    unfolding element_right element_fits bears insert_for
    element-row x =
        ap (λ (v : Bool). eqb (named_of x) head || v) (refers-is 7 x (named_of x) (λ o m t. no-insert o x t (fit o m)))

    pub element-is : (o : Op) → element_right d.rows b (row_of o) ≡ element_fits (all_rows d b) o
    element-is o = element-row (row_of o) ∙ element-fits-of o (all_rows d b)

  module _ (plain : All Plain d.rows) (plain-ops : All (λ o. Plain (row_of o)) b) where
    plain-all : All Plain (all_rows d b)
    plain-all r m =
        on-append d.rows (rw rows_are at m) (plain r) (λ i. let p = new-rows-from b i in rw p.3 (plain-ops p.0 p.1))

    pred-is : (o : Op) → Mem o b → (p : ℕ) → refers_well 8 d.rows b (row_of o) p ≡ pred_fits (all_rows d b) o p
    unfolding pred_fits
    pred-is o m p =
        refers-is 8 (row_of o) p (λ q i t. no-set q (row_of o) t)
        ∙ ap₂ (λ (i : ℕ) (v : Bool). ltb p i && v) (id-of o)
        (any-ext (λ r. bears 8 r (row_of o)) (λ r. is_set_or_make r && same_key r o) (rows_with (all_rows d b) p) (λ r i. stands r o (plain-all r (with-from (all_rows d b) p i).0) (plain-ops o m)))
      where
        stands : (r : Row) (o : Op) → Plain r → Plain (row_of o) → bears 8 r (row_of o) ≡ (is_set_or_make r && same_key r o)
        stands r o j k = by-words r (row_of o) ∙ ap (λ (v : Bool). is_set_or_make r && v) (one_key r (row_of o) j k ∙ same-key-of o r)

    pub preds-are : (o : Op) → Mem o b → preds_right d.rows b (row_of o) (preds_of o) ≡ preds_exist (all_rows d b) o
    unfolding preds_right preds_exist
    preds-are o m = all-ext (refers_well 8 d.rows b (row_of o)) (pred_fits (all_rows d b) o) (preds_of o) (λ p i. pred-is o m p)
