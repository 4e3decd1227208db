-- The rows and entries of a merged document: each is the document's or one that an operation of the batch brings, and no two have one id.
use mathlib.Core.Path.{◌≡◌, sym, ap, ◌∙◌}
use mathlib.Core.List.{List}
use Prim.Native.Nat.{ℕ}
use lib.Dec.{T}
use Rattle.model.specs.Row.{Row, Op, Succ, id_of, preds_of, succ_of}
use Rattle.model.specs.Document.{Document, all_rows, entry, new_succs, all_succs, succ_before, merged}
use Rattle.model.specs.Malformed.{preds_fit}
use Rattle.laws.proofs.Members.{Mem, append_left, append_right, All, on-append}
use Rattle.laws.proofs.Pairs.{KeyDistinct, one_key, pairwise_append}
use Rattle.laws.proofs.Sort.{sort-from, sort-in}
use Rattle.laws.proofs.Perms.{Perm, perm-mem, perm-sym}
use Rattle.laws.proofs.RowOrder.{Apart, SuccsApart, order-perm-self}
use Rattle.laws.proofs.Accepted.{New}
use Rattle.laws.proofs.Entries.{succ-of, new-succs-from, new-succs-in, new-succs-apart}

-- ── rows
module _ (d : Document) (b : List Op) where
  pub rows-perm : Perm (merged d b).rows (all_rows d b)
  unfolding merged
  rows-perm = order-perm-self (all_rows d b)

  pub row_out : {r : Row} → Mem r (merged d b).rows → Mem r (all_rows d b)
  row_out = perm-mem rows-perm

  pub row-in : {r : Row} → Mem r (all_rows d b) → Mem r (merged d b).rows
  row-in = perm-mem (perm-sym rows-perm)

  -- ── entries
  pub on-succ : {C : Type 0} {s : Succ} → Mem s (all_succs d b) → (Mem s d.succs → C)
      → ((o : Op) (p : ℕ) → Mem o b → Mem p (preds_of o) → s ≡ entry (all_rows d b) o p → C) → C
  unfolding all_succs
  on-succ m f g = on-append d.succs m f (λ n. let q = new-succs-from (all_rows d b) b n in g q.0 q.1 q.2 q.3 q.4)

  pub old-succ : {s : Succ} → Mem s d.succs → Mem s (all_succs d b)
  unfolding all_succs
  old-succ m = append_left (new_succs (all_rows d b) b) m

  pub new-succ : {o : Op} {p : ℕ} → Mem o b → Mem p (preds_of o) → Mem (entry (all_rows d b) o p) (all_succs d b)
  unfolding all_succs
  new-succ m i = append_right d.succs (new-succs-in (all_rows d b) b m i)

  pub succ-out : {s : Succ} → Mem s (merged d b).succs → Mem s (all_succs d b)
  unfolding merged
  succ-out m = sort-from succ_before (all_succs d b) m

  pub succ-in : {s : Succ} → Mem s (all_succs d b) → Mem s (merged d b).succs
  unfolding merged
  succ-in m = sort-in succ_before (all_succs d b) m

  pub all-succs-apart : SuccsApart d.succs → KeyDistinct id_of b → All (λ o. New d (id_of o)) b → All (λ o. T (preds_fit o)) b → SuccsApart (all_succs d b)
  unfolding all_succs
  all-succs-apart a k new f =
      pairwise_append d.succs (new_succs (all_rows d b) b) a (new-succs-apart (all_rows d b) b k f)
      (λ x y m n e.
      let q = new-succs-from (all_rows d b) b n in
      (new q.0 q.2).1 x m (sym (ap (λ u. u.1) e ∙ ap succ_of q.4 ∙ succ-of (all_rows d b) q.0 q.1)))

-- ── the row of an id, where no two rows have one
module _ (rs : List Row) (a : Apart rs) where
  pub the_row : {r q : Row} {i : ℕ} → Mem r rs → id_of r ≡ i → Mem q rs → id_of q ≡ i → r ≡ q
  the_row {r} {q} m e n f = one_key id_of rs a r q m n (e ∙ sym f)
