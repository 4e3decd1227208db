-- From the entries that were written to the document's successors with the batch's among them, in the lent slices.
use mathlib.Core.Path.{◌≡◌, sym, ap, ap₂, ◌∙◌}
use mathlib.Core.List.{List, ◌++◌}
use Prim.Native.Nat.{ℕ, ◌+◌, ◌*◌, ◌≤◌}
use native.Mathlib.Omega.{arith}
use lib.Dec.{T}
use lib.ListN.{length, take, drop, take-append-drop}
use lib.Seq.{length-take-le}
use Rattle.model.specs.Basic.{sort, pieces, concat}
use Rattle.model.specs.Sizes.{max_succs, row_words, succ_words, room_words}
use Rattle.model.specs.Row.{Op}
use Rattle.model.specs.Document.{Document, all_rows, new_succs, all_succs, succ_before}
use Rattle.model.specs.Answer.{is_accepted}
use Rattle.model.specs.Refusal.{batch_refusal}
use Rattle.model.specs.WellFormed.{well_formed}
use Rattle.model.specs.Calls.{document_in, batch_in, over}
use Rattle.laws.proofs.Pieces.{length-pieces, concat-pieces}
use Rattle.laws.proofs.Accepted.{Sound, batch-accepted}
use Rattle.laws.proofs.Formed.{formed}
use Rattle.batch.specs.Merge.{merge}
use Rattle.batch.specs.Entries.{counter_among, new_entries, max_entries}
use Rattle.batch.specs.MergedEntries.{EntriesFit, EntriesMerged}
use Rattle.batch.proofs.NewSuccs.{room-enough, entries-new, new-few, new_apart, all-few, merge-all}

-- pieces at the start of a slice, all else as it was
pub pieces-over : (w n : ℕ) (old x : List ℕ) {l : List (List ℕ)} → n * w ≤ length x → pieces w n x ≡ l → drop (n * w) x ≡ drop (n * w) old → x ≡ over old l
pieces-over w n old x {l} h e p =
    let f : take (n * w) x ≡ concat l = sym (concat-pieces w n x) ∙ ap concat e in
    let k : n * w ≡ length (concat l) = sym (length-take-le (n * w) x h) ∙ ap length f in
    sym (take-append-drop (n * w) x) ∙ ap₂ ◌++◌ f (p ∙ ap (λ (i : ℕ). drop i old) k)

module _ (n : ℕ) (rows : List ℕ) (m : ℕ) (succs : List ℕ) (k : ℕ) (ops : List ℕ) (taken : T (is_accepted (batch_refusal (document_in n rows m succs) (batch_in k ops)))) where
  abbrev d : Document
  d = document_in n rows m succs

  abbrev b : List Op
  b = batch_in k ops

  sound : Sound d b
  sound = ((batch-accepted d b).0 taken).1

  few : length (new_succs (all_rows d b) b) ≤ max_entries
  few = new-few d b sound ((batch-accepted d b).0 taken).0

  -- what `write_entries` asks
  pub entries-room : (L : ℕ) → L ≡ room_words → length (new_entries (counter_among (pieces row_words n rows) b) b) * succ_words ≤ L
  entries-room L e = omega (arith, ap length (entries-new d b sound), few, room-enough)

  -- and `merge_entries`
  module _ {t : ℕ} (count : t ≡ length (new_entries (counter_among (pieces row_words n rows) b) b)) where
    pub t-new : t ≡ length (new_succs (all_rows d b) b)
    t-new = count ∙ ap length (entries-new d b sound)

    pub t-few : t ≤ max_entries
    t-few = omega (arith, t-new, few)

    module _ (new : List ℕ) (listed : pieces succ_words t new ≡ new_entries (counter_among (pieces row_words n rows) b) b) where
      pub entries_fit : length succs ≡ max_succs * succ_words → length new ≡ room_words → EntriesFit m t new succs
      entries_fit e r =
          record {
            room = omega (arith, t-new, all-few d b sound, length-pieces succ_words m succs);
            there = omega (arith, t-few, room-enough);
            apart = rw (listed ∙ entries-new d b sound) (new_apart d b sound);
          }

      pub succs-written : T (well_formed d) → length succs ≡ max_succs * succ_words → {x : List ℕ} → length x ≡ length succs → EntriesMerged m t new succs x → x ≡ over succs (sort succ_before (all_succs d b))
      succs-written w e {x} l c =
          pieces-over succ_words (m + t) succs x (omega (arith, t-new, all-few d b sound, length-pieces succ_words m succs))
          (c.front ∙ ap (λ (u : List (List ℕ)). merge succ_before d.succs (sort succ_before u)) (listed ∙ entries-new d b sound) ∙ merge-all d b sound ((formed d).0 w))
          c.past
