-- The merge's call is the definition's: slices that do not fit, refusals, and the end of the call.
use Rattle.std.specs.Prelude.{if◌then◌else◌}
use Prim.Native.Nat.{ℕ, ◌*◌, ◌<◌}
use mathlib.Core.Path.{◌≡◌, refl, sym, ap, ◌∙◌}
use mathlib.Core.Bool.{Bool, true, false, ◌&&◌}
use mathlib.Core.List.{List, [], ◌∷◌}
use native.Mathlib.Nat.{mul-le-mul_right}
use native.Mathlib.Omega.{arith}
use borrow.Author.Tests.{eqb-true}
use lib.Dec.{T, eqb, eqb→eq}
use lib.ListN.{length, get_or, replicate, length-replicate}
use Rattle.model.specs.Sizes.{max_rows, max_succs, row_words, op_words, succ_words, room_words, word_range}
use Rattle.model.specs.Document.{Document, merged}
use Rattle.model.specs.Answer.{Answer, accepted, refused, is_accepted, ◌otherwise◌}
use Rattle.model.specs.Refusal.{batch_refusal}
use Rattle.model.specs.Calls.{MergeBack, document_in, batch_in, document_sized, batch_sized, over, cleared, claim_refusal, document_refusal, merge_refusal, merge_end, merge_call}
use Rattle.laws.proofs.Tests.{T_and, of-true}
use Rattle.refusal.specs.LentFits.{Lent}
use Rattle.refusal.specs.CheckedBatch.{checked}
use Rattle.refusal.proofs.Told.{refused-is, accepted-is, accepted-rows, accepted-succs}
use Rattle.wellformed.specs.Document.{fits_claims}
use Rattle.wellformed.proofs.Refusal.{refusal-2, fits-limits, fits-well}
use Rattle.wellformed.proofs.Whole.{within}
use Rattle.batch.specs.Answers.{back, Fitting, Merging}
use Rattle.batch.proofs.Merging.{row_count, succ-count}

-- ── what may be relied on
lent : {n : ℕ} {rows : List ℕ} {m : ℕ} {succs : List ℕ} {k : ℕ} {ops room : List ℕ} → Fitting n rows m succs k ops room → Lent n rows m succs k ops
lent g = record { rows-there = g.rows_in; succs-there = g.succs-in; ops-there = g.ops-in }

pub cleared-twice : (room : List ℕ) → cleared room ≡ cleared (cleared room)
cleared-twice room = ap (λ (n : ℕ). replicate n 0) (sym (length-replicate (length room) 0))

-- a room that was cleared before ends as one that was not
end-clear : (a : Answer) (new : Document) (rows succs ops room : List ℕ) → merge_end a new rows succs ops (cleared room) ≡ merge_end a new rows succs ops room
end-clear (accepted values) new rows succs ops room =
    ap (back (accepted (length new.rows ∷ length new.succs ∷ [])) (over rows new.rows) (over succs new.succs) ops) (sym (cleared-twice room))
end-clear (refused number place) new rows succs ops room = ap (back (refused number place) rows succs ops) (sym (cleared-twice room))

-- ── once the document is known to be well-formed or not
module _ (n : ℕ) (rows : List ℕ) (m : ℕ) (succs : List ℕ) (k : ℕ) (ops room : List ℕ) where
  abbrev d : Document
  d = document_in n rows m succs

  abbrev b : List (List ℕ)
  b = batch_in k ops

  module _ (g : Fitting n rows m succs k ops room) (range-rows : (j : ℕ) → get_or rows j 0 < word_range) (range-ops : (j : ℕ) → get_or ops j 0 < word_range) where
    pub refused-so : {number place : ℕ} → refused number place ≡ checked n rows m succs k ops → room ≡ cleared room
        → back (refused number place) rows succs ops room ≡ merge_end (batch_refusal d b) (merged d b) rows succs ops room
    refused-so {number} {place} q c = rw (refused-is n rows m succs k ops g.well (lent g) range-rows range-ops q) (ap (back (refused number place) rows succs ops) c)

    pub may-merge : {x y : ℕ} → accepted (x ∷ y ∷ []) ≡ checked n rows m succs k ops → Merging n rows m succs k ops room
    may-merge q = record { fitting = g; passes = accepted-is n rows m succs k ops g.well (lent g) range-rows range-ops q }

    pub accepted-so : {x y : ℕ} {rows₂ succs₂ room₂ : List ℕ} → accepted (x ∷ y ∷ []) ≡ checked n rows m succs k ops → rows₂ ≡ over rows (merged d b).rows → succs₂ ≡ over succs (merged d b).succs
        → room₂ ≡ cleared room → back (accepted (x ∷ y ∷ [])) rows₂ succs₂ ops room₂ ≡ merge_end (batch_refusal d b) (merged d b) rows succs ops room
    accepted-so q r s c =
        let w = may-merge q in
        let x-is = accepted-rows n rows m succs k ops g.well (lent g) range-rows range-ops q ∙ row_count n rows m succs k ops room w range-rows range-ops in
        let y-is = accepted-succs n rows m succs k ops g.well (lent g) range-rows range-ops q ∙ succ-count n rows m succs k ops room w range-rows range-ops in
        rw (r, s, c, x-is, y-is) (ends (batch_refusal d b) w.passes)
      where
        ends : (a : Answer) → T (is_accepted a) → back (accepted (length (merged d b).rows ∷ length (merged d b).succs ∷ [])) (over rows (merged d b).rows) (over succs (merged d b).succs) ops (cleared room)
            ≡ merge_end a (merged d b) rows succs ops room
        ends (accepted values) t = refl
        ends (refused number place) t = absurd t

  -- ── the call
  pub misfit-document : document_sized rows succs room ≡ false → back (refused 1 0) rows succs ops room ≡ merge_call n rows m succs k ops room
  unfolding merge_call
  misfit-document e = rw e

  pub misfit-batch : document_sized rows succs room ≡ true → batch_sized k ops ≡ false → back (refused 1 0) rows succs ops room ≡ merge_call n rows m succs k ops room
  unfolding merge_call
  misfit-batch e f = rw (e, f)

  pub fit-to-merge : document_sized rows succs room ≡ true → batch_sized k ops ≡ true → fits_claims n rows m succs ≡ true → {room₂ : List ℕ} → length room₂ ≡ length room → Fitting n rows m succs k ops room₂
  unfolding document_sized batch_sized
  fit-to-merge e f t l =
      let r = eqb (length rows) (max_rows * row_words) in
      let s = eqb (length succs) (max_succs * succ_words) in
      let o = eqb (length room) room_words in
      let u = (T_and (r && s) o).0 (of-true e) in
      let v = (T_and r s).0 u.0 in
      let h = within n m (fits-limits n rows m succs t) in
      record {
        rows-size = eqb→eq (length rows) (max_rows * row_words) v.0;
        succs-size = eqb→eq (length succs) (max_succs * succ_words) v.1;
        room-size = l ∙ eqb→eq (length room) room_words u.1;
        rows_in = let q = h.0 in omega (arith, mul-le-mul_right row_words q, eqb→eq (length rows) (max_rows * row_words) v.0);
        succs-in = let q = h.1 in omega (arith, mul-le-mul_right succ_words q, eqb→eq (length succs) (max_succs * succ_words) v.1);
        ops-in = let q = eqb-true (length ops) (k * op_words) f in omega arith;
        well = of-true (fits-well n rows m succs t);
      }

  -- the answer, once it is known whether the document is well-formed
  said : {formed : Bool} → fits_claims n rows m succs ≡ formed → (claim_refusal n m otherwise document_refusal d otherwise batch_refusal d b) ≡ (if formed then batch_refusal d b else refused 2 0)
  said t = refusal-2 n rows m succs (batch_refusal d b) ∙ ap (λ (formed : Bool). if formed then batch_refusal d b else refused 2 0) t

  -- the room comes back cleared where the document is not well-formed
  pub not-formed : document_sized rows succs room ≡ true → batch_sized k ops ≡ true → fits_claims n rows m succs ≡ false → {left : List ℕ} → left ≡ cleared room
      → back (refused 2 0) rows succs ops left ≡ merge_call n rows m succs k ops room
  unfolding merge_call merge_refusal
  not-formed e f t l =
      ap (back (refused 2 0) rows succs ops) l
      ∙ ap (λ (a : Answer). merge_end a (merged d b) rows succs ops room) (sym (said t))
      ∙ sym (rw (e, f))

  pub call_ends : document_sized rows succs room ≡ true → batch_sized k ops ≡ true → fits_claims n rows m succs ≡ true → {left : List ℕ} {given : MergeBack} → left ≡ cleared room
      → given ≡ merge_end (batch_refusal d b) (merged d b) rows succs ops left → given ≡ merge_call n rows m succs k ops room
  unfolding merge_call merge_refusal
  call_ends e f t {left} l q =
      q
      ∙ ap (merge_end (batch_refusal d b) (merged d b) rows succs ops) l
      ∙ end-clear (batch_refusal d b) (merged d b) rows succs ops room
      ∙ ap (λ (a : Answer). merge_end a (merged d b) rows succs ops room) (sym (said t))
      ∙ sym (rw (e, f))
